-- Lemmas and definitions of the packages below that attributes name.
unfoldable pub use Rattle.ipc_format_values.specs.grammar.Framing.{frame_at}
