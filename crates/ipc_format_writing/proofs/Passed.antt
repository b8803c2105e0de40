-- Lemmas and definitions of the packages below that attributes name.
unfoldable pub use Rattle.ipc_format_messages.specs.grammar.Ids.{default_ids}
unfoldable pub use Rattle.ipc_format_messages.specs.grammar.Writable.{normalised}
