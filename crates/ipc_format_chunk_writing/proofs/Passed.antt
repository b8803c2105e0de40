-- Definitions of the packages below that attributes name.
unfoldable pub use Rattle.ipc_format_batch_reading.specs.grammar.Writable.{normalised}
