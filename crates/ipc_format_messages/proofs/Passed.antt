-- Lemmas and definitions of the packages below that attributes name.
unfoldable pub use Rattle.ipc_format_metadata.specs.grammar.Messages.{dictionary_batch_in, message_in, pair_at}
unfoldable pub use Rattle.ipc_format_metadata.specs.grammar.Messages.{record_batch_in, struct_at, version_in}
