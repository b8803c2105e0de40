-- Lemmas that attributes name.
pub use Rattle.ipc_format_column_reading.proofs.bytes_lemmas.FlatRanges.{primitive_len, strings_len}
