-- Lemmas of the packages below that attributes name.
pub use Rattle.flat_arrays_byte_values_builders.proofs.bytes_lemmas.Places.{text_among}
