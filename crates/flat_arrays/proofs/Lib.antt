pub use Rattle.flat_arrays_byte_builders.proofs.bytes_lemmas
pub use Rattle.flat_arrays_builders.proofs.values_lemmas
