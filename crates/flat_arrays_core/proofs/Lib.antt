pub use Rattle.flat_arrays_bytes.proofs as bytes_lemmas
pub use Rattle.flat_arrays_bytes.proofs.values_lemmas
