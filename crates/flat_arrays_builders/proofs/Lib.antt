pub mod Along
pub mod Popped
pub use Rattle.flat_arrays_values.proofs as values_lemmas
pub use Rattle.flat_arrays_values.proofs.columnar_memory_lemmas
