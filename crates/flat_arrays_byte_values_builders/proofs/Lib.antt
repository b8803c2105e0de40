pub mod Along
pub mod First
pub mod Gathered
pub mod Growth
pub mod Kept
pub mod Masks
pub mod Undone
pub use Rattle.flat_arrays_bytes.proofs as bytes_lemmas
pub use Rattle.flat_arrays_bytes.proofs.values_lemmas
pub use Rattle.flat_arrays_bytes.proofs.columnar_memory_lemmas
