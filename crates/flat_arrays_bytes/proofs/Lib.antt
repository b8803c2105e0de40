pub mod Cuts
pub mod Places
pub mod Ranges
pub mod Slots
pub mod TextCuts
pub mod Gathered
pub mod Nulls
pub mod StringWalks
pub use Rattle.flat_arrays_values.proofs as values_lemmas
pub use Rattle.flat_arrays_values.proofs.columnar_memory_lemmas
