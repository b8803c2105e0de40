pub mod CountedNulls
pub mod NullColumns
pub mod NumberMasks
pub mod SlotLists
pub use Rattle.nested_arrays_arrays.proofs as arrays_lemmas
pub use Rattle.nested_arrays_arrays.proofs.columns_lemmas
pub use Rattle.nested_arrays_arrays.proofs.flat_arrays_lemmas
pub use Rattle.nested_arrays_arrays.proofs.flat_lemmas
pub use Rattle.nested_arrays_arrays.proofs.parts_lemmas
pub use Rattle.nested_arrays_arrays.proofs.columnar_memory_lemmas
pub mod Passed
