pub mod NamedKeys
pub mod NamedSlots
pub mod ReadSlots
pub mod TypedItems
pub mod Walks
pub use Rattle.nested_arrays_core.proofs as generic_lemmas
pub use Rattle.nested_arrays_core.proofs.columns_lemmas
pub use Rattle.nested_arrays_core.proofs.flat_arrays_lemmas
pub use Rattle.nested_arrays_core.proofs.flat_lemmas
pub use Rattle.nested_arrays_core.proofs.parts_lemmas
pub use Rattle.nested_arrays_core.proofs.arrays_lemmas
pub use Rattle.nested_arrays_core.proofs.access_lemmas
pub use Rattle.nested_arrays_core.proofs.columnar_memory_lemmas
pub mod Passed
