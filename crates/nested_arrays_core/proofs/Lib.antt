pub mod DictionaryParts
pub mod KeyedMasks
pub mod ListParts
pub mod NamedSlots
pub mod TakenKeys
pub use Rattle.nested_arrays_access.proofs as access_lemmas
pub use Rattle.nested_arrays_access.proofs.columns_lemmas
pub use Rattle.nested_arrays_access.proofs.flat_arrays_lemmas
pub use Rattle.nested_arrays_access.proofs.flat_lemmas
pub use Rattle.nested_arrays_access.proofs.parts_lemmas
pub use Rattle.nested_arrays_access.proofs.arrays_lemmas
pub use Rattle.nested_arrays_access.proofs.columnar_memory_lemmas
pub mod Passed
