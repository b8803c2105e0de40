pub mod BitRanges
pub mod FlatCuts
pub mod FlatMasks
pub mod KeyCuts
pub mod LaidFlats
pub mod LaidVariants
pub mod Marks
pub mod OffsetLists
pub mod SameForms
pub mod SameNumbers
pub mod SameStrings
pub mod SlotCounts
pub mod StoredForms
pub use Rattle.nested_arrays_flat.proofs as flat_lemmas
pub use Rattle.nested_arrays_flat.proofs.columns_lemmas
pub use Rattle.nested_arrays_flat.proofs.flat_arrays_lemmas
pub use Rattle.nested_arrays_flat.proofs.columnar_memory_lemmas
