pub mod FieldLoops
pub mod FirstSpans
pub mod FrozenLists
pub mod ListLengths
pub mod ListPushes
pub mod ListSlots
pub mod ListsStored
pub mod OpenLists
pub mod OpenStructs
pub mod StructMakes
pub mod StructRows
pub mod StructsStored
pub use Rattle.nested_arrays_nulls.proofs as nulls_lemmas
pub use Rattle.nested_arrays_cells.proofs as cells_lemmas
