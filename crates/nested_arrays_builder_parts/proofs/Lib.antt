pub mod CellSlots
pub mod FlatLayers
pub mod FrozenStrings
pub mod FrozenValues
pub mod GrownMasks
pub mod KeptSlots
pub mod MarkLists
pub mod NewNodes
pub mod StringLists
pub mod StringSlots
pub use Rattle.nested_arrays_core.proofs.arrays_lemmas
pub use Rattle.nested_arrays_core.proofs.columns_lemmas
pub use Rattle.nested_arrays_core.proofs as generic_lemmas
