pub mod ByteParts
pub mod CellLayers
pub mod LinkedHashes
pub mod Looked
pub mod Needs
pub mod Raises
pub mod UsedValues
pub use Rattle.nested_arrays_builder_parts.proofs as parts_lemmas
pub use Rattle.nested_arrays_builder_parts.proofs.generic_lemmas
