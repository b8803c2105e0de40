pub mod ByteSlots
pub mod FlatKinds
pub mod FlatSlots
pub mod FrozenParts
pub mod KeptArrays
pub mod OpenColumns
pub use Rattle.nested_arrays_builders.proofs as builders_lemmas
pub use Rattle.nested_arrays_builders.proofs.arrays_lemmas
pub use Rattle.nested_arrays_builders.proofs.parts_lemmas
pub use Rattle.nested_arrays_builders.proofs.generic_lemmas
