pub mod CellForms
pub mod CellPlaces
pub mod HasCells
pub mod ReadCells
pub mod ReadPlaces
pub mod ReadSlots
pub mod StoredNumbers
pub mod StoredValues
pub use Rattle.nested_arrays_builder_arrays.proofs as taken_lemmas
pub use Rattle.nested_arrays_builder_arrays.proofs.generic_lemmas
pub use Rattle.nested_arrays_builder_arrays.proofs.builders_lemmas.columns_lemmas
pub use Rattle.nested_arrays_builder_arrays.proofs.parts_lemmas
