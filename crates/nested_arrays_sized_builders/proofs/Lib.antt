pub mod FilledMarks
pub mod FixedColumns
pub mod FixedLists
pub mod FixedPushes
pub mod GrownColumns
pub mod MarkedSlots
pub mod NullColumns
pub mod SettledMarks
pub mod SizedColumns
pub mod SizedPushes
pub use Rattle.nested_arrays_generic_builders.proofs.nulls_lemmas
pub use Rattle.nested_arrays_generic_builders.proofs.cells_lemmas.columns_lemmas
pub use Rattle.nested_arrays_generic_builders.proofs.cells_lemmas.taken_lemmas.builders_lemmas.values_lemmas
pub use Rattle.nested_arrays_generic_builders.proofs.cells_lemmas.taken_lemmas
pub use Rattle.nested_arrays_generic_builders.proofs as lists_lemmas
