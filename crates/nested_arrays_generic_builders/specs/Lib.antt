pub mod FieldLoans
pub mod ListBuilders
pub mod StructBuilders
pub mod StructLoans
pub mod TakenBack
pub use Rattle.nested_arrays_cells.specs as cells
pub use Rattle.nested_arrays_nulls.specs as nulls
pub use Rattle.nested_arrays_cells.specs.flat_arrays
