pub mod Checked
pub mod ColumnMasks
pub mod ColumnTypes
pub mod FixedSizeItems
pub mod FlatColumns
pub mod Primitives
pub mod EqualArrays
pub mod SameArrays
pub mod Taken
pub use Rattle.flat_arrays_core.specs as flat_arrays
pub use Rattle.nested_arrays_columns.specs as columns
pub use Rattle.flat_arrays_core.specs.columnar_memory
