pub mod AnyNumbers
pub mod CellParts
pub mod Freezing
pub mod Growing
pub mod GrowingNodes
pub mod KeptValues
pub mod Marks
pub mod NewValues
pub mod Open
pub mod Scalars
pub mod Strings
pub use Rattle.nested_arrays_core.specs.arrays
pub use Rattle.nested_arrays_core.specs.columns
pub use Rattle.nested_arrays_core.specs as generic
