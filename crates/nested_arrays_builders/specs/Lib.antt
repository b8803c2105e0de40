pub mod Begun
pub mod BuiltTypes
pub mod KeptColumns
pub mod Keyed
pub mod Nodes
pub mod Parts
pub mod Sizes
pub mod TypeSizes
pub mod Widths
pub use Rattle.nested_arrays_builder_values.specs as values
pub use Rattle.nested_arrays_builder_values.specs.parts
pub use Rattle.nested_arrays_builder_values.specs.parts.arrays.columns
pub use Rattle.nested_arrays_builder_values.specs.parts.arrays.columnar_memory
pub use Rattle.nested_arrays_builder_values.specs.parts.arrays
pub use Rattle.nested_arrays_builder_values.specs.generic
pub use Rattle.nested_arrays_builder_values.specs.flat_arrays
