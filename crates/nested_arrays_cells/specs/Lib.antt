pub mod ArrayCells
pub mod Inside
pub mod Keys
pub mod Pushes
pub use Rattle.nested_arrays_builder_arrays.specs as taken
pub use Rattle.nested_arrays_builder_arrays.specs.builders
pub use Rattle.nested_arrays_builder_arrays.specs.arrays
pub use Rattle.nested_arrays_builder_arrays.specs.parts
pub use Rattle.nested_arrays_builder_arrays.specs.generic
pub use Rattle.nested_arrays_builder_arrays.specs.flat_arrays
pub use Rattle.nested_arrays_builder_arrays.specs.OpenColumns
pub use Rattle.nested_arrays_builder_arrays.specs.builders.values.ByteBuilders
