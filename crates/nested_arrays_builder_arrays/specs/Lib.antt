pub mod FlatBuilders
pub mod FrozenKeys
pub mod Layouts
pub mod OpenColumns
pub mod Taken
pub use Rattle.nested_arrays_builders.specs as builders
pub use Rattle.nested_arrays_builders.specs.arrays
pub use Rattle.nested_arrays_builders.specs.parts
pub use Rattle.nested_arrays_builders.specs.generic
pub use Rattle.nested_arrays_builders.specs.flat_arrays
