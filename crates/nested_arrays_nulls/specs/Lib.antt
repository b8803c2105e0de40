pub mod Downcasts
pub mod Lengths
pub mod NullAnswers
pub mod NullColumns
pub mod NullLaws
pub use Rattle.nested_arrays_iterators.specs as iterators
pub use Rattle.nested_arrays_iterators.specs.columns
pub use Rattle.nested_arrays_iterators.specs.flat_arrays
pub use Rattle.nested_arrays_iterators.specs.flat
pub use Rattle.nested_arrays_iterators.specs.parts
pub use Rattle.nested_arrays_iterators.specs.arrays
pub use Rattle.nested_arrays_iterators.specs.access
pub use Rattle.nested_arrays_iterators.specs.generic
pub use Rattle.nested_arrays_iterators.specs.columnar_memory
