pub mod MaskedArrays
pub mod NullLaws
pub mod Nulls
pub use Rattle.nested_arrays_arrays.specs as arrays
pub use Rattle.nested_arrays_arrays.specs.columns
pub use Rattle.nested_arrays_arrays.specs.flat_arrays
pub use Rattle.nested_arrays_arrays.specs.flat
pub use Rattle.nested_arrays_arrays.specs.parts
pub use Rattle.nested_arrays_arrays.specs.columnar_memory
