pub mod NamedValues
pub mod ReadValues
pub mod StringParts
pub mod TextItems
pub mod TypedValues
pub mod WalkLaws
pub use Rattle.nested_arrays_core.specs as generic
pub use Rattle.nested_arrays_core.specs.columns
pub use Rattle.nested_arrays_core.specs.flat_arrays
pub use Rattle.nested_arrays_core.specs.flat
pub use Rattle.nested_arrays_core.specs.parts
pub use Rattle.nested_arrays_core.specs.arrays
pub use Rattle.nested_arrays_core.specs.access
pub use Rattle.nested_arrays_core.specs.columnar_memory
