pub mod Childless
pub mod FlatLayouts
pub mod FlatNodes
pub mod Forms
pub mod Keys
pub mod Ranges
pub mod Widths
pub use Rattle.nested_arrays_flat.specs as flat
pub use Rattle.nested_arrays_flat.specs.columns
pub use Rattle.nested_arrays_flat.specs.flat_arrays
pub use Rattle.nested_arrays_flat.specs.columnar_memory
