pub mod SlotsEqual
pub use Rattle.flat_arrays_values.specs as values
pub use Rattle.flat_arrays_values.specs.columnar_memory
