pub mod Growing
pub mod PushLaws
pub use Rattle.flat_arrays_bytes.specs as bytes
pub use Rattle.flat_arrays_bytes.specs.values
pub use Rattle.flat_arrays_bytes.specs.columnar_memory
