pub mod Edits
pub mod Operators
pub mod Results
pub mod Runs
pub mod BitSliceLaws
pub use Rattle.columnar_memory_bits.specs as bits
pub use Rattle.columnar_memory_types.specs as types
