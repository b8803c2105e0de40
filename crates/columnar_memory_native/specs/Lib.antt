pub mod NumberLaws
pub mod Numbers
pub mod Wide
pub mod Natural
pub mod Ranges
pub use Rattle.columnar_memory_types.specs as types
