pub mod Growth
pub mod Lending
pub mod SliceLaws
pub mod Spans
pub mod SpansEqual
pub mod Window
pub use Rattle.columnar_memory_native.specs as native
