pub mod Chunks
pub mod ChunksMut
pub mod Kernels
pub mod Writes
pub use Rattle.columnar_memory_bitmap.specs as bitmap
