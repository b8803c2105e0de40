pub use Rattle.columnar_memory_buffer.proofs as buffer_lemmas
pub use Rattle.columnar_memory_buffer.proofs.types_lemmas
pub use Rattle.columnar_memory_bitmap.proofs as bitmap_lemmas
pub use Rattle.columnar_memory_bitmap.proofs.bits_lemmas
