pub mod Chunks
mod WordLists
mod Wordwise
mod InPlace
mod Pairwise
pub use Rattle.columnar_memory_bitmap.proofs as bitmap_lemmas
pub use Rattle.columnar_memory_bitmap.proofs.bits_lemmas
