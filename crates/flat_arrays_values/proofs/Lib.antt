pub mod WalkSlots
pub mod Cuts
pub mod Layouts
pub mod MarkPlaces
pub mod SameSlots
pub mod Walks
pub mod Added
pub mod Marked
pub use Rattle.columnar_memory_core.proofs as columnar_memory_lemmas
