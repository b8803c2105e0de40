pub mod Faults
pub mod Runs
pub mod Slices
pub mod Windows
pub use Rattle.columnar_memory_native.proofs.types_lemmas
