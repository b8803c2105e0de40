pub mod BitSlices
pub mod Combining
pub mod Lists
pub mod Passing
pub mod Places
pub mod RunLaws
pub mod RunLemmas
pub mod SameWords
mod Gathering
pub use Rattle.columnar_memory_bits.proofs as bits_lemmas
