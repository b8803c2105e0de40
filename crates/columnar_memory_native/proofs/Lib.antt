pub use Rattle.columnar_memory_types.proofs as types_lemmas
pub mod ByteLaws
