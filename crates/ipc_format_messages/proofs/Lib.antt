pub mod Lengths
pub use Rattle.ipc_format_metadata.proofs as metadata_lemmas
pub use Rattle.ipc_format_metadata.proofs.columnar_memory_lemmas
pub use Rattle.ipc_format_metadata.proofs.flatbuffers_lemmas
pub use Rattle.ipc_format_metadata.proofs.columns_lemmas
pub use Rattle.ipc_format_metadata.proofs.grammar_lemmas
pub mod Passed
