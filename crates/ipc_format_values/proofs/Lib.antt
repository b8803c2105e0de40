mod PairLists
mod FieldValues
mod Taking
mod Gathered
mod FieldsTaken
pub use Rattle.ipc_format_writing.proofs as writing_lemmas
pub use Rattle.ipc_format_writing.proofs.columnar_memory_lemmas
pub use Rattle.ipc_format_writing.proofs.flatbuffers_lemmas
pub use Rattle.ipc_format_writing.proofs.columns_lemmas
pub use Rattle.ipc_format_writing.proofs.grammar_lemmas
