pub mod Begun
pub mod Behind
pub mod Children
mod Copies
pub mod Fixed
pub mod KeyBytes
pub mod Passed
mod SameChunks
pub mod Settled
pub mod Unions
pub mod Widths
pub mod Within
pub use Rattle.ipc_format_column_reading.proofs as reading_lemmas
pub use Rattle.nested_arrays_core.proofs as nested_lemmas
pub use Rattle.ipc_format_column_reading.proofs.columns_lemmas
pub use Rattle.ipc_format_column_reading.proofs.columnar_memory_lemmas
pub use Rattle.ipc_format_column_reading.proofs.grammar_lemmas
