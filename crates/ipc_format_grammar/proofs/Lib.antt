pub mod NormalReports
pub mod Claims
pub use Rattle.ipc_format_flatbuffers.proofs as flatbuffers_lemmas
pub use Rattle.nested_arrays_columns.proofs as columns_lemmas
pub use Rattle.nested_arrays_columns.proofs.columnar_memory_lemmas
