pub mod Chunks
pub mod Parts
pub mod Written
pub use Rattle.ipc_format_column_reading.specs as column_reading
pub use Rattle.nested_arrays_core.specs as nested_arrays
pub use Rattle.ipc_format_column_reading.specs.columnar_memory
pub use Rattle.ipc_format_column_reading.specs.flatbuffers
pub use Rattle.ipc_format_column_reading.specs.columns
pub use Rattle.ipc_format_column_reading.specs.grammar
pub use Rattle.ipc_format_column_reading.specs.messages
pub use Rattle.ipc_format_column_reading.specs.metadata
