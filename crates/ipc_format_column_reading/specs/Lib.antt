pub mod Queues
pub mod Rooms
pub mod Buffers
pub mod FlatColumns
pub mod Reads
pub use Rattle.ipc_format_column_bytes.specs.flat_arrays.Flat
pub use Rattle.ipc_format_column_bytes.specs as column_bytes
pub use Rattle.ipc_format_column_bytes.specs.flat_arrays
pub use Rattle.ipc_format_column_bytes.specs.messages
pub use Rattle.ipc_format_column_bytes.specs.columnar_memory
pub use Rattle.ipc_format_column_bytes.specs.flatbuffers
pub use Rattle.ipc_format_column_bytes.specs.columns
pub use Rattle.ipc_format_column_bytes.specs.grammar
pub use Rattle.ipc_format_column_bytes.specs.metadata
