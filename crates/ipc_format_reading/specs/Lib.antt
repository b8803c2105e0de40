pub mod Below
pub use Rattle.ipc_format_array_reading.specs as array_reading
pub use Rattle.ipc_format_array_reading.specs.columnar_memory
pub use Rattle.ipc_format_array_reading.specs.flatbuffers
pub use Rattle.ipc_format_array_reading.specs.columns
pub use Rattle.ipc_format_array_reading.specs.grammar
pub use Rattle.ipc_format_array_reading.specs.messages
pub use Rattle.ipc_format_array_reading.specs.metadata
pub use Rattle.ipc_format_array_reading.specs.nested_arrays
pub use Rattle.ipc_format_array_reading.specs.Queues
pub use Rattle.ipc_format_array_reading.specs.Rooms
pub use Rattle.ipc_format_array_reading.specs.Buffers
pub use Rattle.ipc_format_array_reading.specs.FlatColumns
pub use Rattle.ipc_format_array_reading.specs.Reads
