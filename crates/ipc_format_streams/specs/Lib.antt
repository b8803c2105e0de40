pub mod Frames
pub mod Failures
pub mod Devices
pub mod Arriving
pub mod Incoming
pub mod Starts
pub mod Queues
pub mod Values
pub mod EncodedMessages
pub use Rattle.ipc_format_values.specs as owned
pub use Rattle.ipc_format_values.specs.messages
pub use Rattle.ipc_format_values.specs.columnar_memory
pub use Rattle.ipc_format_values.specs.flatbuffers
pub use Rattle.ipc_format_values.specs.columns
pub use Rattle.ipc_format_values.specs.grammar
pub use Rattle.ipc_format_values.specs.metadata
