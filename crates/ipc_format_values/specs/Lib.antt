pub mod ValueObjects
pub mod ToldTypes
pub mod Serializing
pub mod Taken
pub mod TakenViews
pub mod Owned
pub mod OwnedFields
pub mod OwnedMessages
pub use Rattle.ipc_format_writing.specs as writing
pub use Rattle.ipc_format_writing.specs.columnar_memory
pub use Rattle.ipc_format_writing.specs.flatbuffers
pub use Rattle.ipc_format_writing.specs.columns
pub use Rattle.ipc_format_writing.specs.grammar
pub use Rattle.ipc_format_writing.specs.metadata
pub use Rattle.ipc_format_writing.specs.messages
