pub mod Numbers
pub mod Fitting
pub mod Floats
pub mod Kinds
pub mod Pieces
pub mod Writing
pub mod Normal
pub mod MessageWriting
pub mod FooterWriting
pub use Rattle.ipc_format_messages.specs as messages
pub use Rattle.ipc_format_messages.specs.columnar_memory
pub use Rattle.ipc_format_messages.specs.flatbuffers
pub use Rattle.ipc_format_messages.specs.columns
pub use Rattle.ipc_format_messages.specs.grammar
pub use Rattle.ipc_format_messages.specs.metadata
