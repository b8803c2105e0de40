pub mod Appends
pub mod Bodies
pub mod FlatColumns
pub mod Numbers
pub mod WholeColumns
pub mod Placing
pub use Rattle.flat_arrays_core.specs as flat_arrays
pub use Rattle.ipc_format_streams.specs as streams
pub use Rattle.ipc_format_streams.specs.messages
pub use Rattle.ipc_format_streams.specs.columnar_memory
pub use Rattle.ipc_format_streams.specs.flatbuffers
pub use Rattle.ipc_format_streams.specs.columns
pub use Rattle.ipc_format_streams.specs.grammar
pub use Rattle.ipc_format_streams.specs.metadata
