pub mod MessageSlots
pub mod MessageViews
pub mod SchemaSlots
pub mod SchemaRefs
pub mod WholeMessages
pub mod BufferLengths
pub mod TypeSlots
pub mod TypeRefs
pub use Rattle.ipc_format_metadata.specs as metadata
pub use Rattle.ipc_format_metadata.specs.columnar_memory
pub use Rattle.ipc_format_metadata.specs.flatbuffers
pub use Rattle.ipc_format_metadata.specs.columns
pub use Rattle.ipc_format_metadata.specs.grammar
