pub mod StoredColumns
pub mod NormalSlots
pub mod Isolation
pub mod NormalColumns
pub mod StoredTables
pub mod SealLaws
pub mod Fronts
pub mod StatedBodies
pub mod AppendLaws
pub use Rattle.ipc_format_laws.specs as laws
pub use Rattle.ipc_format_laws.specs.grammar
pub use Rattle.ipc_format_laws.specs.columnar_memory
pub use Rattle.ipc_format_laws.specs.flatbuffers
pub use Rattle.ipc_format_laws.specs.columns
