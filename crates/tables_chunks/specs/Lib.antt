pub mod Batches
pub mod Choices
pub mod Faults
pub mod Messages
pub mod PutMessages
pub mod ReadTables
pub mod Reading
pub mod Refusals
pub mod SameRows
pub mod StoredTables
pub mod TableParts
pub mod TableSchemas
pub mod Texts
pub mod WrittenFiles
pub mod WrittenTables
pub use Rattle.ipc_format.specs as ipc_format
