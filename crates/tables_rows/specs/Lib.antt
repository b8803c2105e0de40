pub mod Bars
pub mod Building
pub mod Columns
pub mod Ending
pub mod EntryChoices
pub mod Gathered
pub mod GroupViews
pub mod Grouping
pub mod Orders
pub mod Pushing
pub mod ReadChoices
pub mod SealLaws
pub mod Seals
pub mod SortedColumns
pub mod StreamEntries
pub use Rattle.tables_chunks.specs as chunks
