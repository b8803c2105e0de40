pub mod FileAdded
pub mod FileDelivered
pub mod AppendSteps
pub mod Appended
pub mod FileEndBytes
pub mod FileKept
pub mod FileFirsts
pub mod Footed
pub mod GrownBlocks
pub mod GrowthRuns
pub mod NoFloats
pub mod FilePlaced
pub mod FileRunBytes
pub mod Runs
pub mod StandBehind
pub mod Stood
pub mod ToldAlike
pub mod WholeFiles
pub mod WholeRuns
pub mod Writes
pub mod Zeros
pub use Rattle.ipc_format_readers.proofs as readers_lemmas
pub use Rattle.ipc_format_readers.proofs.reading_laws_lemmas
pub use Rattle.ipc_format_readers.proofs.reading_laws_lemmas.laws_lemmas.DefaultIds
pub use Rattle.ipc_format_readers.proofs.reading_laws_lemmas.laws_lemmas.FreshBatches
pub use Rattle.ipc_format_readers.proofs.reading_laws_lemmas.laws_lemmas.GivenIds
pub use Rattle.ipc_format_readers.proofs.reading_laws_lemmas.laws_lemmas.LaterMessages
pub use Rattle.ipc_format_readers.proofs.reading_laws_lemmas.laws_lemmas.NormalForms
pub use Rattle.ipc_format_readers.proofs.reading_laws_lemmas.laws_lemmas.Places
pub use Rattle.ipc_format_readers.proofs.reading_laws_lemmas.laws_lemmas.Room as LimitsOfRoom
pub use Rattle.ipc_format_readers.proofs.reading_laws_lemmas.laws_lemmas.SentMessages
pub use Rattle.ipc_format_readers.proofs.reading_laws_lemmas.laws_lemmas.StreamContents
pub use Rattle.ipc_format_readers.proofs.reading_laws_lemmas.columns_lemmas.FreshSlots
pub use Rattle.ipc_format_readers.proofs.reading_laws_lemmas.columns_lemmas.FreshTypes
pub use Rattle.ipc_format_readers.proofs.reading_laws_lemmas.NormalColumnsKept
pub use Rattle.ipc_format_readers.proofs.reading_laws_lemmas.NormalColumnsLayers
pub use Rattle.ipc_format_readers.proofs.reading_laws_lemmas.SealedIds
pub use Rattle.ipc_format_readers.proofs.reading_laws_lemmas.SealedRoom
pub use Rattle.ipc_format_readers.proofs.reading_laws_lemmas.SealedRows
pub use Rattle.ipc_format_readers.proofs.reading_laws_lemmas.SealedTypes
pub use Rattle.ipc_format_readers.proofs.reading_laws_lemmas.StoredGivenBrought
pub use Rattle.ipc_format_readers.proofs.reading_laws_lemmas.StoredGivenFits
pub use Rattle.ipc_format_readers.proofs.reading_laws_lemmas.StoredGivenFolds
pub use Rattle.ipc_format_readers.proofs.reading_laws_lemmas.StoredGivenLists
pub use Rattle.ipc_format_readers.proofs.reading_laws_lemmas.StoredGivenReady
pub use Rattle.ipc_format_readers.proofs.reading_laws_lemmas.StoredGivenStanding
pub use Rattle.ipc_format_readers.proofs.reading_laws_lemmas.StoredTablesBatches
pub use Rattle.ipc_format_readers.proofs.reading_laws_lemmas.StoredTablesEntries
pub use Rattle.ipc_format_readers.proofs.reading_laws_lemmas.StoredTablesNormal
pub use Rattle.ipc_format_readers.proofs.reading_laws_lemmas.StoredTablesStreams
pub use Rattle.ipc_format_readers.proofs.reading_laws_lemmas.StoredTypes
pub use Rattle.ipc_format_readers.proofs.Binding
pub use Rattle.ipc_format_readers.proofs.Places as StreamStepsPlaces
pub use Rattle.ipc_format_readers.proofs.Progress
pub use Rattle.ipc_format_readers.proofs.Rows
pub use Rattle.ipc_format_readers.proofs.Steps
pub use Rattle.ipc_format_readers.proofs.StreamParts
pub use Rattle.ipc_format_readers.proofs.chunk_lemmas.Appending
pub use Rattle.ipc_format_readers.proofs.chunk_lemmas.Claims
pub use Rattle.ipc_format_readers.proofs.chunk_lemmas.ColumnSizes
pub use Rattle.ipc_format_readers.proofs.chunk_lemmas.Columns
pub use Rattle.ipc_format_readers.proofs.chunk_lemmas.Cuts
pub use Rattle.ipc_format_readers.proofs.chunk_lemmas.Windows
pub use Rattle.ipc_format_readers.proofs.chunk_lemmas.PutMessages
pub use Rattle.ipc_format_readers.proofs.reading_laws_lemmas.StoredTablesBlocks
pub use Rattle.ipc_format_readers.proofs.reading_laws_lemmas.StoredTablesFiles
pub use Rattle.ipc_format_readers.proofs.reading_laws_lemmas.StoredTablesOnce
pub use Rattle.ipc_format_readers.proofs.reading_laws_lemmas.laws_lemmas.Footers
pub use Rattle.ipc_format_readers.proofs.EntryLists
pub use Rattle.ipc_format_readers.proofs.Lists as FileLists
pub use Rattle.ipc_format_readers.proofs.MessageReads as BlockReads
pub use Rattle.ipc_format_readers.proofs.RoomReads
pub use Rattle.ipc_format_readers.proofs.Starts as FileStarts
pub use Rattle.ipc_format_readers.proofs.Unread as UnreadBlocks
