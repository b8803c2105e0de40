-- The batches before the place are appended.
use Rattle.std.proofs.Common.{List, take}
use Rattle.ipc_format_readers.specs.chunk_writing.Tracking.{Tells}
use Rattle.ipc_format_readers.specs.chunk_writing.grammar.GivenDictionaries.{Given}
use Rattle.ipc_format_readers.specs.chunk_writing.metadata.Views.{ids_views}
use Rattle.ipc_format.specs.Appending.{AreAppended}
use Rattle.ipc_format.specs.FilePhases.{progress_of}
use Rattle.ipc_format.proofs.appending.append_batches.Given as goal

abbrev pub invariant-loop-columns : goal.invariant-loop-columns
invariant-loop-columns l = (told : List Given) → Tells (progress_of l.fn.file).told told
    → AreAppended (progress_of l.fn.file) (progress_of l.file) l.metadata.schema (ids_views l.metadata.ipc_schema.fields) told
    (take l.columns-index l.chunks) l.fn.bytes.items l.bytes.items
