-- The messages so far are gathered.
use Rattle.tables_chunks.specs.Messages.{layout_by}
use Rattle.tables_chunks.specs.ipc_format.FileEntries.{entries_of}
use Rattle.tables_chunks.specs.ipc_format.ReadArrays.{standing_in}
use Rattle.tables_rows.specs.Orders.{asked}
use Rattle.tables_rows.proofs.GatheredSteps.{AreGathered}
use Rattle.tables_rows.proofs.chosen.gather_batches.Given as goal

abbrev pub invariant-loop-entry : goal.invariant-loop-entry
invariant-loop-entry l = AreGathered (layout_by l.fields l.ipc_schema) (asked l.order) l.fn.limit (entries_of l.entries) l.entry-index
    (standing_in l.dictionaries) l.left l.chunks.items
