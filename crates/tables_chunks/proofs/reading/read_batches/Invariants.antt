-- The rows are those of the batches that were read, and the batches are these and those of the messages that are left.
use Rattle.std.proofs.Common.{◌≡◌, ◌-◌, ◌<◌, ◌^◌, length}
use Rattle.std.specs.List.{All}
use Rattle.ipc_format.specs.ReadArrays.{standing_in}
use Rattle.ipc_format.specs.columns.Tables.{rows_of_batches}
use Rattle.ipc_format.specs.MessageViews.{version_view}
use Rattle.tables_chunks.specs.Messages.{AreOfFields, layout_by}
use Rattle.tables_chunks.specs.Reading.{slots_of_batches}
use Rattle.ipc_format.proofs.Progress.{MessagesRead}
use Rattle.tables_chunks.proofs.reading.read_batches.Given as goal

abbrev pub invariant-messages : goal.invariant-messages
invariant-messages l = record {
  counted : l.rows ≡ length (rows_of_batches (slots_of_batches l.chunks.items));
  fits : l.rows < 2 ^ 64;
  sound : All (AreOfFields l.schema.fields) l.chunks.items;
  read : MessagesRead (layout_by l.schema.fields l.ipc_schema) (version_view l.version) l.bytes l.first (slots_of_batches l.chunks.items)
      (standing_in l.dictionaries) l.in_a_row l.place;
}

abbrev pub decreases-messages : goal.decreases-messages
decreases-messages l = length l.bytes - l.place
