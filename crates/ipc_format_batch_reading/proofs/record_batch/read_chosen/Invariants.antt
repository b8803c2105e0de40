-- The first columns are read, the queues are those of the batch behind the last of them, and a step was taken for each of their buffers.
use Rattle.std.specs.Prelude.{length, take}
use Rattle.ipc_format_reading.specs.Below.{type_of}
use Rattle.ipc_format_reading.specs.array_reading.ReadArrays.{standing_in}
use Rattle.ipc_format_reading.specs.columnar_memory.declared.Field.{Field}
use Rattle.ipc_format_reading.specs.columns.Tables.{chosen}
use Rattle.ipc_format_reading.specs.grammar.Layouts.{buffer_count}
use Rattle.ipc_format_reading.specs.messages.MessageViews.{version_view}
use Rattle.ipc_format_batch_reading.proofs.ChosenCounts.{CountedTo}
use Rattle.ipc_format_batch_reading.proofs.ChosenReads.{ChosenToRead}
use Rattle.ipc_format_batch_reading.proofs.record_batch.read_chosen.Given as goal

abbrev pub invariant-loop-k : goal.invariant-loop-k
invariant-loop-k g l =
    ChosenToRead (record {
      fields = l.fields;
      ids = l.ipc_fields;
      version = version_view l.version;
      is_little_endian = l.is_little_endian;
      standing = standing_in l.dictionaries;
      limit = l.limit;
      origin = l.block_offset;
      nodes = l.initial.field_nodes.items;
      buffers = l.initial.buffers.items;
    }) (g.R.Room.told l.initial.reader) (g.R.Room.told l.reader) l.columns l.field_nodes.items l.buffers.items l.k l.behind l.arrays.items
    × CountedTo (λ (field : Field). buffer_count (version_view l.version) (type_of field)) (chosen (take l.k l.columns) l.fields)
    (length l.buffers.items) (length l.initial.buffers.items) l.initial.steps.count l.steps.count
