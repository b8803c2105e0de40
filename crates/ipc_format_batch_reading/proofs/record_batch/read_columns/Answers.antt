-- The queues of a batch, and what is read at their fronts.
use Rattle.std.proofs.Common.{◌≡◌, List, length, map, rules}
use Rattle.std.specs.Prelude.{Err}
use Rattle.ipc_format_reading.specs.Below.{buffers_below, no_own_ids}
use Rattle.ipc_format_reading.specs.array_reading.ReadArrays.{standing_in}
use Rattle.ipc_format_reading.specs.columns.StoredColumns.{slots}
use Rattle.ipc_format_reading.specs.flatbuffers.Views.{table_of}
use Rattle.ipc_format_reading.specs.grammar.Messages.{record_batch}
use Rattle.ipc_format_reading.specs.messages.MessageViews.{version_view}
use Rattle.ipc_format_reading.specs.metadata.Views.{ids_views}
use Rattle.ipc_format_batch_reading.specs.BatchReads.{placed_arrays}
use Rattle.ipc_format_batch_reading.specs.BufferCounts.{stated_buffers}
use Rattle.ipc_format_batch_reading.proofs.BufferCounts.{counts_ok, no_step, queue_stated}
use Rattle.ipc_format_batch_reading.proofs.QueueReads.{queues_read, queues_refused}
use Rattle.ipc_format_batch_reading.proofs.record_batch.read_columns.Goals as goal

pub returns-in_err-queues-clause-read : goal.returns-in_err-queues-clause-read
returns-in_err-queues-clause-read g c =
    let error = c.in_err-queues.field-0.0 in
    let schema = c.args.ipc_schema.now in
    let table = table_of c.args.batch.now.table.place in
    let is : c.from_residual.result ≡ Err error = search rules in
    rw is (queues_refused c.args.batch.now.table.bytes.now table c.args.file_size (g.R.Room.told c.args.reader.now) schema.is_little_endian
    (record_batch table) (version_view c.args.version) c.args.block_offset
    (λ source. placed_arrays c.args.fields.now (ids_views schema.fields) (record {
      source = source;
      standing = standing_in c.args.dictionaries.now;
      limit = c.args.limit;
      node = 0;
      buffer = 0;
      ids = no_own_ids;
    })) (map slots) error c.in_err-queues.ensures)

pub returns-clause-read : goal.returns-clause-read
returns-clause-read g c =
    let schema = c.args.ipc_schema.now in
    let table = table_of c.args.batch.now.table.place in
    queues_read c.args.batch.now.table.bytes.now table c.args.file_size (g.R.Room.told c.args.reader.now) (g.R.Room.told c.read_chunk.new.reader)
    schema.is_little_endian (record_batch table) (version_view c.args.version) c.args.block_offset c.in_ok-queues.queues
    (λ source. placed_arrays c.args.fields.now (ids_views schema.fields) (record {
      source = source;
      standing = standing_in c.args.dictionaries.now;
      limit = c.args.limit;
      node = 0;
      buffer = 0;
      ids = no_own_ids;
    })) (map slots) c.read_chunk.result c.in_ok-queues.ensures c.read_chunk.ensures.read

pub returns-in_err-queues-clause-stated : goal.returns-in_err-queues-clause-stated
returns-in_err-queues-clause-stated g c =
    no_step c.args.file_size (stated_buffers c.args.batch.now.table.bytes.now (table_of c.args.batch.now.table.place)) c.args.steps.now.count

pub returns-clause-stated : goal.returns-clause-stated
returns-clause-stated g c =
    queue_stated c.args.batch.now.table.bytes.now (table_of c.args.batch.now.table.place) c.args.file_size c.in_ok-queues.queues
    (buffers_below (version_view c.args.version) c.args.fields.now) c.args.steps.now.count c.read_chunk.new.steps.count c.read_chunk.result
    c.in_ok-queues.ensures c.read_chunk.ensures.counted

pub returns-clause-counted : goal.returns-clause-counted
returns-clause-counted g c =
    counts_ok (buffers_below (version_view c.args.version) c.args.fields.now) (length c.in_ok-queues.queues.buffers.items) c.args.steps.now.count
    c.read_chunk.new.steps.count c.read_chunk.result c.read_chunk.ensures.counted
