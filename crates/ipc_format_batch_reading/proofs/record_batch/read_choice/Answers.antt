-- The queues of a batch, and the chosen columns that are read at their fronts.
use Rattle.std.proofs.Common.{◌≡◌, ℕ, [], ap, length, map, refl, rules}
use Rattle.std.specs.Prelude.{Err, Ok, Some}
use Rattle.ipc_format_reading.specs.Below.{buffers_below, no_own_ids}
use Rattle.ipc_format_reading.specs.array_reading.ReadArrays.{at_front, standing_in}
use Rattle.ipc_format_reading.specs.columns.StoredColumns.{slots}
use Rattle.ipc_format_reading.specs.columns.Tables.{chosen}
use Rattle.ipc_format_reading.specs.flatbuffers.Reading.{◌>>=◌, guard}
use Rattle.ipc_format_reading.specs.flatbuffers.Views.{table_of}
use Rattle.ipc_format_reading.specs.grammar.Messages.{record_batch}
use Rattle.ipc_format_reading.specs.grammar.Tables.{agree_in_length}
use Rattle.ipc_format_reading.specs.messages.MessageViews.{version_view}
use Rattle.ipc_format_reading.specs.metadata.Views.{ids_views}
use Rattle.ipc_format_batch_reading.specs.BatchReads.{chosen_arrays}
use Rattle.ipc_format_batch_reading.specs.BufferCounts.{stated_buffers}
use Rattle.ipc_format_batch_reading.proofs.BufferCounts.{counts_any, counts_ok, no_step, queue_stated}
use Rattle.ipc_format_batch_reading.proofs.ChunkReads.{choice_read, choice_refused}
use Rattle.ipc_format_batch_reading.proofs.QueueReads.{queues_read, queues_refused}
use Rattle.ipc_format_batch_reading.proofs.record_batch.read_choice.Goals as goal

pub returns-in_err-queues-clause-read : goal.returns-in_err-queues-clause-read
returns-in_err-queues-clause-read g c =
    let error = c.in_err-queues.field-0.0 in
    let schema = c.args.ipc_schema.now in
    let table = table_of c.args.batch.now.table.place in
    let is : c.from_residual.result ≡ Err error = search rules in
    rw is (queues_refused c.args.batch.now.table.bytes.now table c.args.file_size (g.R.Room.told c.args.reader.now) schema.is_little_endian
    (record_batch table) (version_view c.args.version) c.args.block_offset
    (λ source. chosen_arrays (record {
      fields = c.args.fields.now;
      below = ids_views schema.fields;
      is_little_endian = schema.is_little_endian;
    }) (standing_in c.args.dictionaries.now) source c.args.limit c.args.columns.now >>= (λ arrays.
    guard (agree_in_length arrays) >>= (λ _. Some arrays))) (map slots) error c.in_err-queues.ensures)

pub returns-in_err-arrays-clause-read : goal.returns-in_err-arrays-clause-read
returns-in_err-arrays-clause-read g c =
    let error = c.in_err-arrays.field-0.0 in
    let schema = c.args.ipc_schema.now in
    let table = table_of c.args.batch.now.table.place in
    let queues = c.in_ok-queues.queues in
    let standing = standing_in c.args.dictionaries.now in
    let version = version_view c.args.version in
    let is : c.from_residual-in_err-arrays.result ≡ Err error = search rules in
    rw is (queues_read c.args.batch.now.table.bytes.now table c.args.file_size (g.R.Room.told c.args.reader.now)
    (g.R.Room.told c.read_chosen.new.reader) schema.is_little_endian (record_batch table) version c.args.block_offset queues
    (λ source. chosen_arrays (record {
      fields = c.args.fields.now;
      below = ids_views schema.fields;
      is_little_endian = schema.is_little_endian;
    }) standing source c.args.limit c.args.columns.now >>= (λ arrays. guard (agree_in_length arrays) >>= (λ _. Some arrays)))
    (map slots) (Err error) c.in_ok-queues.ensures
    (choice_refused {A = ℕ} c.args.fields.now (ids_views schema.fields) (ids_views c.as_slice.result.now) schema.is_little_endian standing
    c.args.limit c.args.columns.now
    (λ room. (at_front queues.field_nodes.items queues.buffers.items version schema.is_little_endian standing c.args.limit c.args.block_offset
    no_own_ids room).source) (g.R.Room.told c.args.reader.now) (g.R.Room.told c.read_chosen.new.reader) (λ n. []) error
    (ap ids_views c.as_slice.ensures) c.in_err-arrays.ensures.read))

pub returns-clause-read : goal.returns-clause-read
returns-clause-read g c =
    let schema = c.args.ipc_schema.now in
    let table = table_of c.args.batch.now.table.place in
    let queues = c.in_ok-queues.queues in
    let standing = standing_in c.args.dictionaries.now in
    let version = version_view c.args.version in
    queues_read c.args.batch.now.table.bytes.now table c.args.file_size (g.R.Room.told c.args.reader.now)
    (g.R.Room.told c.read_chosen.new.reader) schema.is_little_endian (record_batch table) version c.args.block_offset queues
    (λ source. chosen_arrays (record {
      fields = c.args.fields.now;
      below = ids_views schema.fields;
      is_little_endian = schema.is_little_endian;
    }) standing source c.args.limit c.args.columns.now >>= (λ arrays. guard (agree_in_length arrays) >>= (λ _. Some arrays)))
    (map slots) c.chunk_of.result c.in_ok-queues.ensures
    (choice_read c.args.fields.now (ids_views schema.fields) (ids_views c.as_slice.result.now) schema.is_little_endian standing
    c.args.limit c.args.columns.now
    (λ room. (at_front queues.field_nodes.items queues.buffers.items version schema.is_little_endian standing c.args.limit c.args.block_offset
    no_own_ids room).source) (g.R.Room.told c.args.reader.now) (g.R.Room.told c.read_chosen.new.reader) (λ arrays. map slots arrays.items)
    c.in_ok-arrays.arrays c.in_ok-arrays.arrays.items c.chunk_of.result (ap ids_views c.as_slice.ensures) refl c.in_ok-arrays.ensures.read
    c.chunk_of.ensures)

pub returns-in_err-queues-clause-stated : goal.returns-in_err-queues-clause-stated
returns-in_err-queues-clause-stated g c =
    no_step c.args.file_size (stated_buffers c.args.batch.now.table.bytes.now (table_of c.args.batch.now.table.place)) c.args.steps.now.count

pub returns-in_err-arrays-clause-stated : goal.returns-in_err-arrays-clause-stated
returns-in_err-arrays-clause-stated g c =
    queue_stated {A = ℕ} c.args.batch.now.table.bytes.now (table_of c.args.batch.now.table.place) c.args.file_size c.in_ok-queues.queues
    (buffers_below (version_view c.args.version) (chosen c.args.columns.now c.args.fields.now)) c.args.steps.now.count
    c.read_chosen.new.steps.count (Err c.in_err-arrays.field-0.0) c.in_ok-queues.ensures c.in_err-arrays.ensures.counted

pub returns-clause-stated : goal.returns-clause-stated
returns-clause-stated g c =
    queue_stated c.args.batch.now.table.bytes.now (table_of c.args.batch.now.table.place) c.args.file_size c.in_ok-queues.queues
    (buffers_below (version_view c.args.version) (chosen c.args.columns.now c.args.fields.now)) c.args.steps.now.count
    c.read_chosen.new.steps.count (Ok c.in_ok-arrays.arrays) c.in_ok-queues.ensures c.in_ok-arrays.ensures.counted

pub returns-clause-counted : goal.returns-clause-counted
returns-clause-counted g c =
    let count = buffers_below (version_view c.args.version) (chosen c.args.columns.now c.args.fields.now) in
    let had = length c.in_ok-queues.queues.buffers.items in
    let old = c.args.steps.now.count in
    let new = c.read_chosen.new.steps.count in
    counts_ok count had old new c.chunk_of.result
    (counts_any count had old new c.in_ok-arrays.arrays c.chunk_of.result c.in_ok-arrays.ensures.counted)
