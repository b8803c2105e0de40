-- The columns of the fields, and the batch of them.
use Rattle.std.proofs.Common.{◌≡◌, ℕ, List, [], ap, length, map, refl, rules}
use Rattle.std.specs.Prelude.{Err, Ok}
use Rattle.ipc_format_reading.specs.Below.{buffers_below, no_own_ids}
use Rattle.ipc_format_reading.specs.array_reading.ReadArrays.{at_front, standing_in}
use Rattle.ipc_format_reading.specs.columns.StoredColumns.{slots}
use Rattle.ipc_format_reading.specs.messages.MessageViews.{version_view}
use Rattle.ipc_format_reading.specs.metadata.Views.{ids_views}
use Rattle.ipc_format_batch_reading.proofs.BufferCounts.{counts_any, counts_off}
use Rattle.ipc_format_batch_reading.proofs.ChunkReads.{chunk_read, columns_refused}
use Rattle.ipc_format_batch_reading.proofs.record_batch.read_chunk.Goals as goal

pub returns-in_err-arrays-clause-read : goal.returns-in_err-arrays-clause-read
returns-in_err-arrays-clause-read g c =
    let error = c.in_err-arrays.field-0.0 in
    let schema = c.args.ipc_schema.now in
    let is : c.from_residual.result ≡ Err error = search rules in
    rw is (columns_refused {A = ℕ} c.args.fields.now (ids_views schema.fields) (ids_views c.as_slice.result.now)
    (λ room. at_front c.args.field_nodes.now.items c.args.buffers.now.items (version_view c.args.version) schema.is_little_endian
    (standing_in c.args.dictionaries.now) c.args.limit c.args.block_offset no_own_ids room)
    (g.R.Room.told c.args.reader.now) (g.R.Room.told c.read_children_counted.new.reader) (λ n. []) error
    (ap ids_views c.as_slice.ensures) c.in_err-arrays.ensures.read.0)

pub returns-clause-read : goal.returns-clause-read
returns-clause-read g c =
    let schema = c.args.ipc_schema.now in
    chunk_read c.args.fields.now (ids_views schema.fields) (ids_views c.as_slice.result.now)
    (λ room. at_front c.args.field_nodes.now.items c.args.buffers.now.items (version_view c.args.version) schema.is_little_endian
    (standing_in c.args.dictionaries.now) c.args.limit c.args.block_offset no_own_ids room)
    (g.R.Room.told c.args.reader.now) (g.R.Room.told c.read_children_counted.new.reader) (λ arrays. map slots arrays.items) c.in_ok-arrays.arrays
    c.in_ok-arrays.arrays.items c.chunk_of.result (ap ids_views c.as_slice.ensures) refl c.in_ok-arrays.ensures.read.0 c.chunk_of.ensures

pub returns-in_err-arrays-clause-counted : goal.returns-in_err-arrays-clause-counted
returns-in_err-arrays-clause-counted g c =
    let error = c.in_err-arrays.field-0.0 in
    let is : c.from_residual.result ≡ Err error = search rules in
    rw is (counts_off {A = ℕ} (buffers_below (version_view c.args.version) c.args.fields.now) c.args.buffers.now.items
    c.read_children_counted.new.buffers.items c.args.steps.now.count c.read_children_counted.new.steps.count (Err error)
    c.in_err-arrays.ensures.read.2 c.in_err-arrays.ensures.counted)

pub returns-clause-counted : goal.returns-clause-counted
returns-clause-counted g c =
    let count = buffers_below (version_view c.args.version) c.args.fields.now in
    let old = c.args.steps.now.count in
    let new = c.read_children_counted.new.steps.count in
    counts_any count (length c.args.buffers.now.items) old new c.in_ok-arrays.arrays c.chunk_of.result
    (counts_off count c.args.buffers.now.items c.read_children_counted.new.buffers.items old new (Ok c.in_ok-arrays.arrays)
    c.in_ok-arrays.ensures.read.2 c.in_ok-arrays.ensures.counted)
