-- The arrays of a schema's batch are its columns.
use Rattle.std.proofs.Common.{rules, ◌≡◌, true, List, map, subst}
use Rattle.std.specs.Prelude.{Result, Err, Ok}
use Rattle.ipc_format.specs.BatchReads.{entry_in}
use Rattle.ipc_format.specs.ReadArrays.{standing_in}
use Rattle.ipc_format.specs.columnar_memory.declared.Error.{Error}
use Rattle.ipc_format.specs.columns.StoredColumns.{Column, slots}
use Rattle.ipc_format.specs.Views.{table_of}
use Rattle.ipc_format.specs.Messages.{record_batch}
use Rattle.ipc_format.specs.Tables.{batch_in}
use Rattle.ipc_format.specs.MessageViews.{version_view}
use Rattle.ipc_format.specs.metadata.Reading.{Reads}
use Rattle.ipc_format.specs.streams.Queues.{is_compressed}
use Rattle.tables_chunks.specs.Messages.{layout_by}
use Rattle.ipc_format.proofs.RoomReads.{batch_read}
use Rattle.tables_chunks.proofs.messages.batch_of.Goals as goal

pub returns-in_err-chunk-clause-value : goal.returns-in_err-chunk-clause-value
returns-in_err-chunk-clause-value c =
    let layout = layout_by c.args.fields.now c.args.ipc_schema.now in
    let standing = standing_in c.args.dictionaries.now in
    let metadata = c.args.header.now.table.bytes.now in
    let table = table_of c.args.header.now.table.place in
    let version = version_view c.args.version in
    let whole = batch_read layout standing metadata (record_batch table) version table 0 _ c.args.body.now _ c.read_record_batch.result c.requires
    (search rules) c.read_record_batch.ensures.read in
    let error = c.in_err-chunk.field-0.0 in
    let is : c.read_record_batch.result ≡ Err error = search rules in
    let refused = subst (λ (result : Result (List Column) Error). Reads (map slots) (is_compressed metadata table ≡ true) result
    (batch_in layout standing (entry_in metadata (record_batch table) version 0 c.args.body.now) table)) is whole in
    search (rules, refused)

pub returns-clause-value : goal.returns-clause-value
returns-clause-value c =
    let layout = layout_by c.args.fields.now c.args.ipc_schema.now in
    let standing = standing_in c.args.dictionaries.now in
    let metadata = c.args.header.now.table.bytes.now in
    let table = table_of c.args.header.now.table.place in
    let version = version_view c.args.version in
    let whole = batch_read layout standing metadata (record_batch table) version table 0 _ c.args.body.now _ c.read_record_batch.result c.requires
    (search rules) c.read_record_batch.ensures.read in
    let is : c.read_record_batch.result ≡ Ok c.in_ok-chunk.chunk = search rules in
    subst (λ (result : Result (List Column) Error). Reads (map slots) (is_compressed metadata table ≡ true) result
    (batch_in layout standing (entry_in metadata (record_batch table) version 0 c.args.body.now) table)) is whole
