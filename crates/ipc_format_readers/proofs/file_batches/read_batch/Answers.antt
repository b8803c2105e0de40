-- The columns of the message at the block are those of the file's record batch.
use Rattle.std.proofs.Common.{rules, ◌≡◌, ◌+◌, ℕ, map, subst}
use Rattle.std.specs.Option.{option_copied}
use Rattle.std.specs.Prelude.{Some, None, Err, slice_get}
use Rattle.ipc_format_chunk_writing.specs.BatchReads.{IsProjection, asked_arrays, entry_in, sized}
use Rattle.ipc_format_chunk_writing.specs.ReadArrays.{standing_in}
use Rattle.ipc_format_chunk_writing.specs.Rooms.{ReadsAs}
use Rattle.ipc_format_chunk_writing.specs.columns.StoredColumns.{slots}
use Rattle.ipc_format_chunk_writing.specs.flatbuffers.Views.{table_of}
use Rattle.ipc_format_chunk_writing.specs.grammar.Dictionaries.{Layout}
use Rattle.ipc_format_chunk_writing.specs.grammar.Files.{is_record_batch}
use Rattle.ipc_format_chunk_writing.specs.grammar.Messages.{record_batch}
use Rattle.ipc_format_chunk_writing.specs.messages.MessageViews.{version_view}
use Rattle.ipc_format_chunk_writing.specs.streams.Queues.{is_compressed}
use Rattle.ipc_format_readers.specs.FileStarts.{block_view, start_view}
use Rattle.ipc_format_readers.specs.MessagesTaken.{message_in}
use Rattle.ipc_format_readers.proofs.BlocksRead.{as_many_fields, batch_taken, layout_is, no_batch, not_batch}
use Rattle.ipc_format_readers.proofs.Lists.{seen_at}
use Rattle.ipc_format_readers.proofs.file_batches.read_batch.Goals as goal

pub returns-in_err-read_message_metadata-clause-read : goal.returns-in_err-read_message_metadata-clause-read
returns-in_err-read_message_metadata-clause-read g c =
    let metadata = c.args.metadata.now in
    let block = c.index-block.result.now in
    let here : slice_get (start_view metadata).record_batches c.args.index ≡ Some (block_view block) =
    seen_at block_view _ c.args.index block c.requires.within (search rules) in
    let error = c.in_err-read_message_metadata.field-0.0 in
    let is : c.from_residual.result ≡ Err error = search rules in
    rw is (no_batch metadata (option_copied c.args.projection) (standing_in c.args.dictionaries.now) c.args.limit c.args.index (block_view block)
    metadata.size (g.R.Room.told c.args.reader.now) (g.R.Room.told c.read_message_metadata.new.reader) error here
    c.in_err-read_message_metadata.ensures)

pub returns-in_default-clause-read : goal.returns-in_default-clause-read
returns-in_default-clause-read g c =
    let metadata = c.args.metadata.now in
    let block = c.index-block.result.now in
    let here : slice_get (start_view metadata).record_batches c.args.index ≡ Some (block_view block) =
    seen_at block_view _ c.args.index block c.requires.within (search rules) in
    let message = c.read_message_metadata.new.metadata.items in
    let none : message_in is_record_batch message ≡ None = search rules in
    not_batch metadata (option_copied c.args.projection) (standing_in c.args.dictionaries.now) c.args.limit c.args.index (block_view block)
    metadata.size (g.R.Room.told c.args.reader.now) message here c.in_ok-read_message_metadata.ensures.2 none

pub read_record_batch-requires : goal.read_record_batch-requires
read_record_batch-requires g c =
    let metadata = c.args.metadata.now in
    subst (λ (n : ℕ). IsProjection n (option_copied c.args.projection)) (as_many_fields metadata c.as_slice.result.now (search rules))
    c.requires.asked

pub returns-clause-read : goal.returns-clause-read
returns-clause-read g c =
    let metadata = c.args.metadata.now in
    let asked = option_copied c.args.projection in
    let standing = standing_in c.args.dictionaries.now in
    let block = c.index-block.result.now in
    let here : slice_get (start_view metadata).record_batches c.args.index ≡ Some (block_view block) =
    seen_at block_view _ c.args.index block c.requires.within (search rules) in
    let old = g.R.Room.told c.args.reader.now in
    let now = g.R.Room.told c.read_message_metadata.new.reader in
    let new = g.R.Room.told c.read_record_batch.new.reader in
    let message = c.read_message_metadata.new.metadata.items in
    let carried = c.in-Some.header.table.bytes.now in
    let table = table_of c.in-Some.header.table.place in
    let version = version_view c.in-Some.version in
    let same : carried ≡ message = search rules in
    let is : message_in is_record_batch message ≡ Some (record_batch table, version) = search rules in
    let layout = layout_is metadata c.as_slice.result.now (search rules) in
    batch_taken metadata asked standing c.args.limit c.args.index (block_view block) carried message table version metadata.size old now new
    c.read_record_batch.result here c.in_ok-read_message_metadata.ensures.1 c.in_ok-read_message_metadata.ensures.2 same is
    (subst (λ (l : Layout). ReadsAs (is_compressed carried table) (sized metadata.size now) (sized metadata.size new) (map slots)
    (λ room. asked_arrays asked l standing c.args.limit
    (entry_in carried (record_batch table) version (block.offset + block.metadata_length) room) table) c.read_record_batch.result) layout
    c.read_record_batch.ensures.read)
