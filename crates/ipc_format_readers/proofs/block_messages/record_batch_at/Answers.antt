-- The message at the block is the one that its metadata carry.
use Rattle.std.proofs.Common.{rules, ◌≡◌}
use Rattle.std.specs.Prelude.{Some, None}
use Rattle.ipc_format_chunk_writing.specs.grammar.Files.{entry_at, is_record_batch}
use Rattle.ipc_format_readers.specs.BlockMessages.{metadata_at}
use Rattle.ipc_format_readers.specs.FileStarts.{block_view}
use Rattle.ipc_format_readers.proofs.BlockEntries.{batch_stands, no_metadata}
use Rattle.ipc_format_readers.proofs.block_messages.record_batch_at.Goals as goal

pub returns-in_err-metadata : goal.returns-in_err-metadata
returns-in_err-metadata c =
    let none : metadata_at c.args.bytes.now c.args.block.now.offset ≡ None = search rules in
    let lacking : entry_at is_record_batch c.args.bytes.now (block_view c.args.block.now) ≡ None =
    no_metadata is_record_batch c.args.bytes.now (block_view c.args.block.now) none in
    search (rules, lacking)

pub returns : goal.returns
returns c =
    let metadata = c.in_ok-metadata.metadata.now in
    let there : metadata_at c.args.bytes.now c.args.block.now.offset ≡ Some metadata = search rules in
    batch_stands c.args.bytes.now metadata (block_view c.args.block.now) c.record_batch_in.result there c.record_batch_in.ensures.value
    c.record_batch_in.ensures.stands
