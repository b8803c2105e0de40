-- The dictionary of the message at the block stands as the latest one.
use Rattle.std.proofs.Common.{rules, ◌≡◌, ◌+◌, subst}
use Rattle.std.specs.Prelude.{Some, None, Err}
use Rattle.ipc_format_chunk_writing.specs.BatchReads.{entry_in, sized}
use Rattle.ipc_format_chunk_writing.specs.DictionaryReads.{ReadsDictionary, dictionary_array, is_unread}
use Rattle.ipc_format_chunk_writing.specs.ReadArrays.{standing_in}
use Rattle.ipc_format_chunk_writing.specs.flatbuffers.Views.{table_of}
use Rattle.ipc_format_chunk_writing.specs.grammar.Dictionaries.{Layout}
use Rattle.ipc_format_chunk_writing.specs.grammar.Files.{is_dictionary}
use Rattle.ipc_format_chunk_writing.specs.grammar.Messages.{dictionary_batch}
use Rattle.ipc_format_chunk_writing.specs.messages.MessageViews.{version_view}
use Rattle.ipc_format_readers.specs.FileStarts.{block_view, layout_in}
use Rattle.ipc_format_readers.specs.MessagesTaken.{message_in}
use Rattle.ipc_format_readers.proofs.BlocksRead.{dictionary_taken, layout_is, no_dictionary, not_dictionary}
use Rattle.ipc_format_readers.proofs.file_batches.take_dictionary.Goals as goal

pub returns-in_err-read_message_metadata : goal.returns-in_err-read_message_metadata
returns-in_err-read_message_metadata g c =
    let metadata = c.args.metadata.now in
    let error = c.in_err-read_message_metadata.field-0.0 in
    let is : c.from_residual.result ≡ Err error = search rules in
    rw is (no_dictionary (layout_in metadata) (block_view c.args.block.now) (standing_in c.args.dictionaries.now) metadata.size
    (g.R.Room.told c.args.reader.now) (g.R.Room.told c.read_message_metadata.new.reader) error c.in_err-read_message_metadata.ensures)

pub returns-in_default : goal.returns-in_default
returns-in_default g c =
    let metadata = c.args.metadata.now in
    let message = c.read_message_metadata.new.metadata.items in
    let none : message_in is_dictionary message ≡ None = search rules in
    not_dictionary (layout_in metadata) (block_view c.args.block.now) (standing_in c.args.dictionaries.now) metadata.size
    (g.R.Room.told c.args.reader.now) message c.in_ok-read_message_metadata.ensures.2 none

pub returns : goal.returns
returns g c =
    let metadata = c.args.metadata.now in
    let block = block_view c.args.block.now in
    let old = g.R.Room.told c.args.reader.now in
    let now = g.R.Room.told c.read_message_metadata.new.reader in
    let new = g.R.Room.told c.read_dictionary_with.new.reader in
    let message = c.read_message_metadata.new.metadata.items in
    let carried = c.in-Some.header.table.bytes.now in
    let table = table_of c.in-Some.header.table.place in
    let version = version_view c.in-Some.version in
    let same : carried ≡ message = search rules in
    let is : message_in is_dictionary message ≡ Some (dictionary_batch table, version) = search rules in
    let layout = layout_is metadata c.as_slice.result.now (search rules) in
    dictionary_taken (layout_in metadata) block carried message table version metadata.size old now new c.args.dictionaries.now
    c.read_dictionary_with.new.dictionaries c.read_dictionary_with.result metadata.has_arrays c.in_ok-read_message_metadata.ensures.1
    c.in_ok-read_message_metadata.ensures.2 same is
    (subst (λ (l : Layout). ReadsDictionary (is_unread carried table) (sized metadata.size now) (sized metadata.size new)
    (λ room. dictionary_array l (standing_in c.args.dictionaries.now)
    (entry_in carried (dictionary_batch table) version (block.offset + block.metadata_length) room) table)
    c.args.dictionaries.now c.read_dictionary_with.new.dictionaries c.read_dictionary_with.result) layout c.read_dictionary_with.ensures)
