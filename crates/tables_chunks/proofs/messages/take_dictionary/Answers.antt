-- The dictionary of a schema's message stands as the latest one.
use Rattle.std.proofs.Common.{rules}
use Rattle.ipc_format.specs.Views.{table_of}
use Rattle.ipc_format.specs.Messages.{dictionary_batch}
use Rattle.ipc_format.specs.MessageViews.{version_view}
use Rattle.tables_chunks.specs.Messages.{layout_by}
use Rattle.ipc_format.proofs.RoomReads.{dictionary_read}
use Rattle.tables_chunks.proofs.messages.take_dictionary.Goals as goal

pub returns : goal.returns
returns c =
    let table = table_of c.args.header.now.table.place in
    dictionary_read (layout_by c.args.fields.now c.args.ipc_schema.now) c.args.header.now.table.bytes.now (dictionary_batch table)
    (version_view c.args.version) table 0 _ c.args.body.now _ c.args.dictionaries.now c.read_dictionary_with.new.dictionaries
    c.read_dictionary_with.result c.requires.arrays (search rules) c.read_dictionary_with.ensures
