-- The dictionary of the message stands as the latest one.
use Rattle.std.proofs.Common.{rules}
use Rattle.tables_chunks.specs.Messages.{layout_by}
use Rattle.tables_chunks.specs.ipc_format.Messages.{dictionary_batch}
use Rattle.tables_chunks.specs.ipc_format.MessageViews.{version_view}
use Rattle.tables_chunks.specs.ipc_format.ReadArrays.{standing_in}
use Rattle.tables_chunks.specs.ipc_format.Views.{table_of}
use Rattle.tables_chunks.proofs.ipc_format_lemmas.RoomReads.{dictionary_read}
use Rattle.tables_rows.proofs.EntryReads.{entry_taken}
use Rattle.tables_rows.proofs.chosen.take_dictionary.Goals as goal

pub returns : goal.returns
returns c =
    let layout = layout_by c.args.fields.now c.args.ipc_schema.now in
    let entry = c.args.entry.now in
    let header = c.args.header.now in
    let table = table_of header.table.place in
    entry_taken layout (standing_in c.args.dictionaries.now) (standing_in c.read_dictionary_with.new.dictionaries) entry header
    c.read_dictionary_with.result
    c.requires.header
    (dictionary_read layout header.table.bytes.now (dictionary_batch table) (version_view entry.version) table entry.origin _ entry.room.now _
    c.args.dictionaries.now c.read_dictionary_with.new.dictionaries c.read_dictionary_with.result c.requires.arrays (search rules)
    c.read_dictionary_with.ensures)
