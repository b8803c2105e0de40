-- The body of a message is a room that shows its bytes.
use Rattle.std.proofs.Common.{length, refl}
use Rattle.std.specs.Prelude.{Some}
use Rattle.ipc_format_chunk_writing.specs.BatchReads.{sized}
use Rattle.ipc_format_chunk_writing.specs.Rooms.{Told}
use Rattle.ipc_format_chunk_writing.specs.flatbuffers.Views.{table_of}
use Rattle.ipc_format_chunk_writing.specs.messages.MessageViews.{version_view}
use Rattle.ipc_format_chunk_writing.specs.metadata.Views.{ids_views}
use Rattle.ipc_format_readers.proofs.Heard.{dictionary_heard}
use Rattle.ipc_format_readers.proofs.Turning.{layout_with}
use Rattle.ipc_format_readers.proofs.message.take_dictionary.Goals as goal

pub returns : goal.returns
returns c =
    let told : Told = sized (length c.args.body.now) (record { bytes = Some c.read_dictionary_with.new.reader.bytes.now; failures = 0 }) in
    dictionary_heard (layout_with c.args.fields.now (ids_views c.args.ipc_schema.now.fields) c.args.ipc_schema.now.is_little_endian)
    (version_view c.args.version) c.args.dictionaries.now c.read_dictionary_with.new.dictionaries c.args.batch.now.table.bytes.now
    (table_of c.args.batch.now.table.place) c.args.body.now told c.read_dictionary_with.result refl c.read_dictionary_with.ensures
