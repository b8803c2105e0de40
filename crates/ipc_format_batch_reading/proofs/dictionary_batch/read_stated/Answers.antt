-- What is read at the fronts of the queues.
use Rattle.std.proofs.Common.{w64}
use Rattle.std.proofs.lemmas.Int.{to_z-of_z}
use Rattle.std.specs.Prelude.{None}
use Rattle.ipc_format_reading.specs.Below.{no_own_ids}
use Rattle.ipc_format_reading.specs.array_reading.ReadArrays.{at_front, dictionary_of, standing_in}
use Rattle.ipc_format_reading.specs.flatbuffers.Views.{table_of}
use Rattle.ipc_format_reading.specs.grammar.Dictionaries.{Layout}
use Rattle.ipc_format_reading.specs.grammar.Messages.{dictionary_batch}
use Rattle.ipc_format_reading.specs.messages.MessageViews.{version_view}
use Rattle.ipc_format_reading.specs.metadata.Views.{ids_views}
use Rattle.ipc_format_batch_reading.specs.DictionaryReads.{placed_dictionary}
use Rattle.ipc_format_batch_reading.proofs.DictionaryReads.{values_at}
use Rattle.ipc_format_batch_reading.proofs.QueueReads.{queues_read}
use Rattle.ipc_format_batch_reading.proofs.dictionary_batch.read_stated.Goals as goal

pub returns : goal.returns
returns g c =
    let schema = c.args.ipc_schema.now in
    let table = table_of c.args.batch.now.table.place in
    let layout : Layout = record {
      fields = c.args.fields.now;
      below = ids_views schema.fields;
      is_little_endian = schema.is_little_endian;
    } in
    queues_read c.args.batch.now.table.bytes.now table c.args.file_size (g.R.Room.told c.args.reader.now) (g.R.Room.told c.read_values.new.reader)
    schema.is_little_endian (dictionary_batch table) (version_view c.args.version) c.args.block_offset c.in_ok-queues.queues
    (λ source. placed_dictionary layout c.args.id (record {
      source = source;
      standing = standing_in c.args.dictionaries.now;
      limit = None;
      node = 0;
      buffer = 0;
      ids = no_own_ids;
    })) (λ array. dictionary_of (c.args.id, array)) c.read_values.result c.in_ok-queues.ensures
    (values_at layout _ c.args.id (λ room. at_front c.in_ok-queues.queues.field_nodes.items c.in_ok-queues.queues.buffers.items
    (version_view c.args.version) schema.is_little_endian (standing_in c.args.dictionaries.now) None c.args.block_offset no_own_ids room)
    (g.R.Room.told c.args.reader.now) (g.R.Room.told c.read_values.new.reader) c.read_values.result (to_z-of_z w64 c.args.id c.ranges.id)
    c.read_values.ensures)
