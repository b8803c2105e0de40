-- Keys of one type, by their own reader.
use Rattle.std.proofs.Common.{◌≡◌, ◌∙◌, List, ap, refl, ℕ}
use Rattle.ipc_format_column_writing.specs.columnar_memory.Layouts.{physical_type}
use Rattle.ipc_format_column_writing.specs.columnar_memory.declared.PhysicalType.TheVariants as physical
use Rattle.ipc_format_column_writing.specs.nested_arrays.StoredColumns.{Column}
use Rattle.ipc_format_column_writing.specs.grammar.Layouts.{buffer_count, node_count}
use Rattle.ipc_format_column_writing.specs.grammar.Messages.{V5}
use Rattle.ipc_format_column_writing.specs.grammar.Schemas.{ids, no_ids}
use Rattle.ipc_format_array_reading.specs.ArrayReads.{array_slots}
use Rattle.ipc_format_array_reading.specs.ReadArrays.{at_front, standing_in}
use Rattle.ipc_format_array_reading.proofs.ArrayReading.{any_read}
use Rattle.ipc_format_array_reading.proofs.ChildlessLayers.{buffers_are, buffers_of, keyed_bare, nodes_are}
use Rattle.ipc_format_array_reading.proofs.childless.read_keys_as.Goals as goal

pub returns : goal.returns
returns g c =
    let t = c.args.data_type in
    let key = g.K.DictionaryKey.KEY_TYPE in
    let nodes = c.args.field_nodes.now.items in
    let buffers = c.args.buffers.now.items in
    let lies = c.requires in
    let bare = keyed_bare t key lies in
    let given = λ (room : List ℕ). array_slots t (at_front nodes buffers V5 c.args.is_little_endian (standing_in c.args.dictionaries.now) c.args.limit
    c.args.block_offset (ids c.args.id no_ids) room) in
    any_read (physical_type t ≡ physical.Dictionary key) (g.R.Room.told c.args.reader.now) (g.R.Room.told c.read_dictionary.new.reader)
    (λ (array : Column). array) t given given 1 2 (node_count t) (buffer_count V5 t) nodes c.read_dictionary.new.field_nodes.items buffers
    c.read_dictionary.new.buffers.items c.read_dictionary.result c.any_of.result lies (λ room. refl) (nodes_are t bare)
    (buffers_are V5 t bare ∙ ap buffers_of lies) c.read_dictionary.ensures c.any_of.ensures
