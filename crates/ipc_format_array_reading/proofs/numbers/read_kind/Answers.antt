-- Numbers of a kind that is no float.
use Rattle.std.proofs.Common.{◌≡◌, ◌∙◌, ap}
use Rattle.ipc_format_column_writing.specs.columnar_memory.Layouts.{physical_type}
use Rattle.ipc_format_column_writing.specs.columnar_memory.declared.PhysicalType.TheVariants as physical
use Rattle.ipc_format_column_writing.specs.grammar.Layouts.{buffer_count, node_count}
use Rattle.ipc_format_column_writing.specs.grammar.Messages.{V5}
use Rattle.ipc_format_column_writing.specs.column_reading.FlatColumns.{primitive_column}
use Rattle.ipc_format_column_writing.specs.column_reading.Reads.{front_slots}
use Rattle.ipc_format_column_writing.specs.nested_arrays.Childless.{is_childless}
use Rattle.ipc_format_array_reading.specs.TypedReads.{front_array}
use Rattle.ipc_format_array_reading.specs.Flats.{has_all}
use Rattle.ipc_format_array_reading.proofs.ArrayReading.{any_read}
use Rattle.ipc_format_array_reading.proofs.ChildlessLayers.{all_read, buffers_are, buffers_of, flat_bare, nodes_are}
use Rattle.ipc_format_array_reading.proofs.numbers.read_kind.Goals as goal

pub returns : goal.returns
returns g c =
    let t = c.args.data_type in
    let nodes = c.args.field_nodes.now.items in
    let buffers = c.args.buffers.now.items in
    let little = c.args.is_little_endian in
    let kind = g.T.NativeType.PRIMITIVE in
    let lies = c.requires.kind in
    let bare = flat_bare t (ap is_childless lies) in
    any_read (physical_type t ≡ physical.Primitive kind) (g.R.Room.told c.args.reader.now) (g.R.Room.told c.read_primitive.new.reader)
    (primitive_column kind g.T.NativeType.numbers) t (front_slots t nodes buffers little c.args.limit c.args.block_offset)
    (front_array t nodes buffers little c.args.limit c.args.block_offset) 1 2 (node_count t) (buffer_count V5 t) nodes
    c.read_primitive.new.field_nodes.items buffers c.read_primitive.new.buffers.items c.read_primitive.result c.any_of.result lies
    (all_read t nodes buffers little c.args.limit c.args.block_offset (ap has_all lies ∙ c.requires.all)) (nodes_are t bare)
    (buffers_are V5 t bare ∙ ap buffers_of lies) c.read_primitive.ensures c.any_of.ensures
