-- Each kind of flat arrays, by its own reader.
use Rattle.std.proofs.Common.{◌≡◌, ◌∙◌, [], ap, refl, rules, true}
use Rattle.ipc_format_column_writing.specs.columnar_memory.Layouts.{physical_type}
use Rattle.ipc_format_column_writing.specs.columnar_memory.declared.PhysicalType.TheVariants as physical
use Rattle.ipc_format_column_writing.specs.nested_arrays.StoredColumns.{Column}
use Rattle.ipc_format_column_writing.specs.grammar.Layouts.{buffer_count, node_count}
use Rattle.ipc_format_column_writing.specs.grammar.Messages.{V5}
use Rattle.ipc_format_column_writing.specs.column_reading.FlatColumns.{binary_column, boolean_column, text_column}
use Rattle.ipc_format_column_writing.specs.column_reading.Reads.{front_slots}
use Rattle.ipc_format_column_writing.specs.nested_arrays.Childless.{is_childless}
use Rattle.ipc_format_array_reading.specs.TypedReads.{front_array}
use Rattle.ipc_format_array_reading.specs.Flats.{has_all}
use Rattle.ipc_format_array_reading.proofs.ArrayReading.{any_read, nulls_read, nulls_same}
use Rattle.ipc_format_array_reading.proofs.ChildlessLayers.{all_read, buffers_are, buffers_of, flat_bare, no_other, nodes_are}
use Rattle.ipc_format_array_reading.proofs.flats.read_flat.Goals as goal

pub returns-in-Null : goal.returns-in-Null
returns-in-Null g c =
    let t = c.args.data_type in
    let nodes = c.args.field_nodes.now.items in
    let buffers = c.args.buffers.now.items in
    let little = c.args.is_little_endian in
    let lies : physical_type t ≡ physical.Null = search rules in
    let bare = flat_bare t c.requires in
    nulls_read (g.R.Room.told c.args.reader.now) t (front_slots t nodes [] true c.args.limit 0 [])
    (front_array t nodes buffers little c.args.limit c.args.block_offset) (node_count t) (buffer_count V5 t) nodes
    c.read_null.new.field_nodes.items buffers c.read_null.result c.any_of.result lies
    (λ room. all_read t nodes buffers little c.args.limit c.args.block_offset (ap has_all lies) room
    ∙ nulls_same t nodes buffers little c.args.limit c.args.block_offset lies room) (nodes_are t bare)
    (buffers_are V5 t bare ∙ ap buffers_of lies) c.read_null.ensures c.any_of.ensures

pub returns-in-Boolean : goal.returns-in-Boolean
returns-in-Boolean g c =
    let t = c.args.data_type in
    let nodes = c.args.field_nodes.now.items in
    let buffers = c.args.buffers.now.items in
    let little = c.args.is_little_endian in
    let lies : physical_type t ≡ physical.Boolean = search rules in
    let bare = flat_bare t c.requires in
    any_read (physical_type t ≡ physical.Boolean) (g.R.Room.told c.args.reader.now) (g.R.Room.told c.read_boolean.new.reader) boolean_column t
    (front_slots t nodes buffers little c.args.limit c.args.block_offset)
    (front_array t nodes buffers little c.args.limit c.args.block_offset) 1 2 (node_count t) (buffer_count V5 t) nodes
    c.read_boolean.new.field_nodes.items buffers c.read_boolean.new.buffers.items c.read_boolean.result c.any_of-in-Boolean.result lies
    (all_read t nodes buffers little c.args.limit c.args.block_offset (ap has_all lies)) (nodes_are t bare)
    (buffers_are V5 t bare ∙ ap buffers_of lies) c.read_boolean.ensures c.any_of-in-Boolean.ensures

pub returns-in-Binary : goal.returns-in-Binary
returns-in-Binary g c =
    let t = c.args.data_type in
    let nodes = c.args.field_nodes.now.items in
    let buffers = c.args.buffers.now.items in
    let little = c.args.is_little_endian in
    let lies : physical_type t ≡ physical.Binary = search rules in
    let bare = flat_bare t c.requires in
    any_read (physical_type t ≡ physical.Binary) (g.R.Room.told c.args.reader.now) (g.R.Room.told c.read_binary.new.reader) binary_column t
    (front_slots t nodes buffers little c.args.limit c.args.block_offset)
    (front_array t nodes buffers little c.args.limit c.args.block_offset) 1 3 (node_count t) (buffer_count V5 t) nodes
    c.read_binary.new.field_nodes.items buffers c.read_binary.new.buffers.items c.read_binary.result c.any_of-in-Binary.result lies
    (all_read t nodes buffers little c.args.limit c.args.block_offset (ap has_all lies)) (nodes_are t bare)
    (buffers_are V5 t bare ∙ ap buffers_of lies) c.read_binary.ensures c.any_of-in-Binary.ensures

pub returns-in-LargeBinary : goal.returns-in-LargeBinary
returns-in-LargeBinary g c =
    let t = c.args.data_type in
    let nodes = c.args.field_nodes.now.items in
    let buffers = c.args.buffers.now.items in
    let little = c.args.is_little_endian in
    let lies : physical_type t ≡ physical.LargeBinary = search rules in
    let bare = flat_bare t c.requires in
    any_read (physical_type t ≡ physical.LargeBinary) (g.R.Room.told c.args.reader.now)
    (g.R.Room.told c.read_binary-in-LargeBinary.new.reader) binary_column t
    (front_slots t nodes buffers little c.args.limit c.args.block_offset)
    (front_array t nodes buffers little c.args.limit c.args.block_offset) 1 3 (node_count t) (buffer_count V5 t) nodes
    c.read_binary-in-LargeBinary.new.field_nodes.items buffers c.read_binary-in-LargeBinary.new.buffers.items
    c.read_binary-in-LargeBinary.result c.any_of-in-LargeBinary.result lies
    (all_read t nodes buffers little c.args.limit c.args.block_offset (ap has_all lies)) (nodes_are t bare)
    (buffers_are V5 t bare ∙ ap buffers_of lies) c.read_binary-in-LargeBinary.ensures c.any_of-in-LargeBinary.ensures

pub returns-in-FixedSizeBinary : goal.returns-in-FixedSizeBinary
returns-in-FixedSizeBinary g c =
    let t = c.args.data_type in
    let nodes = c.args.field_nodes.now.items in
    let buffers = c.args.buffers.now.items in
    let little = c.args.is_little_endian in
    let lies : physical_type t ≡ physical.FixedSizeBinary = search rules in
    let bare = flat_bare t c.requires in
    any_read (physical_type t ≡ physical.FixedSizeBinary) (g.R.Room.told c.args.reader.now)
    (g.R.Room.told c.read_fixed_size_binary.new.reader) (λ (array : Column). array) t
    (front_array t nodes buffers little c.args.limit c.args.block_offset)
    (front_array t nodes buffers little c.args.limit c.args.block_offset) 1 2 (node_count t) (buffer_count V5 t) nodes
    c.read_fixed_size_binary.new.field_nodes.items buffers c.read_fixed_size_binary.new.buffers.items c.read_fixed_size_binary.result
    c.any_of-in-FixedSizeBinary.result lies
    (λ room. refl) (nodes_are t bare)
    (buffers_are V5 t bare ∙ ap buffers_of lies) c.read_fixed_size_binary.ensures c.any_of-in-FixedSizeBinary.ensures

pub returns-in-Utf8 : goal.returns-in-Utf8
returns-in-Utf8 g c =
    let t = c.args.data_type in
    let nodes = c.args.field_nodes.now.items in
    let buffers = c.args.buffers.now.items in
    let little = c.args.is_little_endian in
    let lies : physical_type t ≡ physical.Utf8 = search rules in
    let bare = flat_bare t c.requires in
    any_read (physical_type t ≡ physical.Utf8) (g.R.Room.told c.args.reader.now) (g.R.Room.told c.read_utf8.new.reader) text_column t
    (front_slots t nodes buffers little c.args.limit c.args.block_offset)
    (front_array t nodes buffers little c.args.limit c.args.block_offset) 1 3 (node_count t) (buffer_count V5 t) nodes
    c.read_utf8.new.field_nodes.items buffers c.read_utf8.new.buffers.items c.read_utf8.result c.any_of-in-Utf8.result lies
    (all_read t nodes buffers little c.args.limit c.args.block_offset (ap has_all lies)) (nodes_are t bare)
    (buffers_are V5 t bare ∙ ap buffers_of lies) c.read_utf8.ensures c.any_of-in-Utf8.ensures

pub returns-in-LargeUtf8 : goal.returns-in-LargeUtf8
returns-in-LargeUtf8 g c =
    let t = c.args.data_type in
    let nodes = c.args.field_nodes.now.items in
    let buffers = c.args.buffers.now.items in
    let little = c.args.is_little_endian in
    let lies : physical_type t ≡ physical.LargeUtf8 = search rules in
    let bare = flat_bare t c.requires in
    any_read (physical_type t ≡ physical.LargeUtf8) (g.R.Room.told c.args.reader.now) (g.R.Room.told c.read_utf8-in-LargeUtf8.new.reader)
    text_column t
    (front_slots t nodes buffers little c.args.limit c.args.block_offset)
    (front_array t nodes buffers little c.args.limit c.args.block_offset) 1 3 (node_count t) (buffer_count V5 t) nodes
    c.read_utf8-in-LargeUtf8.new.field_nodes.items buffers c.read_utf8-in-LargeUtf8.new.buffers.items c.read_utf8-in-LargeUtf8.result
    c.any_of-in-LargeUtf8.result lies
    (all_read t nodes buffers little c.args.limit c.args.block_offset (ap has_all lies)) (nodes_are t bare)
    (buffers_are V5 t bare ∙ ap buffers_of lies) c.read_utf8-in-LargeUtf8.ensures c.any_of-in-LargeUtf8.ensures

pub returns-in_default : goal.returns-in_default
returns-in_default g c =
    let lies = c.to_physical_type.ensures in
    absurd (no_other (physical_type c.args.data_type) c.requires (λ kind is. c.in_default.not-Primitive kind (lies ∙ is))
    (λ is. c.in_default.not-Null (lies ∙ is)) (λ is. c.in_default.not-Boolean (lies ∙ is)) (λ is. c.in_default.not-Binary (lies ∙ is))
    (λ is. c.in_default.not-LargeBinary (lies ∙ is)) (λ is. c.in_default.not-FixedSizeBinary (lies ∙ is))
    (λ is. c.in_default.not-Utf8 (lies ∙ is)) (λ is. c.in_default.not-LargeUtf8 (lies ∙ is)))
