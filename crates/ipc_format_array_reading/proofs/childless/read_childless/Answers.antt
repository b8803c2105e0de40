-- Keys by the id at the field, and columns of flat arrays whatever the ids.
use Rattle.std.proofs.Common.{◌≡◌, ◌∙◌, ap, false, refl, rules, subst, sym}
use Rattle.ipc_format_column_writing.specs.columnar_memory.Layouts.{physical_type}
use Rattle.ipc_format_column_writing.specs.columnar_memory.declared.DataType.{DataType}
use Rattle.ipc_format_column_writing.specs.columnar_memory.declared.PhysicalType.TheVariants as physical
use Rattle.ipc_format_column_writing.specs.nested_arrays.StoredColumns.{type_layer}
use Rattle.ipc_format_column_writing.specs.grammar.Layouts.{buffer_count, node_count}
use Rattle.ipc_format_column_writing.specs.grammar.Messages.{V5}
use Rattle.ipc_format_column_writing.specs.grammar.Schemas.{ids, no_ids}
use Rattle.ipc_format_column_writing.specs.messages.MessageViews.{version_view}
use Rattle.ipc_format_column_writing.specs.metadata.Views.{ids_view}
use Rattle.ipc_format_column_writing.specs.metadata.declared.ipc_schema.IpcField.TheViews.{out-IpcField}
use Rattle.ipc_format_array_reading.specs.ArrayReads.{array_slots}
use Rattle.ipc_format_array_reading.specs.Parts.{has_children}
use Rattle.ipc_format_array_reading.specs.TypedReads.{front_array}
use Rattle.ipc_format_array_reading.specs.ReadArrays.{at_front, standing_in}
use Rattle.ipc_format_array_reading.proofs.ArrayReading.{TakesTyped, typed_as}
use Rattle.ipc_format_array_reading.proofs.ChildlessLayers.{apart_from_keys, bare_flat, buffers_are, flat_same, is_keyed}
use Rattle.ipc_format_array_reading.proofs.KeyedReading.{keyed_same}
use Rattle.ipc_format_array_reading.proofs.OwnIds.{own_id_is}
use Rattle.ipc_format_array_reading.proofs.childless.read_childless.Goals as goal

pub returns-in-Dictionary : goal.returns-in-Dictionary
returns-in-Dictionary g c =
    let t = c.args.data_type.now in
    let key = c.in-Dictionary.key in
    let version = version_view c.args._version in
    let field = c.args.ipc_field.now in
    let m = c.args.dictionaries.now in
    let nodes = c.args.field_nodes.now.items in
    let buffers = c.args.buffers.now.items in
    let little = c.args.is_little_endian in
    let copied : c.in_ok-copy.copy ≡ t = search rules in
    let lies : physical_type t ≡ physical.Dictionary key = search rules in
    let here = ids (out-IpcField field).dictionary_id no_ids in
    let old = g.R.Room.told c.args.reader.now in
    let new = g.R.Room.told c.read_keyed.new.reader in
    record {
      read = typed_as old new t (λ room. array_slots t (at_front nodes buffers V5 little (standing_in m) c.args.limit c.args.block_offset here room))
          (λ room. array_slots t (at_front nodes buffers version little (standing_in m) c.args.limit c.args.block_offset (ids_view field) room))
          (node_count t) (buffer_count V5 t) (node_count t) (buffer_count version t) nodes c.read_keyed.new.field_nodes.items buffers
          c.read_keyed.new.buffers.items c.read_keyed.result
          (keyed_same t key nodes buffers version little m c.args.limit c.args.block_offset (ids_view field) here (own_id_is field) lies) refl
          (buffers_are version t c.requires ∙ sym (buffers_are V5 t c.requires))
          (subst (λ (u : DataType). TakesTyped old new u
          (λ room. array_slots u (at_front nodes buffers V5 little (standing_in m) c.args.limit c.args.block_offset here room)) (node_count u)
          (buffer_count V5 u) nodes c.read_keyed.new.field_nodes.items buffers c.read_keyed.new.buffers.items c.read_keyed.result) copied
          c.read_keyed.ensures);
    }

pub read_flat-requires : goal.read_flat-requires
read_flat-requires g c =
    let copy = c.in_ok-copy.copy in
    let copied : copy ≡ c.args.data_type.now = search rules in
    bare_flat copy (ap (λ (t : DataType). has_children (type_layer t)) copied ∙ c.requires)
    (apart_from_keys copy (λ key is. c.in_default.not-Dictionary key (c.to_physical_type.ensures ∙ is)))

pub returns-in_default : goal.returns-in_default
returns-in_default g c =
    let t = c.args.data_type.now in
    let version = version_view c.args._version in
    let here = ids_view c.args.ipc_field.now in
    let m = c.args.dictionaries.now in
    let nodes = c.args.field_nodes.now.items in
    let buffers = c.args.buffers.now.items in
    let little = c.args.is_little_endian in
    let copied : c.in_ok-copy.copy ≡ t = search rules in
    let apart : is_keyed (physical_type t) ≡ false =
    apart_from_keys t (λ key is. c.in_default.not-Dictionary key (c.to_physical_type.ensures ∙ ap physical_type copied ∙ is)) in
    let old = g.R.Room.told c.args.reader.now in
    let new = g.R.Room.told c.read_flat.new.reader in
    record {
      read = typed_as old new t (front_array t nodes buffers little c.args.limit c.args.block_offset)
          (λ room. array_slots t (at_front nodes buffers version little (standing_in m) c.args.limit c.args.block_offset here room)) (node_count t)
          (buffer_count V5 t) (node_count t) (buffer_count version t) nodes c.read_flat.new.field_nodes.items buffers c.read_flat.new.buffers.items
          c.read_flat.result
          (flat_same t nodes buffers version little (standing_in m) c.args.limit c.args.block_offset here (bare_flat t c.requires apart) apart) refl
          (buffers_are version t c.requires ∙ sym (buffers_are V5 t c.requires))
          (subst (λ (u : DataType). TakesTyped old new u (front_array u nodes buffers little c.args.limit c.args.block_offset) (node_count u)
          (buffer_count V5 u) nodes c.read_flat.new.field_nodes.items buffers c.read_flat.new.buffers.items
          c.read_flat.result) copied c.read_flat.ensures);
    }
