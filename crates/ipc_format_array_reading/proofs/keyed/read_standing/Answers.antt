-- The values that stand, and the keys.
use Rattle.std.proofs.Common.{◌≡◌, ◌∙◌, Bool, ap, inl, map, refl, rules, sym}
use Rattle.std.specs.Prelude.{Err, None, Option, Some}
use Rattle.ipc_format_column_writing.specs.columnar_memory.Layouts.{physical_type}
use Rattle.ipc_format_column_writing.specs.columnar_memory.declared.PhysicalType.TheVariants as physical
use Rattle.ipc_format_column_writing.specs.nested_arrays.Slots.{Slot}
use Rattle.ipc_format_column_writing.specs.nested_arrays.StoredColumns.{Column, type_layer}
use Rattle.ipc_format_column_writing.specs.grammar.Messages.{V5}
use Rattle.ipc_format_column_writing.specs.grammar.Schemas.{ids, no_ids}
use Rattle.ipc_format_array_reading.specs.ArrayReads.{array_slots}
use Rattle.ipc_format_array_reading.proofs.Taking.{drop_none}
use Rattle.ipc_format_array_reading.specs.Keyed.{values_for}
use Rattle.ipc_format_array_reading.specs.ReadArrays.{at_front, standing_in}
use Rattle.ipc_format_array_reading.proofs.KeyedReading.{Found, array_made, array_refused, no_values, values_typed}
use Rattle.ipc_format_array_reading.proofs.keyed.read_standing.Goals as goal

pub returns-in_default : goal.returns-in_default
returns-in_default g c =
    let t = c.args.data_type in
    let key = g.K.DictionaryKey.KEY_TYPE in
    let m = c.args.dictionaries.now in
    let lies = c.requires in
    let none : values_for (type_layer t) c.args.id m ≡ None = search rules in
    inl (
      lies,
      (
        refl,
        λ room known. no_values t key c.args.field_nodes.now.items c.args.buffers.now.items V5 c.args.is_little_endian m c.args.limit
            c.args.block_offset (ids c.args.id no_ids) lies none room,
      ),
      (0, sym (drop_none c.args.field_nodes.now.items)),
      (0, sym (drop_none c.args.buffers.now.items)),
    )

pub returns-in_err-keys : goal.returns-in_err-keys
returns-in_err-keys g c =
    let t = c.args.data_type in
    let key = g.K.DictionaryKey.KEY_TYPE in
    let m = c.args.dictionaries.now in
    let nodes = c.args.field_nodes.now.items in
    let buffers = c.args.buffers.now.items in
    let here = ids c.args.id no_ids in
    let values = c.in-Some.values.now in
    let old = g.R.Room.told c.args.reader.now in
    let new = g.R.Room.told c.read_keys.new.reader in
    let lies = c.requires in
    let found : values_for (type_layer t) c.args.id m ≡ Some values = search rules in
    let error = c.in_err-keys.field-0.0 in
    let is : c.from_residual.result ≡ Err error = search rules in
    rw is (array_refused old new t key g.K.NativeType.PRIMITIVE (λ (keys : Found). keys) values nodes c.read_keys.new.field_nodes.items buffers
    c.read_keys.new.buffers.items V5 c.args.is_little_endian m c.args.limit c.args.block_offset here error g.met.K.DictionaryKey.key_law lies found
    c.in_err-keys.ensures.read c.in_err-keys.ensures.nodes c.in_err-keys.ensures.buffers)

pub dictionary_of-requires-clause-typed : goal.dictionary_of-requires-clause-typed
dictionary_of-requires-clause-typed g c =
    let found : values_for (type_layer c.args.data_type) c.args.id c.args.dictionaries.now ≡ Some c.in-Some.values.now = search rules in
    values_typed (type_layer c.args.data_type) c.args.id c.args.dictionaries.now c.in-Some.values.now found

pub returns : goal.returns
returns g c =
    let t = c.args.data_type in
    let key = g.K.DictionaryKey.KEY_TYPE in
    let m = c.args.dictionaries.now in
    let nodes = c.args.field_nodes.now.items in
    let buffers = c.args.buffers.now.items in
    let here = ids c.args.id no_ids in
    let values = c.in-Some.values.now in
    let keys = c.in_ok-keys.keys in
    let old = g.R.Room.told c.args.reader.now in
    let new = g.R.Room.told c.read_keys.new.reader in
    let lies = c.requires in
    let found : values_for (type_layer t) c.args.id m ≡ Some values = search rules in
    array_made old new t key g.K.NativeType.PRIMITIVE keys.validity (map g.K.NativeType.numbers keys.values) values nodes
    c.read_keys.new.field_nodes.items buffers c.read_keys.new.buffers.items V5 c.args.is_little_endian m c.args.limit c.args.block_offset here
    c.dictionary_of.result g.met.K.DictionaryKey.key_law lies found c.in_ok-keys.ensures.read c.in_ok-keys.ensures.nodes c.in_ok-keys.ensures.buffers
    c.dictionary_of.ensures
