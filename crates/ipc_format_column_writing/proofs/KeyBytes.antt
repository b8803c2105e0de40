-- The bytes of keys, and of the ids and places of unions, as numbers of a kind.
use Rattle.std.proofs.Common.{◌≡◌, ◌∙◌, ℕ, Bool, true, false, List, [], ◌∷◌, refl, sym, ap}
use Rattle.std.specs.Int.{w8, w32}
use Rattle.std.specs.List.{flat_map}
use Rattle.std.specs.Prelude.{ℤ, Option}
use Rattle.nested_arrays_core.specs.Keys.{AreKeysOf, keyed, kind_of_keys}
use Rattle.ipc_format_column_reading.specs.column_bytes.Numbers.{value_bytes}
use Rattle.ipc_format_column_reading.specs.column_bytes.columnar_memory.Layouts.{physical_type}
use Rattle.ipc_format_column_reading.specs.column_bytes.columnar_memory.Numbers.{one}
use Rattle.ipc_format_column_reading.specs.column_bytes.columnar_memory.declared.DataType.{DataType}
use Rattle.ipc_format_column_reading.specs.column_bytes.columnar_memory.declared.DataType.TheOpen as layer
use Rattle.ipc_format_column_reading.specs.column_bytes.columnar_memory.declared.IntegerType.{IntegerType}
use Rattle.ipc_format_column_reading.specs.column_bytes.columnar_memory.declared.IntegerType.TheVariants as integers
use Rattle.ipc_format_column_reading.specs.column_bytes.columnar_memory.declared.IntervalUnit.TheVariants as interval
use Rattle.ipc_format_column_reading.specs.column_bytes.columnar_memory.declared.PhysicalType.{PhysicalType}
use Rattle.ipc_format_column_reading.specs.column_bytes.columnar_memory.declared.PhysicalType.TheVariants as physical
use Rattle.ipc_format_column_reading.specs.column_bytes.columnar_memory.declared.PrimitiveType.{PrimitiveType}
use Rattle.ipc_format_column_reading.specs.column_bytes.columnar_memory.declared.PrimitiveType.TheVariants as kinds
use Rattle.ipc_format_column_reading.specs.column_bytes.columns.Slots.{number}
use Rattle.ipc_format_column_reading.specs.column_bytes.columns.StoredColumns.{Column, flat}
use Rattle.ipc_format_column_reading.specs.column_bytes.columns.StoredColumns.{bits, numbers, pairs, triples, texts, byte_strings, fixed_bytes}
use Rattle.ipc_format_column_reading.specs.column_bytes.columns.StoredColumns.{cut_list, cut_mask, type_layer}
use Rattle.ipc_format_column_reading.specs.column_bytes.grammar.Buffers.{key_width}
use Rattle.ipc_format_column_reading.specs.column_bytes.grammar.Encoding.{column_over}
use Rattle.ipc_format_column_reading.specs.column_bytes.grammar.StoredEncoding.{encode_range, integer_bytes, key_bytes, mask_bytes, node_over, ordered_value}
use Rattle.ipc_format_column_reading.proofs.bytes_lemmas.LayerWidths.{plain_layer}
use Rattle.ipc_format_column_reading.proofs.bytes_lemmas.columns_lemmas.TypeLayers.{Layer, is_extension, layer_layout, layout_is}

-- the ids of a union's slots
pub id_bytes : (little : Bool) (ids : List ℤ) → flat_map (λ n. value_bytes little kinds.Int8 (one n)) ids ≡ integer_bytes little w8 ids
id_bytes true ids = refl
id_bytes false ids = refl

-- and their places
pub place_bytes : (little : Bool) (places : List ℤ)
    → flat_map (λ n. value_bytes little kinds.Int32 (one n)) places ≡ integer_bytes little w32 places
place_bytes true places = refl
place_bytes false places = refl

-- keys, by how dictionaries lie in memory
abbrev layout_keys : Bool → PhysicalType → List ℤ → List ℕ
layout_keys little (physical.Dictionary key) keys = integer_bytes little (key_width key) keys
layout_keys little _ keys = []

layer_keys : (little : Bool) (x : Layer) (keys : List ℤ) → is_extension x ≡ false → key_bytes little x keys ≡ layout_keys little (layer_layout x) keys
layer_keys little (layer.Interval interval.YearMonth) keys plain = refl
layer_keys little (layer.Interval interval.DayTime) keys plain = refl
layer_keys little (layer.Interval interval.MonthDayNano) keys plain = refl
layer_keys little (layer.Extension name inner metadata) keys plain = absurd cc
layer_keys little _ keys plain = refl

type_keys : (little : Bool) (t : DataType) (keys : List ℤ) → key_bytes little (type_layer t) keys ≡ layout_keys little (physical_type t) keys
type_keys little t keys =
    layer_keys little (type_layer t) keys (plain_layer t) ∙ ap (λ (layout : PhysicalType). layout_keys little layout keys) (sym (layout_is t))

-- keys of an integer type, each as a number of its kind
abbrev numbers_bytes : Bool → PrimitiveType → List ℤ → List ℕ
numbers_bytes little kind keys = flat_map (λ n. ordered_value little kind (number kind n)) keys

kind_keys : (little : Bool) (key : IntegerType) (keys : List ℤ)
    → numbers_bytes little (kind_of_keys key) keys ≡ integer_bytes little (key_width key) keys
kind_keys true integers.Int8 keys = refl
kind_keys true integers.Int16 keys = refl
kind_keys true integers.Int32 keys = refl
kind_keys true integers.Int64 keys = refl
kind_keys true integers.UInt8 keys = refl
kind_keys true integers.UInt16 keys = refl
kind_keys true integers.UInt32 keys = refl
kind_keys true integers.UInt64 keys = refl
kind_keys false integers.Int8 keys = refl
kind_keys false integers.Int16 keys = refl
kind_keys false integers.Int32 keys = refl
kind_keys false integers.Int64 keys = refl
kind_keys false integers.UInt8 keys = refl
kind_keys false integers.UInt16 keys = refl
kind_keys false integers.UInt32 keys = refl
kind_keys false integers.UInt64 keys = refl

laid_keys : (little : Bool) (layout : PhysicalType) (t : DataType) (mask : Option (List Bool)) (kind : PrimitiveType) (keys part : List ℤ)
    → AreKeysOf layout (flat t mask (numbers kind keys)) → numbers_bytes little kind part ≡ layout_keys little layout part
laid_keys little (physical.Dictionary key) t mask kind keys part are =
    ap (λ (k : PrimitiveType). numbers_bytes little k part) are ∙ kind_keys little key part
laid_keys little _ t mask kind keys part are = absurd are

-- no layout has such keys
no_keys : (layout : PhysicalType) (keys : Column) → ((key : IntegerType) → ¬ AreKeysOf (physical.Dictionary key) keys) → ¬ AreKeysOf layout keys
no_keys (physical.Dictionary key) keys none are = none key are
no_keys _ keys none are = are

-- a dictionary is written as its keys
pub keys_range : (little : Bool) (t : DataType) (keys values : Column) (o n : ℕ) → AreKeysOf (physical_type t) keys
    → encode_range little keys o n ≡ encode_range little (keyed t keys values) o n
keys_range little t (flat data_type mask (numbers kind zs)) values o n are =
    let part = cut_list zs o n in
    let same = laid_keys little (physical_type t) data_type mask kind zs part are ∙ sym (type_keys little t part) in
    λ i. column_over (node_over n (cut_mask mask o n)) (mask_bytes (cut_mask mask o n) ∷ same i ∷ []) []
keys_range little t (flat data_type mask (bits xs)) values o n are = absurd (no_keys (physical_type t) _ (λ key none. none) are)
keys_range little t (flat data_type mask (pairs kind xs)) values o n are = absurd (no_keys (physical_type t) _ (λ key none. none) are)
keys_range little t (flat data_type mask (triples kind xs)) values o n are = absurd (no_keys (physical_type t) _ (λ key none. none) are)
keys_range little t (flat data_type mask (texts offsets content)) values o n are = absurd (no_keys (physical_type t) _ (λ key none. none) are)
keys_range little t (flat data_type mask (byte_strings offsets content)) values o n are = absurd (no_keys (physical_type t) _ (λ key none. none) are)
keys_range little t (flat data_type mask (fixed_bytes size content)) values o n are = absurd (no_keys (physical_type t) _ (λ key none. none) are)
keys_range little t keys values o n are = absurd (no_keys (physical_type t) keys (λ key none. none) are)
