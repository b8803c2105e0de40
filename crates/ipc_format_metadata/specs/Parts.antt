-- The parts of a schema's metadata in the order in which they are read.
use Rattle.std.specs.Prelude.{ℕ, ℤ, pos, Bool, true, false, List, Option, Some, None}
use Rattle.std.specs.Int.{w64}
use Rattle.ipc_format_grammar.specs.columnar_memory.declared.DataType.{DataType}
use Rattle.ipc_format_grammar.specs.columnar_memory.declared.DataType.TheVariants as types
use Rattle.ipc_format_grammar.specs.columnar_memory.declared.Field.{Field}
use Rattle.ipc_format_grammar.specs.columnar_memory.declared.IntegerType.{IntegerType}
use Rattle.ipc_format_grammar.specs.flatbuffers.Reading.{◌>>=◌}
use Rattle.ipc_format_grammar.specs.flatbuffers.FlatBuffers.{TablePlace, Vector, signed_field, truth_field, table_field, string_field, element_at}
use Rattle.ipc_format_grammar.specs.Types as kind
use Rattle.ipc_format_grammar.specs.Types.{Tag, tag_of, integer_in, type_of_integer, decimal_in, time_in, timestamp_in, union_in}
use Rattle.ipc_format_metadata.specs.Leaves.{date_in, interval_in, unit_in, size_in}
use Rattle.ipc_format_grammar.specs.SlotNumbers as slots

-- what stands above the fields below a type: nothing, one field, or some
pub data Layer : Type 0 where
  flat : DataType → Layer
  over : (Field → DataType) → Layer
  over_all : (List Field → DataType) → Layer

-- whether a type's layer takes no memory
abbrev pub is_plain : Tag → Bool
is_plain kind.timestamp = false
is_plain kind.union = false
is_plain _ = true

abbrev pub flat_of : Option DataType → Option Layer
flat_of found = do
  data_type ← found
  Some (flat data_type)

-- the layer of a type by its tag and its own table
abbrev pub layer_of : List ℕ → Tag → TablePlace → Option Layer
layer_of bytes kind.null table = Some (flat types.Null)
layer_of bytes kind.bool table = Some (flat types.Boolean)
layer_of bytes kind.binary table = Some (flat types.Binary)
layer_of bytes kind.large_binary table = Some (flat types.LargeBinary)
layer_of bytes kind.utf8 table = Some (flat types.Utf8)
layer_of bytes kind.large_utf8 table = Some (flat types.LargeUtf8)
layer_of bytes kind.floating_point table = None
layer_of bytes kind.int table = do
  integer ← integer_in bytes table
  Some (flat (type_of_integer integer))
layer_of bytes kind.decimal table = flat_of (decimal_in bytes table)
layer_of bytes kind.date table = flat_of (date_in bytes table)
layer_of bytes kind.time table = flat_of (time_in bytes table)
layer_of bytes kind.timestamp table = flat_of (timestamp_in bytes table)
layer_of bytes kind.interval table = flat_of (interval_in bytes table)
layer_of bytes kind.duration table = do
  unit ← unit_in bytes table 1
  Some (flat (types.Duration unit))
layer_of bytes kind.fixed_size_binary table = do
  size ← size_in bytes table
  Some (flat (types.FixedSizeBinary size))
layer_of bytes kind.list table = Some (over types.List)
layer_of bytes kind.large_list table = Some (over types.LargeList)
layer_of bytes kind.fixed_size_list table = do
  size ← size_in bytes table
  Some (over (λ item. types.FixedSizeList item size))
layer_of bytes kind.map table = do
  is_sorted ← truth_field bytes table slots.map_keys_sorted
  Some (over (λ entry. types.Map entry is_sorted))
layer_of bytes kind.struct table = Some (over_all types.Struct)
layer_of bytes kind.union table = do
  union ← union_in bytes table
  Some (over_all (λ fields. types.Union fields union.ids union.mode))

-- a pair of custom metadata, whose key or value may be absent
abbrev pub pair_in : List ℕ → Vector → ℕ → Option (Option (List ℕ) × Option (List ℕ))
pair_in bytes vector k = do
  table ← element_at bytes vector k
  key ← string_field bytes table slots.key_value_key
  value ← string_field bytes table slots.key_value_value
  Some (key, value)

-- a dictionary's id, the type of its keys, and whether its values are ordered
pub record Encoding : Type 0 where
  pub id : ℤ
  pub keys : IntegerType
  pub is_ordered : Bool

abbrev pub encoding_in : List ℕ → TablePlace → Option Encoding
encoding_in bytes table = do
  id ← signed_field w64 bytes table slots.dictionary_encoding_id (pos 0)
  found ← table_field bytes table slots.dictionary_encoding_index_type
  keys ← found
  integer ← integer_in bytes keys
  is_ordered ← truth_field bytes table slots.dictionary_encoding_is_ordered
  Some (record { id = id; keys = integer; is_ordered = is_ordered })
