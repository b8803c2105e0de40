-- The nodes and buffers of a column as they are written from what an array stores: values as they stand, offsets less the first one, and of
-- the child of lists what stands between the first and the last of them. Each number stands in a byte order: streams and files are written
-- little-endian (Arrow columnar format, "Byte Order (Endianness)").
use Rattle.std.specs.Prelude.{ℕ, ◌+◌, ◌-◌, ◌*◌, ℤ, Bool, true, false, not, List, [], ◌∷◌, ◌++◌, length, map, take, drop, reverse, count_by}
use Rattle.std.specs.Prelude.{nat_lt, Option, Some, None, if◌then◌else◌, slice_index, slice_range}
use Rattle.std.specs.List.{flat_map}
use Rattle.std.specs.Int.{Width, w8, w32, w64, to_le_bytes, to_be_bytes, cast_unsigned}
use Rattle.nested_arrays_columns.specs.columnar_memory.declared.DataType.{DataType}
use Rattle.nested_arrays_columns.specs.columnar_memory.declared.DataType.TheOpen as layer
use Rattle.nested_arrays_columns.specs.columnar_memory.declared.Field.{Field}
use Rattle.nested_arrays_columns.specs.columnar_memory.declared.PrimitiveType.{PrimitiveType}
use Rattle.nested_arrays_columns.specs.columnar_memory.declared.PrimitiveType.TheVariants as kinds
use Rattle.nested_arrays_columns.specs.Slots.{Slot, number, pair, triple}
use Rattle.nested_arrays_columns.specs.StoredColumns.{Stored, bits, numbers, pairs, triples, texts, byte_strings, fixed_bytes, Column, Columns}
use Rattle.nested_arrays_columns.specs.StoredColumns.{nulls, flat, lists, fixed_lists, records, unions, dictionary, no_column, column_then}
use Rattle.nested_arrays_columns.specs.StoredColumns.{column_len, cut_list, cut_mask, cut_stored, type_layer}
use Rattle.ipc_format_grammar.specs.Buffers.{bitmap_bytes, kind_bytes, key_width}
use Rattle.ipc_format_grammar.specs.Encoding.{Encoded, column_over}

-- ---- byte orders

-- a number of a width, its lowest or its highest byte first
abbrev pub ordered_bytes : Bool → Width → ℕ → List ℕ
ordered_bytes true w = to_le_bytes w
ordered_bytes false w = to_be_bytes w

-- a value's bytes with each of its numbers turned around: the parts of an interval singly
abbrev pub turned : PrimitiveType → List ℕ → List ℕ
turned kinds.DaysMs bytes = reverse (take 4 bytes) ++ reverse (drop 4 bytes)
turned kinds.MonthDayNano bytes = reverse (take 4 bytes) ++ reverse (take 4 (drop 4 bytes)) ++ reverse (drop 8 bytes)
turned kind bytes = reverse bytes

-- a value of a kind, the lowest or the highest byte of each of its numbers first
abbrev pub ordered_value : Bool → PrimitiveType → Slot → List ℕ
ordered_value true kind = kind_bytes kind
ordered_value false kind = λ slot. turned kind (kind_bytes kind slot)

-- ---- masks

abbrev pub mask_nulls : Option (List Bool) → ℕ
mask_nulls None = 0
mask_nulls (Some marks) = count_by not marks

-- the validity bitmap, where a mark is false; else nothing
abbrev pub mask_bytes : Option (List Bool) → List ℕ
mask_bytes None = []
mask_bytes (Some marks) = if nat_lt 0 (count_by not marks) then bitmap_bytes marks else []

abbrev pub node_over : ℕ → Option (List Bool) → ℕ × ℕ
node_over n mask = (n, mask_nulls mask)

-- ---- offsets

abbrev pub last_offset : List ℕ → ℕ
last_offset offsets = slice_index offsets (length offsets - 1)

-- offsets less the first one
abbrev pub moved_offsets : List ℕ → List ℕ
moved_offsets offsets = map (λ offset. offset - slice_index offsets 0) offsets

abbrev pub moved_bytes : Bool → Width → List ℕ → List ℕ
moved_bytes is_little_endian w offsets = flat_map (ordered_bytes is_little_endian w) (moved_offsets offsets)

-- what stands between the first offset and the last
abbrev pub between_offsets : List ℕ → List ℕ → List ℕ
between_offsets offsets content = slice_range content (slice_index offsets 0) (last_offset offsets)

-- how wide the offsets of a type are
abbrev pub offset_width : layer.DataType-F DataType Field → Width
offset_width layer.LargeBinary = w64
offset_width layer.LargeUtf8 = w64
offset_width (layer.LargeList item) = w64
offset_width _ = w32

-- ---- columns

-- the buffers of stored values, after the validity
abbrev pub stored_buffers : Bool → Width → Stored → List (List ℕ)
stored_buffers little w (bits values) = bitmap_bytes values ∷ []
stored_buffers little w (numbers kind values) = flat_map (λ n. ordered_value little kind (number kind n)) values ∷ []
stored_buffers little w (pairs kind values) = flat_map (λ (v : ℤ × ℤ). ordered_value little kind (pair kind v.0 v.1)) values ∷ []
stored_buffers little w (triples kind values) = flat_map (λ (v : ℤ × ℤ × ℤ). ordered_value little kind (triple kind v.0 v.1 v.2)) values ∷ []
stored_buffers little w (texts offsets content) = moved_bytes little w offsets ∷ between_offsets offsets content ∷ []
stored_buffers little w (byte_strings offsets content) = moved_bytes little w offsets ∷ between_offsets offsets content ∷ []
stored_buffers little w (fixed_bytes size content) = content ∷ []

-- whole numbers of a width in two's complement, as the ids, the places and the keys of slots stand
abbrev pub integer_bytes : Bool → Width → List ℤ → List ℕ
integer_bytes is_little_endian w values = flat_map (λ n. ordered_bytes is_little_endian w (cast_unsigned w n)) values

-- keys, by how wide those of a dictionary type are
abbrev pub key_bytes : Bool → layer.DataType-F DataType Field → List ℤ → List ℕ
key_bytes is_little_endian (layer.Dictionary key value is_ordered) keys = integer_bytes is_little_endian (key_width key) keys
key_bytes is_little_endian _ keys = []

-- the column of n slots from slot o on of what an array stores; a dictionary's values stand in a message of their own
abbrev mutual
  pub encode_range : Bool → Column → ℕ → ℕ → Encoded
  encode_range little (nulls data_type count) o n = column_over (n, n) [] []
  encode_range little (flat data_type mask stored) o n =
      column_over (node_over n (cut_mask mask o n))
      (mask_bytes (cut_mask mask o n) ∷ stored_buffers little (offset_width (type_layer data_type)) (cut_stored stored o n)) []
  encode_range little (lists data_type mask offsets child) o n = let taken = cut_list offsets o (n + 1) in
      column_over (node_over n (cut_mask mask o n))
      (mask_bytes (cut_mask mask o n) ∷ moved_bytes little (offset_width (type_layer data_type)) taken ∷ [])
      (encode_range little child (slice_index taken 0) (last_offset taken - slice_index taken 0) ∷ [])
  encode_range little (fixed_lists data_type mask size child) o n =
      column_over (node_over n (cut_mask mask o n)) (mask_bytes (cut_mask mask o n) ∷ []) (encode_range little child (size * o) (size * n) ∷ [])
  encode_range little (records data_type mask count children) o n =
      column_over (node_over n (cut_mask mask o n)) (mask_bytes (cut_mask mask o n) ∷ []) (encode_ranges little children o n)
  encode_range little (unions data_type ids None children) o n =
      column_over (n, 0) (integer_bytes little w8 (cut_list ids o n) ∷ []) (encode_ranges little children o n)
  encode_range little (unions data_type ids (Some offsets) children) o n =
      column_over (n, 0) (integer_bytes little w8 (cut_list ids o n) ∷ integer_bytes little w32 (cut_list offsets o n) ∷ [])
      (encode_wholes little children)
  encode_range little (dictionary data_type mask keys values) o n =
      column_over (node_over n (cut_mask mask o n))
      (mask_bytes (cut_mask mask o n) ∷ key_bytes little (type_layer data_type) (cut_list keys o n) ∷ []) []

  -- the same of each of several columns
  pub encode_ranges : Bool → Columns → ℕ → ℕ → List Encoded
  encode_ranges little no_column o n = []
  encode_ranges little (column_then column columns) o n = encode_range little column o n ∷ encode_ranges little columns o n

  -- the whole of each of several columns, as a dense union has them
  pub encode_wholes : Bool → Columns → List Encoded
  encode_wholes little no_column = []
  encode_wholes little (column_then column columns) = encode_range little column 0 (column_len column) ∷ encode_wholes little columns

-- the column of what an array stores, in a byte order
abbrev pub encode_stored : Bool → Column → Encoded
encode_stored is_little_endian column = encode_range is_little_endian column 0 (column_len column)
