-- What an array stores, apart from where it stands in memory (Arrow columnar format, "Physical Memory Layout"): its type, its mask, its
-- values, offsets or keys, and the columns below it.
use Rattle.std.specs.Prelude.{ℕ, zero, suc, ◌+◌, ◌-◌, ◌*◌, ◌/◌, ℤ, pos, negsuc, Bool, true, false, List, [], ◌∷◌, length, Option, Some}
use Rattle.std.specs.Prelude.{None, if◌then◌else◌, slice_index, slice_index_or, slice_range}
use Rattle.std.specs.Ordering.{int_eq}
use Rattle.columnar_memory_core.specs.declared.DataType.{DataType}
use Rattle.columnar_memory_core.specs.declared.DataType.TheOpen as layer
use Rattle.columnar_memory_core.specs.declared.DataType.TheViews.{out-DataType}
use Rattle.columnar_memory_core.specs.declared.Field.{Field}
use Rattle.columnar_memory_core.specs.declared.PrimitiveType.{PrimitiveType}
use Rattle.columnar_memory_core.specs.Layouts.{logical_type}
use Rattle.nested_arrays_columns.specs.Slots.{Slot, Slots, null, truth, number, pair, triple, text, bytes, items, fields, pick, no_slot, slot_then}
use Rattle.nested_arrays_columns.specs.Slots.{window, in_slots}

-- the values of a type without children
pub data Stored : Type 0 where
  bits : List Bool → Stored
  -- whole numbers of a physical kind
  numbers : PrimitiveType → List ℤ → Stored
  pairs : PrimitiveType → List (ℤ × ℤ) → Stored
  triples : PrimitiveType → List (ℤ × ℤ × ℤ) → Stored
  -- offsets, and the bytes that they divide: text k stands from offset k up to offset k + 1
  texts : List ℕ → List ℕ → Stored
  byte_strings : List ℕ → List ℕ → Stored
  -- so many bytes each, one string after another
  fixed_bytes : ℕ → List ℕ → Stored

-- Each with its type, and where a value may be null with a mask; no mask says that all values are valid.
mutual
  pub data Column : Type 0 where
    -- nulls alone, and how many
    nulls : DataType → ℕ → Column
    flat : DataType → Option (List Bool) → Stored → Column
    -- lists and maps: the offsets of the lists in the child, one more than lists
    lists : DataType → Option (List Bool) → List ℕ → Column → Column
    -- lists of one size, one after another in the child
    fixed_lists : DataType → Option (List Bool) → ℕ → Column → Column
    -- structs: how many, and a child for each field
    records : DataType → Option (List Bool) → ℕ → Columns → Column
    -- each slot's id, for a dense union its offset in the child of that id, and the children
    unions : DataType → List ℤ → Option (List ℤ) → Columns → Column
    -- the place of each slot's value among the values
    dictionary : DataType → Option (List Bool) → List ℤ → Column → Column

  -- columns one after another
  pub data Columns : Type 0 where
    no_column : Columns
    column_then : Column → Columns → Columns

-- columns one after another, as they stand in a list
abbrev pub in_columns : List Column → Columns
in_columns [] = no_column
in_columns (column ∷ columns) = column_then column (in_columns columns)

-- ---- masks and stored values

-- whether a mask says that there is a value
abbrev pub is_valid_at : Option (List Bool) → ℕ → Bool
is_valid_at None i = true
is_valid_at (Some marks) i = slice_index_or marks i false

-- the slot of a place, or null where the mask says so
abbrev pub unless_null : Option (List Bool) → ℕ → Slot → Slot
unless_null mask i slot = if is_valid_at mask i then slot else null

-- the bytes between offset i and the next one
abbrev pub string_at : List ℕ → List ℕ → ℕ → List ℕ
string_at offsets content i = slice_range content (slice_index offsets i) (slice_index offsets (i + 1))

abbrev pub pair_slot : PrimitiveType → ℤ × ℤ → Slot
pair_slot kind value = pair kind value.0 value.1

abbrev pub triple_slot : PrimitiveType → ℤ × ℤ × ℤ → Slot
triple_slot kind value = triple kind value.0 value.1 value.2

-- the slot of the stored value at a place
abbrev pub stored_at : Stored → ℕ → Slot
stored_at (bits values) i = truth (slice_index_or values i false)
stored_at (numbers kind values) i = number kind (slice_index_or values i (pos 0))
stored_at (pairs kind values) i = pair_slot kind (slice_index_or values i (pos 0, pos 0))
stored_at (triples kind values) i = triple_slot kind (slice_index_or values i (pos 0, pos 0, pos 0))
stored_at (texts offsets content) i = text (string_at offsets content i)
stored_at (byte_strings offsets content) i = bytes (string_at offsets content i)
stored_at (fixed_bytes size content) i = bytes (slice_range content (size * i) (size * i + size))

-- how many values are stored
abbrev pub stored_len : Stored → ℕ
stored_len (bits values) = length values
stored_len (numbers kind values) = length values
stored_len (pairs kind values) = length values
stored_len (triples kind values) = length values
stored_len (texts offsets content) = length offsets - 1
stored_len (byte_strings offsets content) = length offsets - 1
stored_len (fixed_bytes size content) = length content / size

-- n elements from place o on
abbrev pub cut_list : {A : Type 0} → List A → ℕ → ℕ → List A
cut_list xs o n = slice_range xs o (o + n)

abbrev pub cut_mask : Option (List Bool) → ℕ → ℕ → Option (List Bool)
cut_mask None o n = None
cut_mask (Some marks) o n = Some (cut_list marks o n)

-- n values from place o on; offsets keep the bytes whole
abbrev pub cut_stored : Stored → ℕ → ℕ → Stored
cut_stored (bits values) o n = bits (cut_list values o n)
cut_stored (numbers kind values) o n = numbers kind (cut_list values o n)
cut_stored (pairs kind values) o n = pairs kind (cut_list values o n)
cut_stored (triples kind values) o n = triples kind (cut_list values o n)
cut_stored (texts offsets content) o n = texts (cut_list offsets o (n + 1)) content
cut_stored (byte_strings offsets content) o n = byte_strings (cut_list offsets o (n + 1)) content
cut_stored (fixed_bytes size content) o n = fixed_bytes size (cut_list content (size * o) (size * n))

-- ---- columns

abbrev pub column_type : Column → DataType
column_type (nulls data_type n) = data_type
column_type (flat data_type mask stored) = data_type
column_type (lists data_type mask offsets child) = data_type
column_type (fixed_lists data_type mask size child) = data_type
column_type (records data_type mask n children) = data_type
column_type (unions data_type ids offsets children) = data_type
column_type (dictionary data_type mask keys values) = data_type

-- how many slots a column has
abbrev pub column_len : Column → ℕ
column_len (nulls data_type n) = n
column_len (flat data_type mask stored) = stored_len stored
column_len (lists data_type mask offsets child) = length offsets - 1
column_len (fixed_lists data_type mask size child) = column_len child / size
column_len (records data_type mask n children) = n
column_len (unions data_type ids offsets children) = length ids
column_len (dictionary data_type mask keys values) = length keys

-- a type without its extensions, one layer of it
abbrev pub type_layer : DataType → layer.DataType-F DataType Field
type_layer data_type = out-DataType (logical_type data_type)

-- a number as a place; a negative one is no place of a sound column
abbrev pub place_of : ℤ → ℕ
place_of (pos n) = n
place_of (negsuc n) = 0

-- at which place of a list an id stands first, or its length
abbrev pub place_of_id : List ℤ → ℤ → ℕ
place_of_id [] id = 0
place_of_id (first ∷ ids) id = if int_eq first id then 0 else place_of_id ids id + 1

-- the place of an id that is itself a place below a count, or the count
abbrev pub place_below : ℕ → ℤ → ℕ
place_below count (pos n) = n
place_below count (negsuc n) = count

-- Which child of a union an id means: the one at its place among the type's ids, and without ids the one at that place. For an id that
-- means none it is a number past the last child.
abbrev pub child_number : layer.DataType-F DataType Field → ℤ → ℕ
child_number (layer.Union children None mode) id = place_below (length children) id
child_number (layer.Union children (Some ids) mode) id = place_of_id ids id
child_number _ id = 0

-- where a union's slot stands in its child: at its offset, and in a sparse union at the slot's own place
abbrev pub union_place : Option (List ℤ) → ℕ → ℕ
union_place None i = i
union_place (Some offsets) i = place_of (slice_index_or offsets i (pos 0))

-- The slot at a place of a column: null where the mask says so; else the stored value, the child's slots between two offsets, a record of
-- the children's slots, the slot that a union picks, or the value under a key.
abbrev mutual
  pub slot_at : Column → ℕ → Slot
  slot_at (nulls data_type n) i = null
  slot_at (flat data_type mask stored) i = unless_null mask i (stored_at stored i)
  slot_at (lists data_type mask offsets child) i = unless_null mask i
      (items (in_slots (window (slot_at child) (slice_index offsets i) (slice_index offsets (i + 1) - slice_index offsets i))))
  slot_at (fixed_lists data_type mask size child) i = unless_null mask i (items (in_slots (window (slot_at child) (size * i) size)))
  slot_at (records data_type mask n children) i = unless_null mask i (fields (slots_at children i))
  slot_at (unions data_type ids offsets children) i = picked_at children (child_number (type_layer data_type) (slice_index_or ids i (pos 0)))
      (union_place offsets i)
  slot_at (dictionary data_type mask keys values) i = unless_null mask i (slot_at values (place_of (slice_index_or keys i (pos 0))))

  -- the slots at a place of several columns
  pub slots_at : Columns → ℕ → Slots
  slots_at no_column i = no_slot
  slots_at (column_then column columns) i = slot_then (slot_at column i) (slots_at columns i)

  -- the slot at a place of the column of a number, with its type
  pub picked_at : Columns → ℕ → ℕ → Slot
  picked_at no_column k i = null
  picked_at (column_then column columns) zero i = pick (column_type column) (slot_at column i)
  picked_at (column_then column columns) (suc k) i = picked_at columns k i

-- the slots of a column
abbrev pub slots : Column → List Slot
slots column = window (slot_at column) 0 (column_len column)

-- What a column stores when n slots from slot o on are cut out of it: the child of lists, of a dense union and of a dictionary stays whole.
abbrev mutual
  pub cut : Column → ℕ → ℕ → Column
  cut (nulls data_type count) o n = nulls data_type n
  cut (flat data_type mask stored) o n = flat data_type (cut_mask mask o n) (cut_stored stored o n)
  cut (lists data_type mask offsets child) o n = lists data_type (cut_mask mask o n) (cut_list offsets o (n + 1)) child
  cut (fixed_lists data_type mask size child) o n = fixed_lists data_type (cut_mask mask o n) size (cut child (size * o) (size * n))
  cut (records data_type mask count children) o n = records data_type (cut_mask mask o n) n (cut_each children o n)
  cut (unions data_type ids None children) o n = unions data_type (cut_list ids o n) None (cut_each children o n)
  cut (unions data_type ids (Some offsets) children) o n = unions data_type (cut_list ids o n) (Some (cut_list offsets o n)) children
  cut (dictionary data_type mask keys values) o n = dictionary data_type (cut_mask mask o n) (cut_list keys o n) values

  -- the same cut of each of several columns
  pub cut_each : Columns → ℕ → ℕ → Columns
  cut_each no_column o n = no_column
  cut_each (column_then column columns) o n = column_then (cut column o n) (cut_each columns o n)

-- how many columns a column is made of, itself among them: a measure for recursions over it
abbrev mutual
  pub column_size : Column → ℕ
  column_size (nulls data_type n) = 1
  column_size (flat data_type mask stored) = 1
  column_size (lists data_type mask offsets child) = column_size child + 1
  column_size (fixed_lists data_type mask size child) = column_size child + 1
  column_size (records data_type mask n children) = columns_size children + 1
  column_size (unions data_type ids offsets children) = columns_size children + 1
  column_size (dictionary data_type mask keys values) = column_size values + 1

  pub columns_size : Columns → ℕ
  columns_size no_column = 0
  columns_size (column_then column columns) = column_size column + columns_size columns
