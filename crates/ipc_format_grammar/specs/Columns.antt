-- The slots of a column in a batch, for every type, each byte at its place (Arrow columnar format, "Physical Memory Layout"; Arrow IPC,
-- "RecordBatch message"). Nothing where a rule of the format is broken.
use Rattle.std.specs.Prelude.{ℕ, ◌+◌, ◌*◌, ◌/◌, min, ℤ, pos, negsuc, Bool, true, false, not, ◌||◌, ◌&&◌, List, [], ◌∷◌, length}
use Rattle.std.specs.Prelude.{replicate, take, Option, Some, None, nat_le, nat_lt, int_lt, ◌==◌, if◌then◌else◌}
use Rattle.std.specs.Prelude.{slice_range, slice_index, slice_index_or, slice_get}
use Rattle.std.specs.Ordering.{int_eq}
use Rattle.std.specs.List.{list_all}
use Rattle.std.specs.Str.{is_utf8}
use Rattle.std.specs.Int.{Width, w8, w32, w64, byte_len}
use Rattle.ipc_format_flatbuffers.specs.Reading.{◌>>=◌, guard, window_at}
use Rattle.columnar_memory_types.specs.Equality.{same_type}
use Rattle.nested_arrays_columns.specs.columnar_memory.declared.DataType.{DataType}
use Rattle.nested_arrays_columns.specs.columnar_memory.declared.DataType.TheOpen as layer
use Rattle.nested_arrays_columns.specs.columnar_memory.declared.DataType.TheFolds.{para-DataType}
use Rattle.nested_arrays_columns.specs.columnar_memory.declared.Field.{Field}
use Rattle.nested_arrays_columns.specs.columnar_memory.declared.IntegerType.{IntegerType}
use Rattle.nested_arrays_columns.specs.columnar_memory.declared.PrimitiveType.{PrimitiveType}
use Rattle.nested_arrays_columns.specs.columnar_memory.declared.UnionMode.{UnionMode}
use Rattle.nested_arrays_columns.specs.columnar_memory.declared.UnionMode.TheVariants as modes
use Rattle.nested_arrays_columns.specs.Slots.{Slot, in_slots, null, truth, text, bytes, items, fields, pick, window}
use Rattle.nested_arrays_columns.specs.Tables.{row_at}
use Rattle.ipc_format_grammar.specs.Messages.{Version, FieldNode, Buffer, natural}
use Rattle.ipc_format_grammar.specs.Schemas.{Ids, IdsList, ids, no_ids, ids_then}
use Rattle.ipc_format_grammar.specs.Layouts.{union_parts, before_V5, kind_of, node_count, buffer_count}
use Rattle.ipc_format_grammar.specs.Values.{bit_at, signed_of, kind_size, value_at, element_bytes, key_at, key_size}

-- A batch that is read: its nodes and buffers, the version by which unions lie, and the byte order. Its buffers' offsets count from the
-- origin, a place of the room: in a stream the room is the message's body and the origin 0; in a file the room is the whole file, and the
-- origin where the block's body begins.
pub record Source : Type 0 where
  pub nodes : List FieldNode
  pub buffers : List Buffer
  pub version : Version
  pub is_little_endian : Bool
  pub room : List ℕ
  pub origin : ℕ

-- a dictionary that stands: its id, and its values with their type
pub record Dictionary : Type 0 where
  pub id : ℤ
  pub data_type : DataType
  pub slots : List Slot

-- Where a column is read: the batch, the standing dictionaries, the latest first, how many slots are taken at most, the column's first node
-- and buffer, and the dictionary ids at its field.
pub record Place : Type 0 where
  pub source : Source
  pub standing : List Dictionary
  pub limit : Option ℕ
  pub node : ℕ
  pub buffer : ℕ
  pub ids : Ids

-- what reads a column
abbrev pub Reader : Type 0
Reader = Place → Option (List Slot)

-- ---- nodes and buffers

-- The bytes that are needed of buffer k. It states at least as many, and they lie in the room, from its offset on.
unfoldable pub buffer_at : Source → ℕ → ℕ → Option (List ℕ)
buffer_at source k needed = do
  buffer ← slice_get source.buffers k
  offset ← natural buffer.offset
  stated ← natural buffer.length
  _ ← guard (nat_le needed stated)
  window_at source.room (source.origin + offset) needed

-- how many slots are taken of a column under a limit
abbrev pub taken_of : Option ℕ → ℕ → ℕ
taken_of None count = count
taken_of (Some limit) count = min limit count

-- how many slots are taken of a column, by its node; their number isn't negative
abbrev pub taken_in : Place → FieldNode → Option ℕ
taken_in at node = do
  count ← natural node.length
  Some (taken_of at.limit count)

-- ---- validity (Arrow columnar format, "Validity bitmaps")

-- which slots are valid: all, where no slot is said to be null; else those whose bit is set in the validity bitmap
pub data Validity : Type 0 where
  all_valid : Validity
  bitmap : List ℕ → Validity

abbrev pub is_valid_in : Validity → ℕ → Bool
is_valid_in all_valid i = true
is_valid_in (bitmap bits) i = bit_at bits i

-- The validity of the first slots of a column. Its buffer has to be there; its bitmap is looked at only where the node's count of nulls is
-- above 0.
unfoldable pub validity_in : Source → FieldNode → ℕ → ℕ → Option Validity
validity_in source node k taken = do
  _ ← slice_get source.buffers k
  if int_lt (pos 0) node.null_count then (do
    bits ← buffer_at source k ((taken + 7) / 8)
    Some (bitmap bits)) else Some all_valid

-- slots by their values, null where they aren't valid
abbrev pub slot_by : Validity → (ℕ → Slot) → ℕ → Slot
slot_by validity value i = if is_valid_in validity i then value i else null

abbrev pub slots_by : Validity → (ℕ → Slot) → ℕ → List Slot
slots_by validity value taken = window (slot_by validity value) 0 taken

-- how many slots are taken of a column with a validity bitmap, and which of them are valid
pub record Marked : Type 0 where
  pub taken : ℕ
  pub validity : Validity

unfoldable pub marked_in : Place → Option Marked
marked_in at = do
  node ← slice_get at.source.nodes at.node
  taken ← taken_in at node
  validity ← validity_in at.source node at.buffer taken
  Some (record { taken = taken; validity = validity })

-- ---- columns without children

abbrev pub null_slots : Reader
null_slots at = do
  node ← slice_get at.source.nodes at.node
  taken ← taken_in at node
  Some (replicate taken null)

-- slots of one size each: so many bytes are needed for the taken ones, and a slot's value is found among them
unfoldable pub fixed_slots : (ℕ → ℕ) → (List ℕ → ℕ → Slot) → Reader
fixed_slots needed value at = do
  marked ← marked_in at
  values ← buffer_at at.source (at.buffer + 1) (needed marked.taken)
  Some (slots_by marked.validity (value values) marked.taken)

-- truth values, a bit each
abbrev pub truth_slots : Reader
truth_slots = fixed_slots (λ taken. (taken + 7) / 8) (λ values i. truth (bit_at values i))

-- numbers of a kind
abbrev pub number_slots : PrimitiveType → Reader
number_slots kind at = fixed_slots (λ taken. taken * kind_size kind) (value_at kind at.source.is_little_endian) at

-- bytes of one size
abbrev pub fixed_bytes_slots : ℕ → Reader
fixed_bytes_slots size = fixed_slots (λ taken. taken * size) (λ values i. bytes (element_bytes size values i))

-- ---- offsets (Arrow columnar format, "Variable-size Binary Layout", "Variable-size List Layout")

-- offsets that aren't negative and don't fall, from a least one on
abbrev pub rising : ℕ → List ℤ → Option (List ℕ)
rising least [] = Some []
rising least (first ∷ others) = do
  offset ← natural first
  _ ← guard (nat_le least offset)
  later ← rising offset others
  Some (offset ∷ later)

-- One more offset than there are slots. Where no slot is taken and the buffer is shorter than one offset, it isn't looked at.
unfoldable pub offsets_in : Width → Source → ℕ → ℕ → Option (List ℕ)
offsets_in w source k taken = do
  buffer ← slice_get source.buffers k
  stated ← natural buffer.length
  if (taken == 0) && nat_lt stated (byte_len w) then Some (0 ∷ []) else (do
    numbers ← buffer_at source k ((taken + 1) * byte_len w)
    rising 0 (window (λ i. signed_of source.is_little_endian w (element_bytes (byte_len w) numbers i)) 0 (taken + 1)))

abbrev pub last_of : List ℕ → ℕ
last_of [] = 0
last_of (x ∷ []) = x
last_of (x ∷ y ∷ xs) = last_of (y ∷ xs)

-- what stands between offsets i and i + 1
abbrev pub piece_at : {A : Type 0} → List ℕ → List A → ℕ → List A
piece_at offsets xs i = slice_range xs (slice_index offsets i) (slice_index offsets (i + 1))

-- bytes or texts, of which each passes a test, whether its slot is valid or not
unfoldable pub byte_slots : Width → (List ℕ → Bool) → (List ℕ → Slot) → Reader
byte_slots w is_allowed slot at = do
  marked ← marked_in at
  offsets ← offsets_in w at.source (at.buffer + 1) marked.taken
  values ← buffer_at at.source (at.buffer + 2) (last_of offsets)
  _ ← guard (list_all is_allowed (window (piece_at offsets values) 0 marked.taken))
  Some (slots_by marked.validity (λ i. slot (piece_at offsets values i)) marked.taken)

abbrev pub binary_slots : Width → Reader
binary_slots w = byte_slots w (λ piece. true) bytes

abbrev pub text_slots : Width → Reader
text_slots w = byte_slots w is_utf8 text

-- ---- columns with children

-- the ids at the first of some fields, and at the others
abbrev pub first_ids : IdsList → Ids
first_ids no_ids = ids None no_ids
first_ids (ids_then first others) = first

abbrev pub other_ids : IdsList → IdsList
other_ids no_ids = no_ids
other_ids (ids_then first others) = others

-- the ids at the fields below one
abbrev pub ids_below : Ids → IdsList
ids_below (ids own below) = below

-- a field's own dictionary id
abbrev pub own_id : Ids → Option ℤ
own_id (ids own below) = own

-- where the first child of a column is read, behind so many buffers of the column's own
abbrev pub first_below : Place → ℕ → Option ℕ → Place
first_below at own limit =
    record at { limit = limit; node = at.node + 1; buffer = at.buffer + own; ids = first_ids (ids_below at.ids) }

-- lists by offsets of a width: the child has exactly as many slots as the last offset says
unfoldable pub list_slots : Width → Field × Reader → Reader
list_slots w child at = do
  marked ← marked_in at
  offsets ← offsets_in w at.source (at.buffer + 1) marked.taken
  values ← child.1 (first_below at 2 (Some (last_of offsets)))
  _ ← guard (length values == last_of offsets)
  Some (slots_by marked.validity (λ i. items (in_slots (piece_at offsets values i))) marked.taken)

abbrev pub limit_times : Option ℕ → ℕ → Option ℕ
limit_times None size = None
limit_times (Some limit) size = Some (limit * size)

-- lists of one size: the child has exactly that many slots for each slot that is taken
unfoldable pub fixed_list_slots : ℕ → Field × Reader → Reader
fixed_list_slots size child at = do
  marked ← marked_in at
  values ← child.1 (first_below at 1 (limit_times at.limit size))
  _ ← guard (length values == marked.taken * size)
  Some (slots_by marked.validity (λ i. items (in_slots (slice_range values (size * i) (size * (i + 1))))) marked.taken)

-- where the column behind one of a type is read
abbrev pub behind_column : Place → DataType → Place
behind_column at data_type =
    record at { node = at.node + node_count data_type; buffer = at.buffer + buffer_count at.source.version data_type }

-- the columns of some fields, one after another, the first of them at a place, by the ids at the fields
abbrev pub columns_below : List (Field × Reader) → Place → IdsList → Option (List (List Slot))
columns_below [] at below = Some []
columns_below (child ∷ children) at below = do
  column ← child.1 (record at { ids = first_ids below })
  columns ← columns_below children (behind_column at child.0.data_type) (other_ids below)
  Some (column ∷ columns)

abbrev pub have_length : ℕ → List (List Slot) → Bool
have_length count columns = list_all (λ (column : List Slot). length column == count) columns

-- structs: each child has exactly as many slots as are taken
unfoldable pub struct_slots : List (Field × Reader) → Reader
struct_slots children at = do
  marked ← marked_in at
  columns ← columns_below children (first_below at 1 at.limit) (ids_below at.ids)
  _ ← guard (have_length marked.taken columns)
  Some (slots_by marked.validity (λ i. fields (in_slots (row_at columns i))) marked.taken)

-- ---- unions (Arrow columnar format, "Union Layout")

-- the place of an id in a list
abbrev pub place_of_id : ℤ → List ℤ → Option ℕ
place_of_id id [] = None
place_of_id id (first ∷ others) = if int_eq id first then Some 0 else (do
  place ← place_of_id id others
  Some (place + 1))

-- which child an id names: by the given ids, or by its place
abbrev pub child_of : Option (List ℤ) → ℤ → Option ℕ
child_of None id = natural id
child_of (Some numbers) id = place_of_id id numbers

-- where in its child a slot's value stands: at the slot's own place, or at its offset
abbrev pub places_in : UnionMode → Source → ℕ → ℕ → Option (ℕ → ℤ)
places_in modes.Sparse source k count = Some (λ i. pos i)
places_in modes.Dense source k count = do
  offsets ← buffer_at source k (count * 4)
  Some (λ i. signed_of source.is_little_endian w32 (element_bytes 4 offsets i))

-- in a sparse union each child is as long as the union
abbrev pub are_as_long : UnionMode → ℕ → List (List Slot) → Bool
are_as_long modes.Sparse count columns = have_length count columns
are_as_long modes.Dense count columns = true

-- the value of child k at a place, with the child's type
abbrev pub picked : List (Field × Reader) → List (List Slot) → Option ℕ → Option ℕ → Option Slot
picked children columns k place = do
  number ← k
  child ← slice_get children number
  column ← slice_get columns number
  at ← place
  slot ← slice_get column at
  Some (pick child.0.data_type slot)

-- values that are all there
abbrev pub all_of : {A : Type 0} → List (Option A) → Option (List A)
all_of [] = Some []
all_of (first ∷ others) = do
  x ← first
  xs ← all_of others
  Some (x ∷ xs)

-- a union is read whole, by its own length, and then cut
unfoldable pub union_slots : List (Field × Reader) → Option (List ℤ) → UnionMode → ℕ → ℕ → Reader
union_slots children numbers mode spare own at = do
  node ← slice_get at.source.nodes at.node
  count ← natural node.length
  types ← buffer_at at.source (at.buffer + spare) count
  places ← places_in mode at.source (at.buffer + spare + 1) count
  columns ← columns_below children (first_below at own None) (ids_below at.ids)
  _ ← guard (are_as_long mode count columns)
  slots ← all_of (window (λ i.
      picked children columns (child_of numbers (signed_of true w8 (element_bytes 1 types i))) (natural (places i))) 0 count)
  Some (take (taken_of at.limit count) slots)

-- ---- dictionaries (Arrow columnar format, "Dictionary-encoded Layout")

-- the dictionary that stands under an id: the latest one
abbrev pub standing_for : ℤ → List Dictionary → Option Dictionary
standing_for id [] = None
standing_for id (dictionary ∷ others) = if int_eq id dictionary.id then Some dictionary else standing_for id others

-- whether a key names one of so many values
abbrev pub names_value : ℕ → ℤ → Bool
names_value count (pos k) = nat_lt k count
names_value count (negsuc k) = false

abbrev pub slot_of_key : List Slot → ℤ → Slot
slot_of_key values (pos k) = slice_index_or values k null
slot_of_key values (negsuc k) = null

-- the values that the keys name; a key under a null isn't looked at
unfoldable pub dictionary_slots : IntegerType → DataType → Reader
dictionary_slots key data_type at = do
  id ← own_id at.ids
  dictionary ← standing_for id at.standing
  _ ← guard (same_type dictionary.data_type data_type)
  marked ← marked_in at
  keys ← buffer_at at.source (at.buffer + 1) (marked.taken * key_size key)
  _ ← guard (list_all (λ i. not (is_valid_in marked.validity i)
      || names_value (length dictionary.slots) (key_at key at.source.is_little_endian keys i)) (window (λ i. i) 0 marked.taken))
  Some (slots_by marked.validity (λ i. slot_of_key dictionary.slots (key_at key at.source.is_little_endian keys i)) marked.taken)

-- ---- every type

-- a type that stores numbers
abbrev pub numbers_if : Option PrimitiveType → Reader
numbers_if None at = None
numbers_if (Some kind) at = number_slots kind at

-- one layer of a type, where each type below stands beside what reads it
abbrev pub read_step : layer.DataType-F (DataType × Reader) (Field × Reader) → Reader
read_step layer.Null at = null_slots at
read_step layer.Boolean at = truth_slots at
read_step layer.Binary at = binary_slots w32 at
read_step layer.LargeBinary at = binary_slots w64 at
read_step layer.Utf8 at = text_slots w32 at
read_step layer.LargeUtf8 at = text_slots w64 at
read_step (layer.FixedSizeBinary size) at = fixed_bytes_slots size at
read_step (layer.List item) at = list_slots w32 item at
read_step (layer.Map entry is_sorted) at = list_slots w32 entry at
read_step (layer.LargeList item) at = list_slots w64 item at
read_step (layer.FixedSizeList item size) at = fixed_list_slots size item at
read_step (layer.Struct children) at = struct_slots children at
read_step (layer.Union children numbers mode) at =
    union_slots children numbers mode (length (before_V5 at.source.version)) (length (union_parts at.source.version mode)) at
read_step (layer.Dictionary key value is_ordered) at = dictionary_slots key value.0 at
read_step (layer.Extension name inner metadata) at = inner.1 at
read_step type_layer at = numbers_if (kind_of type_layer) at

abbrev pub read_field_step : layer.Field-F (DataType × Reader) (Field × Reader) → Reader
read_field_step field = field.data_type.1

-- what reads a column of a type
abbrev pub slots_in : DataType → Reader
slots_in = para-DataType Reader Reader read_step read_field_step
