-- Dictionary messages: which values an id names (Arrow IPC, "Dictionary Messages").
use Rattle.std.specs.Prelude.{ℕ, ℤ, Bool, not, List, [], ◌∷◌, length, Option, Some, None, nat_le}
use Rattle.std.specs.Ordering.{int_eq}
use Rattle.std.specs.Prelude.{if◌then◌else◌}
use Rattle.ipc_format_flatbuffers.specs.Reading.{◌>>=◌, guard}
use Rattle.ipc_format_flatbuffers.specs.FlatBuffers as flat
use Rattle.nested_arrays_columns.specs.columnar_memory.declared.DataType.{DataType}
use Rattle.nested_arrays_columns.specs.columnar_memory.declared.DataType.TheOpen as layer
use Rattle.nested_arrays_columns.specs.columnar_memory.declared.DataType.TheFolds.{para-DataType}
use Rattle.nested_arrays_columns.specs.columnar_memory.declared.Field.{Field}
use Rattle.ipc_format_grammar.specs.Messages as message
use Rattle.ipc_format_grammar.specs.Messages.{Version, record_batch_in, dictionary_batch_in, lengths_sum, structs_in, as_node, as_buffer}
use Rattle.ipc_format_grammar.specs.Schemas.{Ids, IdsList, ids}
use Rattle.ipc_format_grammar.specs.Columns.{Source, Dictionary, slots_in, first_ids, other_ids, ids_below}

-- ---- the type of an id's values

-- a dictionary's value type, and the ids at the fields below it
pub record Values : Type 0 where
  pub data_type : DataType
  pub below : IdsList

-- what finds the values of an id in a field of a type, by the ids at the field
abbrev pub Finder : Type 0
Finder = ℤ → Ids → Option Values

abbrev pub or_else : {A : Type 0} → Option A → Option A → Option A
or_else (Some x) y = Some x
or_else None y = y

-- the first of some fields that has the id, at any depth
abbrev pub first_found : List (Field × Finder) → ℤ → IdsList → Option Values
first_found [] id below = None
first_found (child ∷ children) id below = or_else (child.1 id (first_ids below)) (first_found children id (other_ids below))

abbrev pub values_if : Option ℤ → ℤ → Values → Option Values
values_if None id values = None
values_if (Some own) id values = if int_eq id own then Some values else None

-- one layer of a type, in pre-order: a dictionary's own id stands before those within its values
abbrev pub find_step : layer.DataType-F (DataType × Finder) (Field × Finder) → Finder
find_step (layer.Dictionary key value is_ordered) id (ids own below) =
    or_else (values_if own id (record { data_type = value.0; below = below })) (value.1 id (ids None below))
find_step (layer.List item) id here = first_found (item ∷ []) id (ids_below here)
find_step (layer.LargeList item) id here = first_found (item ∷ []) id (ids_below here)
find_step (layer.FixedSizeList item size) id here = first_found (item ∷ []) id (ids_below here)
find_step (layer.Map entry is_sorted) id here = first_found (entry ∷ []) id (ids_below here)
find_step (layer.Struct children) id here = first_found children id (ids_below here)
find_step (layer.Union children numbers mode) id here = first_found children id (ids_below here)
find_step (layer.Extension name inner metadata) id here = inner.1 id here
find_step _ id here = None

abbrev pub find_field_step : layer.Field-F (DataType × Finder) (Field × Finder) → Finder
find_field_step field = field.data_type.1

abbrev pub values_in : DataType → Finder
values_in = para-DataType Finder Finder find_step find_field_step

-- the values of an id by the first field that has it
abbrev pub values_of : List Field → ℤ → IdsList → Option Values
values_of [] id below = None
values_of (field ∷ fields) id below = or_else (values_in field.data_type id (first_ids below)) (values_of fields id (other_ids below))

-- ---- messages

-- a message that stands in a stream or a file: its metadata, its header, its version, and where its buffers' offsets count from
pub record Entry : Type 0 where
  pub metadata : List ℕ
  pub header : message.Header
  pub version : Version
  pub room : List ℕ
  pub origin : ℕ

-- how columns lie: the fields, the dictionary ids at them, and the byte order
pub record Layout : Type 0 where
  pub fields : List Field
  pub below : IdsList
  pub is_little_endian : Bool

-- The batch of a message, which isn't compressed. None of its buffers has a negative length, and together they state no more bytes than
-- the room has, whether they are read or not.
unfoldable pub source_in : Bool → Entry → flat.TablePlace → Option Source
source_in is_little_endian entry table = do
  vectors ← record_batch_in entry.metadata table
  _ ← guard (not vectors.is_compressed)
  sum ← lengths_sum entry.metadata vectors.buffers
  _ ← guard (nat_le sum (length entry.room))
  nodes ← structs_in as_node entry.metadata vectors.nodes
  buffers ← structs_in as_buffer entry.metadata vectors.buffers
  Some (record {
    nodes = nodes;
    buffers = buffers;
    version = entry.version;
    is_little_endian = is_little_endian;
    room = entry.room;
    origin = entry.origin;
  })

-- The dictionary of a message: one column of the value type of its id, read under the dictionaries that stand before it. One that adds to
-- an earlier one is refused.
unfoldable pub dictionary_in : Layout → List Dictionary → Entry → flat.TablePlace → Option Dictionary
dictionary_in layout standing entry table = do
  batch ← dictionary_batch_in entry.metadata table
  _ ← guard (not batch.is_delta)
  source ← source_in layout.is_little_endian entry batch.values
  values ← values_of layout.fields batch.id layout.below
  slots ← slots_in values.data_type
      (record { source = source; standing = standing; limit = None; node = 0; buffer = 0; ids = ids None values.below })
  Some (record { id = batch.id; data_type = values.data_type; slots = slots })
