-- Record batches that are read, all columns or some of them (Arrow IPC, "RecordBatch message").
use Rattle.std.specs.Prelude.{◌≡◌, ◌&&◌, ℕ, zero, suc, Bool, true, false, List, [], ◌∷◌, map, length, ◌==◌, nat_lt, slice_get}
use Rattle.std.specs.Prelude.{Option, Some, None, Result, Ok, Err}
use Rattle.std.specs.List.{list_all}
use Rattle.ipc_format_reading.specs.Below.{arrays_below, no_own_ids}
use Rattle.ipc_format_reading.specs.Rooms.{Told}
use Rattle.ipc_format_reading.specs.array_reading.ArrayReads.{array_slots}
use Rattle.ipc_format_reading.specs.columnar_memory.Error.{IsOutOfSpec}
use Rattle.ipc_format_reading.specs.columnar_memory.declared.Error.{Error}
use Rattle.ipc_format_reading.specs.columnar_memory.declared.Field.{Field}
use Rattle.ipc_format_reading.specs.columns.Slots.{Slot}
use Rattle.ipc_format_reading.specs.columns.StoredColumns.{Column, slots}
use Rattle.ipc_format_reading.specs.columns.Tables.{chosen}
use Rattle.ipc_format_reading.specs.flatbuffers.FlatBuffers.{TablePlace}
use Rattle.ipc_format_reading.specs.flatbuffers.Reading.{◌>>=◌, guard}
use Rattle.ipc_format_reading.specs.grammar.Columns.{Dictionary, Place, Source}
use Rattle.ipc_format_reading.specs.grammar.Dictionaries.{Entry, Layout, source_in}
use Rattle.ipc_format_reading.specs.grammar.Messages.{Header, Version}
use Rattle.ipc_format_reading.specs.grammar.Schemas.{Ids, IdsList, ids_then, no_ids}
use Rattle.ipc_format_reading.specs.grammar.Tables.{agree_in_length, column_place}

-- what a room tells, where it has as many bytes as are stated of it
abbrev pub sized : ℕ → Told → Told
sized size told = record told { bytes = told.bytes >>= (λ room. guard (length room == size) >>= (λ _. Some room)) }

-- a message with some metadata, whose buffers' offsets count from a place of a room
abbrev pub entry_in : List ℕ → Header → Version → ℕ → List ℕ → Entry
entry_in metadata header version origin room =
    record { metadata = metadata; header = header; version = version; room = room; origin = origin }

-- The slots of the arrays of some fields' columns, the first of them at a place, where there are arrays of each type and they are of one length.
abbrev pub placed_arrays : List Field → IdsList → Place → Option (List (List Slot))
placed_arrays fields below at = do
  columns ← arrays_below fields at below
  _ ← guard (agree_in_length columns)
  Some columns

-- The slots of the arrays of a record batch's columns, under a limit: those that the format gives, all of one length, where there are arrays
-- of each type.
abbrev pub record_arrays : Layout → List Dictionary → Option ℕ → Entry → TablePlace → Option (List (List Slot))
record_arrays layout standing limit entry table = do
  source ← source_in layout.is_little_endian entry table
  placed_arrays layout.fields layout.below
      (record { source = source; standing = standing; limit = limit; node = 0; buffer = 0; ids = no_own_ids })

-- ---- chosen columns

-- the ids beside field k, where there are some
abbrev pub ids_beside : IdsList → ℕ → Option Ids
ids_beside no_ids k = None
ids_beside (ids_then first others) zero = Some first
ids_beside (ids_then first others) (suc k) = ids_beside others k

-- the slots of the arrays of chosen columns: column k stands behind the nodes and buffers of the columns before it
abbrev pub chosen_arrays : Layout → List Dictionary → Source → Option ℕ → List ℕ → Option (List (List Slot))
chosen_arrays layout standing source limit [] = Some []
chosen_arrays layout standing source limit (k ∷ columns) = do
  field ← slice_get layout.fields k
  here ← ids_beside layout.below k
  column ← array_slots field.data_type (record (column_place layout standing source limit k) { ids = here })
  others ← chosen_arrays layout standing source limit columns
  Some (column ∷ others)

-- The slots of the arrays of a record batch's chosen columns, under a limit: all of one length, where there are arrays of each type.
abbrev pub chosen_record_arrays : Layout → List Dictionary → Option ℕ → List ℕ → Entry → TablePlace → Option (List (List Slot))
chosen_record_arrays layout standing limit columns entry table = do
  source ← source_in layout.is_little_endian entry table
  arrays ← chosen_arrays layout standing source limit columns
  _ ← guard (agree_in_length arrays)
  Some arrays

-- of all columns, or of chosen ones
abbrev pub asked_arrays : Option (List ℕ) → Layout → List Dictionary → Option ℕ → Entry → TablePlace → Option (List (List Slot))
asked_arrays None layout standing limit entry table = record_arrays layout standing limit entry table
asked_arrays (Some columns) layout standing limit entry table = chosen_record_arrays layout standing limit columns entry table

-- the fields of all columns, or of chosen ones
abbrev pub asked_fields : Option (List ℕ) → List Field → List Field
asked_fields None fields = fields
asked_fields (Some columns) fields = chosen columns fields

-- numbers that rise, each of them below a width
abbrev pub rise_below : ℕ → List ℕ → Bool
rise_below width [] = true
rise_below width (k ∷ ks) = nat_lt k width && list_all (λ other. nat_lt k other) ks && rise_below width ks

-- columns may be chosen of so many in the order in which they stand
abbrev pub IsProjection : ℕ → Option (List ℕ) → Type 0
IsProjection width None = Unit {0}
IsProjection width (Some columns) = rise_below width columns ≡ true

-- ---- chunks

-- arrays of one length are the columns of a batch
abbrev pub MakesBatch : List Column → Result (List Column) Error → Type 0
MakesBatch arrays (Ok chunk) = (chunk ≡ arrays) × (agree_in_length (map slots arrays) ≡ true)
MakesBatch arrays (Err error) = IsOutOfSpec error × (agree_in_length (map slots arrays) ≡ false)
