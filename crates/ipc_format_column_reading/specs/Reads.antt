-- A column that is read from the fronts of the queues of nodes and buffers, and what a call that reads one answers.
use Rattle.std.specs.Prelude.{◌≡◌, ◌⊎◌, ℕ, Bool, false, nat_lt, List, [], ◌∷◌, drop, Option, Some, None, Result, Ok, Err, slice_get, if◌then◌else◌}
use Rattle.std.specs.Int.{Width, w32, w64}
use Rattle.ipc_format_column_bytes.specs.streams.columnar_memory.declared.DataType.{DataType}
use Rattle.ipc_format_column_bytes.specs.streams.columnar_memory.declared.Error.{Error}
use Rattle.ipc_format_column_bytes.specs.streams.columnar_memory.Error.{IsOutOfSpec}
use Rattle.ipc_format_column_bytes.specs.streams.columns.StoredColumns.{Column, column_type, slots}
use Rattle.ipc_format_column_bytes.specs.streams.columns.Slots.{Slot}
use Rattle.ipc_format_column_bytes.specs.streams.flatbuffers.Reading.{◌>>=◌}
use Rattle.ipc_format_column_bytes.specs.streams.grammar.Columns.{Place, slots_in, offsets_in, last_of}
use Rattle.ipc_format_column_bytes.specs.streams.grammar.Messages.{natural}
use Rattle.ipc_format_column_bytes.specs.streams.grammar.Schemas.{ids, no_ids}
use Rattle.ipc_format_column_bytes.specs.streams.messages.declared.values.Buffer.{Buffer}
use Rattle.ipc_format_column_bytes.specs.streams.messages.declared.values.FieldNode.{FieldNode}
use Rattle.ipc_format_column_reading.specs.Buffers.{source_of, taken_in, next_validity, next_window}
use Rattle.ipc_format_column_reading.specs.Queues.{TakesOff}
use Rattle.ipc_format_column_reading.specs.Rooms.{Told, ReadsAs}

-- where the column whose node and buffers are the first of the queues is read, without dictionaries
abbrev pub front : List FieldNode → List Buffer → Bool → Option ℕ → ℕ → List ℕ → Place
front nodes buffers is_little_endian limit origin room = record {
  source = source_of nodes buffers is_little_endian room origin;
  standing = [];
  limit = limit;
  node = 0;
  buffer = 0;
  ids = ids None no_ids;
}

-- the slots of the column of a type at the fronts of the queues
abbrev pub front_slots : DataType → List FieldNode → List Buffer → Bool → Option ℕ → ℕ → List ℕ → Option (List Slot)
front_slots data_type nodes buffers is_little_endian limit origin room =
    slots_in data_type (front nodes buffers is_little_endian limit origin room)

-- how many slots are taken of the next column, and their validity
abbrev pub next_marked : List FieldNode → Option ℕ → List Buffer → ℕ → List ℕ → Option (ℕ × Option (List Bool))
next_marked nodes limit buffers origin room = do
  node ← slice_get nodes 0
  taken ← taken_in limit node
  validity ← next_validity node limit buffers origin room
  Some (taken, validity)

-- a number below a limit
abbrev pub is_below : Option ℕ → ℕ → Bool
is_below None size = false
is_below (Some n) size = nat_lt n size

-- whether there is a next buffer that states fewer bytes than this
abbrev pub states_less : List Buffer → ℕ → Bool
states_less [] size = false
states_less (buffer ∷ others) size = is_below (natural buffer.length) size

-- how wide offsets are
abbrev pub offset_width : Bool → Width
offset_width is_large = if is_large then w64 else w32

-- the offsets of so many byte strings in the next buffer
abbrev pub next_offsets : Bool → Bool → List Buffer → ℕ → ℕ → List ℕ → Option (List ℕ)
next_offsets is_large is_little_endian buffers taken origin room =
    offsets_in (offset_width is_large) (source_of [] buffers is_little_endian room origin) 0 taken

-- what a column of byte strings or of texts is read into: how many slots are taken, which of them are valid, their offsets, and the bytes
-- that these divide
pub record Strings : Type 0 where
  pub taken : ℕ
  pub validity : Option (List Bool)
  pub offsets : List ℕ
  pub bytes : List ℕ

abbrev pub strings_of : ℕ → Option (List Bool) → List ℕ → List ℕ → Strings
strings_of taken validity offsets bytes = record { taken = taken; validity = validity; offsets = offsets; bytes = bytes }

abbrev pub next_strings : Bool → List FieldNode → Option ℕ → List Buffer → Bool → ℕ → List ℕ → Option Strings
next_strings is_large nodes limit buffers is_little_endian origin room = do
  marked ← next_marked nodes limit buffers origin room
  offsets ← next_offsets is_large is_little_endian (drop 1 buffers) marked.0 origin room
  bytes ← next_window (drop 2 buffers) origin (last_of offsets) room
  Some (strings_of marked.0 marked.1 offsets bytes)

-- What is read of a column of a type, where it is of the reader's kind: the array has the type, and its slots are those that the format
-- gives. So many nodes and so many buffers come off the fronts of the queues. A type of another kind is refused, and nothing is taken.
abbrev pub ReadsColumn : {A X Y : Type 0} → Type 0 → Bool → Told → Told → (A → Column) → DataType → (List ℕ → Option (List Slot)) → ℕ → ℕ
    → List X → List X → List Y → List Y → Result A Error → Type 0
ReadsColumn IsOfKind is_compressed old new column data_type given n b nodes nodes_after buffers buffers_after (Ok array) =
    IsOfKind × (column_type (column array) ≡ data_type)
    × ReadsAs is_compressed old new (λ array. slots (column array)) given (Ok array)
    × TakesOff n nodes nodes_after (Ok array) × TakesOff b buffers buffers_after (Ok array)
ReadsColumn {A} IsOfKind is_compressed old new column data_type given n b nodes nodes_after buffers buffers_after (Err error) =
    (IsOfKind × ReadsAs is_compressed old new (λ (array : A). slots (column array)) given (Err error)
    × TakesOff {X = A} n nodes nodes_after (Err error) × TakesOff {X = A} b buffers buffers_after (Err error))
    ⊎ (¬ IsOfKind × IsOutOfSpec error × (nodes_after ≡ nodes) × (buffers_after ≡ buffers))
