-- Dictionary batches that are read whole (Arrow IPC, "Dictionary Messages").
use Rattle.std.specs.Prelude.{◌≡◌, ◌||◌, ◌∷◌, ℕ, ℤ, Bool, false, not, List, Option, Some, None, Result, Ok, Err}
use Rattle.std.specs.BTreeMap.{BTreeMap, IsUnchanged}
use Rattle.ipc_format_reading.specs.Below.{no_own_ids}
use Rattle.ipc_format_reading.specs.array_reading.ReadArrays.{dictionary_of, standing_in}
use Rattle.ipc_format_reading.specs.array_reading.ArrayReads.{array_slots}
use Rattle.ipc_format_reading.specs.Rooms.{Told, ReadsAs}
use Rattle.ipc_format_reading.specs.columnar_memory.declared.Error.{Error}
use Rattle.ipc_format_reading.specs.columns.StoredColumns.{Column}
use Rattle.ipc_format_reading.specs.flatbuffers.FlatBuffers.{TablePlace}
use Rattle.ipc_format_reading.specs.flatbuffers.Reading.{◌>>=◌, guard}
use Rattle.ipc_format_reading.specs.grammar.Columns.{Dictionary, Place}
use Rattle.ipc_format_reading.specs.grammar.Dictionaries.{Entry, Layout, source_in, values_of}
use Rattle.ipc_format_reading.specs.grammar.Messages.{DictionaryBatch, dictionary_batch_in}
use Rattle.ipc_format_reading.specs.grammar.Schemas.{ids}
use Rattle.ipc_format_reading.specs.array_reading.column_writing.column_reading.column_bytes.streams.Queues.{is_compressed}
use Rattle.ipc_format_batch_reading.specs.Standing.{Puts, StandAlike}

-- the dictionary of an id whose values are a column at a place, where there are arrays of their type
abbrev pub placed_dictionary : Layout → ℤ → Place → Option Dictionary
placed_dictionary layout id at = do
  values ← values_of layout.fields id layout.below
  slots ← array_slots values.data_type (record at { ids = ids None values.below })
  Some (record { id = id; data_type = values.data_type; slots = slots })

-- the dictionary of an id whose values a record batch states
abbrev pub stated_dictionary : Layout → List Dictionary → ℤ → Entry → TablePlace → Option Dictionary
stated_dictionary layout standing id entry table = do
  source ← source_in layout.is_little_endian entry table
  placed_dictionary layout id
      (record { source = source; standing = standing; limit = None; node = 0; buffer = 0; ids = no_own_ids })

-- The dictionary of a message, where there are arrays of its values' type: one column of the value type of its id, read under the dictionaries
-- that stand before it. One that adds to an earlier one is refused.
abbrev pub dictionary_array : Layout → List Dictionary → Entry → TablePlace → Option Dictionary
dictionary_array layout standing entry table = do
  batch ← dictionary_batch_in entry.metadata table
  _ ← guard (not batch.is_delta)
  stated_dictionary layout standing batch.id entry batch.values

-- whether a dictionary batch is of those that are not read: it adds to an earlier dictionary, or its buffers are compressed
abbrev pub is_unread_by : List ℕ → Option DictionaryBatch → Bool
is_unread_by metadata None = false
is_unread_by metadata (Some batch) = batch.is_delta || is_compressed metadata batch.values

abbrev pub is_unread : List ℕ → TablePlace → Bool
is_unread metadata table = is_unread_by metadata (dictionary_batch_in metadata table)

-- What is read of a dictionary batch: the array of its values stands under its id, and under each other id what stood there before. Where the
-- call is refused, all dictionaries stay.
abbrev pub ReadsDictionary : {A : Type 0} → Bool → Told → Told → (List ℕ → Option Dictionary) → BTreeMap ℤ Column → BTreeMap ℤ Column
    → Result A Error → Type 0
ReadsDictionary is_unread old new given dictionaries dictionaries_after (Ok done) = (entry : ℤ × Column)
    × Puts dictionaries entry dictionaries_after
    × StandAlike (standing_in dictionaries_after) (dictionary_of entry ∷ standing_in dictionaries)
    × ReadsAs is_unread old new dictionary_of given (Ok entry)
ReadsDictionary is_unread old new given dictionaries dictionaries_after (Err error) =
    IsUnchanged dictionaries dictionaries_after × ReadsAs is_unread old new dictionary_of given (Err error)
