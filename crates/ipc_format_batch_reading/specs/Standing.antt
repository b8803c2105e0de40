-- Dictionaries that stand under ids: what a key means is the latest one of its id (Arrow IPC, "Dictionary Messages").
use Rattle.std.specs.Prelude.{◌≡◌, ◌∷◌, ℕ, ℤ, List, map, Option, Some, if◌then◌else◌}
use Rattle.std.specs.BTreeMap.{BTreeMap}
use Rattle.std.specs.Map.{lookup}
use Rattle.std.specs.Ordering.{int_eq}
use Rattle.ipc_format_reading.specs.array_reading.ReadArrays.{dictionary_of, standing_in}
use Rattle.ipc_format_reading.specs.array_reading.ArrayReads.{array_slots}
use Rattle.ipc_format_reading.specs.columnar_memory.declared.DataType.{DataType}
use Rattle.ipc_format_reading.specs.columns.StoredColumns.{Column}
use Rattle.ipc_format_reading.specs.flatbuffers.FlatBuffers.{TablePlace}
use Rattle.ipc_format_reading.specs.grammar.Columns.{Dictionary, Place, slots_in, standing_for}
use Rattle.ipc_format_reading.specs.grammar.Dictionaries.{Entry, Layout, dictionary_in}
use Rattle.ipc_format_reading.specs.grammar.Tables.{batch_in, batches_of, chosen_batch_in}
use Rattle.ipc_format_reading.specs.grammar.Tables.{chosen_batches}

-- the same dictionary stands under each id
abbrev pub StandAlike : List Dictionary → List Dictionary → Type 0
StandAlike old new = (id : ℤ) → standing_for id old ≡ standing_for id new

-- an array stands under an id, and under each other id what stood there before
abbrev pub Puts : BTreeMap ℤ Column → ℤ × Column → BTreeMap ℤ Column → Type 0
Puts old entry new =
    (id : ℤ) → lookup (int_eq id) new.entries ≡ (if int_eq id entry.0 then Some entry.1 else lookup (int_eq id) old.entries)

-- What is read under dictionaries depends on what stands under each id, and on nothing else of them: which were replaced, and in which order they
-- came, says nothing.
pub record ByLookUps : Type 0 where
  pub columns : (data_type : DataType) (at : Place) (standing : List Dictionary) → StandAlike at.standing standing
      → slots_in data_type at ≡ slots_in data_type (record at { standing = standing })
  pub arrays : (data_type : DataType) (at : Place) (standing : List Dictionary) → StandAlike at.standing standing
      → array_slots data_type at ≡ array_slots data_type (record at { standing = standing })
  pub batches : (layout : Layout) (old new : List Dictionary) (entry : Entry) (table : TablePlace) → StandAlike old new
      → batch_in layout old entry table ≡ batch_in layout new entry table
  pub dictionaries : (layout : Layout) (old new : List Dictionary) (entry : Entry) (table : TablePlace) → StandAlike old new
      → dictionary_in layout old entry table ≡ dictionary_in layout new entry table
  pub choices : (layout : Layout) (old new : List Dictionary) (entry : Entry) (limit : Option ℕ) (columns : List ℕ) (table : TablePlace)
      → StandAlike old new → chosen_batch_in layout old entry limit columns table ≡ chosen_batch_in layout new entry limit columns table
  pub messages : (layout : Layout) (old new : List Dictionary) (entries : List Entry) → StandAlike old new
      → batches_of layout old entries ≡ batches_of layout new entries
  pub chosen_messages : (layout : Layout) (columns : List ℕ) (old new : List Dictionary) (limit : Option ℕ) (entries : List Entry)
      → StandAlike old new → chosen_batches layout columns old limit entries ≡ chosen_batches layout columns new limit entries
  -- an array that is put under its id stands as the latest dictionary does
  pub put : (old new : BTreeMap ℤ Column) (entry : ℤ × Column) → Puts old entry new
      → StandAlike (standing_in new) (dictionary_of entry ∷ standing_in old)
