-- A message says the same under dictionaries among which each id means the same.
use Rattle.std.proofs.Common.{◌≡◌, ◌∙◌, ℕ, ℤ, Bool, true, false, List, [], ◌∷◌, refl, sym, ap}
use Rattle.std.specs.Prelude.{not, slice_get, Option, Some, None, if◌then◌else◌}
use Rattle.std.specs.Ordering.{int_eq}
use Rattle.ipc_format_chunk_writing.specs.BatchReads.{asked_arrays, chosen_arrays, ids_beside}
use Rattle.ipc_format_chunk_writing.specs.ArrayReads.{array_slots}
use Rattle.ipc_format_chunk_writing.specs.DictionaryReads.{dictionary_array}
use Rattle.ipc_format_chunk_writing.specs.Standing.{ByLookUps, StandAlike}
use Rattle.ipc_format_chunk_writing.specs.columns.Slots.{Slot}
use Rattle.ipc_format_chunk_writing.specs.columnar_memory.declared.Field.{Field}
use Rattle.ipc_format_chunk_writing.specs.flatbuffers.FlatBuffers.{TablePlace}
use Rattle.ipc_format_chunk_writing.specs.flatbuffers.Reading.{◌>>=◌, guard}
use Rattle.ipc_format_chunk_writing.specs.grammar.Columns.{Dictionary, Place, Source, behind_column, standing_for}
use Rattle.ipc_format_chunk_writing.specs.grammar.Dictionaries.{Entry, Layout, Values, source_in, values_of}
use Rattle.ipc_format_chunk_writing.specs.grammar.Framing.{Framed, dictionaries_after}
use Rattle.ipc_format_chunk_writing.specs.grammar.Messages as message
use Rattle.ipc_format_chunk_writing.specs.grammar.Messages.{DictionaryBatch, Header, Version, dictionary_batch_in}
use Rattle.ipc_format_chunk_writing.specs.grammar.Schemas.{Ids, IdsList, ids, ids_then, no_ids}
use Rattle.ipc_format_chunk_writing.specs.grammar.Tables.{agree_in_length, column_place, stream_entry}
use Rattle.ipc_format_chunk_writing.specs.Below.{arrays_below, no_own_ids}
use Rattle.ipc_format_readers.specs.Turns.{Said, dictionary_stands, columns_come, said_by, heard}
use Rattle.ipc_format_readers.proofs.Dropped.{bind_same}

pub alike_same : (standing : List Dictionary) → StandAlike standing standing
alike_same standing id = refl

pub alike_further : (a b c : List Dictionary) → StandAlike a b → StandAlike b c → StandAlike a c
alike_further a b c first second id = first id ∙ second id

pub alike_back : (a b : List Dictionary) → StandAlike a b → StandAlike b a
alike_back a b alike id = sym (alike id)

-- one more dictionary before them
pub alike_before : (dictionary : Dictionary) (a b : List Dictionary) → StandAlike a b → StandAlike (dictionary ∷ a) (dictionary ∷ b)
alike_before dictionary a b alike id =
    ap (λ (rest : Option Dictionary). if int_eq id dictionary.id then Some dictionary else rest) (alike id)

module _ (law : ByLookUps) where
  below_alike : (fields : List Field) (at : Place) (standing : List Dictionary) (below : IdsList) → StandAlike at.standing standing
      → arrays_below fields at below ≡ arrays_below fields (record at { standing = standing }) below
  below_alike [] at standing below alike = refl
  below_alike (field ∷ fields) at standing no_ids alike = refl
  below_alike (field ∷ fields) at standing (ids_then first others) alike =
      ap (λ (column : Option (List Slot)). column >>= (λ (found : List Slot).
      arrays_below fields (behind_column at field.data_type) others >>= (λ (columns : List (List Slot)). Some (found ∷ columns))))
      (law.arrays field.data_type (record at { ids = first }) standing alike)
      ∙ ap (λ (rest : Option (List (List Slot))). column_first >>= (λ (found : List Slot).
      rest >>= (λ (columns : List (List Slot)). Some (found ∷ columns))))
      (below_alike fields (behind_column at field.data_type) standing others alike)
    where
      column_first : Option (List Slot)
      column_first = array_slots field.data_type (record at { ids = first; standing = standing })

  chosen_alike : (layout : Layout) (old new : List Dictionary) (source : Source) (columns : List ℕ) → StandAlike old new
      → chosen_arrays layout old source None columns ≡ chosen_arrays layout new source None columns
  chosen_alike layout old new source [] alike = refl
  chosen_alike layout old new source (k ∷ columns) alike =
      bind_same (slice_get layout.fields k) _ _ (λ (field : Field) is.
      bind_same (ids_beside layout.below k) _ _ (λ (here : Ids) is.
      ap (λ (column : Option (List Slot)). column >>= (λ (found : List Slot).
      chosen_arrays layout old source None columns >>= (λ (others : List (List Slot)). Some (found ∷ others))))
      (law.arrays field.data_type (record (column_place layout old source None k) { ids = here }) new alike)
      ∙ ap (λ (rest : Option (List (List Slot))).
      array_slots field.data_type (record (column_place layout new source None k) { ids = here }) >>= (λ (found : List Slot).
      rest >>= (λ (others : List (List Slot)). Some (found ∷ others))))
      (chosen_alike layout old new source columns alike)))

  batch_alike : (asked : Option (List ℕ)) (layout : Layout) (old new : List Dictionary) (entry : Entry) (table : TablePlace) → StandAlike old new
      → asked_arrays asked layout old None entry table ≡ asked_arrays asked layout new None entry table
  batch_alike (Some columns) layout old new entry table alike =
      bind_same (source_in layout.is_little_endian entry table) _ _ (λ (source : Source) is.
      ap (λ (found : Option (List (List Slot))). found >>= (λ (arrays : List (List Slot)).
      guard (agree_in_length arrays) >>= (λ (ok : Bool). Some arrays)))
      (chosen_alike layout old new source columns alike))
  batch_alike None layout old new entry table alike =
      bind_same (source_in layout.is_little_endian entry table) _ _ (λ (source : Source) is.
      ap (λ (found : Option (List (List Slot))). found >>= (λ (columns : List (List Slot)).
      guard (agree_in_length columns) >>= (λ (ok : Bool). Some columns)))
      (below_alike layout.fields
      (record { source = source; standing = old; limit = None; node = 0; buffer = 0; ids = no_own_ids }) new layout.below alike))

  dictionary_alike : (layout : Layout) (old new : List Dictionary) (entry : Entry) (table : TablePlace) → StandAlike old new
      → dictionary_array layout old entry table ≡ dictionary_array layout new entry table
  dictionary_alike layout old new entry table alike =
      bind_same (dictionary_batch_in entry.metadata table) _ _ (λ (batch : DictionaryBatch) is.
      bind_same (guard (not batch.is_delta)) _ _ (λ (ok : Bool) is.
      bind_same (source_in layout.is_little_endian entry batch.values) _ _ (λ (source : Source) is.
      bind_same (values_of layout.fields batch.id layout.below) _ _ (λ (values : Values) is.
      ap (λ (found : Option (List Slot)). found >>= (λ (slots : List Slot).
      Some (record { id = batch.id; data_type = values.data_type; slots = slots })))
      (law.arrays values.data_type
      (record { source = source; standing = old; limit = None; node = 0; buffer = 0; ids = ids None values.below }) new alike)))))

  said_alike : (asked : Option (List ℕ)) (layout : Layout) (old new : List Dictionary) (entry : Entry) (header : Header) → StandAlike old new
      → said_by asked layout old entry header ≡ said_by asked layout new entry header
  said_alike asked layout old new entry (message.schema table) alike = refl
  said_alike asked layout old new entry (message.dictionary_batch table) alike =
      ap (λ (found : Option Dictionary). found >>= (λ (dictionary : Dictionary). Some (dictionary_stands dictionary)))
      (dictionary_alike layout old new entry table alike)
  said_alike asked layout old new entry (message.record_batch table) alike =
      ap (λ (found : Option (List (List Slot))). found >>= (λ (columns : List (List Slot)). Some (columns_come columns)))
      (batch_alike asked layout old new entry table alike)

  pub heard_alike : (asked : Option (List ℕ)) (layout : Layout) (version : Version) (old new : List Dictionary) (row : ℕ) (framed : Framed)
      → StandAlike old new → heard asked layout version old row framed ≡ heard asked layout version new row framed
  heard_alike asked layout version old new row framed alike =
      bind_same (dictionaries_after row framed.header) _ _ (λ (in_a_row : ℕ) is.
      ap (λ (found : Option Said). found >>= (λ (said : Said). Some (in_a_row, said)))
      (said_alike asked layout old new (stream_entry version framed) framed.header alike))
