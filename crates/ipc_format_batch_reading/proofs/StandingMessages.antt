-- Batches, dictionaries and whole runs of messages are read the same where the same dictionary stands under each id.
use Rattle.std.proofs.Common.{◌≡◌, ◌∙◌, ℕ, ◌+◌, ℤ, Bool, true, false, List, [], ◌∷◌, map, refl, sym, ap}
use Rattle.std.specs.Prelude.{Option, Some, None, not, slice_get, if◌then◌else◌}
use Rattle.std.specs.BTreeMap.{BTreeMap}
use Rattle.std.specs.Map.{lookup}
use Rattle.std.specs.Ordering.{int_eq}
use Rattle.std.proofs.lemmas.Bool.Decides.{Decides-int_eq}
use Rattle.ipc_format_reading.specs.array_reading.ReadArrays.{dictionary_of, standing_in}
use Rattle.ipc_format_reading.specs.array_reading.ArrayReads.{array_slots, is_readable}
use Rattle.ipc_format_reading.specs.columnar_memory.declared.DataType.{DataType}
use Rattle.ipc_format_reading.specs.columnar_memory.declared.Field.{Field}
use Rattle.ipc_format_reading.specs.columns.Slots.{Slot}
use Rattle.ipc_format_reading.specs.columns.StoredColumns.{Column}
use Rattle.ipc_format_reading.specs.columns.Tables.{rows_of_columns}
use Rattle.ipc_format_reading.specs.flatbuffers.FlatBuffers.{TablePlace}
use Rattle.ipc_format_reading.specs.flatbuffers.Reading.{◌>>=◌, guard}
use Rattle.ipc_format_reading.specs.grammar.Columns.{Dictionary, Place, Source, slots_in}
use Rattle.ipc_format_reading.specs.grammar.Columns.{standing_for}
use Rattle.ipc_format_reading.specs.grammar.Dictionaries.{Entry, Layout, Values, dictionary_in}
use Rattle.ipc_format_reading.specs.grammar.Dictionaries.{source_in, values_of}
use Rattle.ipc_format_reading.specs.grammar.Messages as message
use Rattle.ipc_format_reading.specs.grammar.Messages.{dictionary_batch_in}
use Rattle.ipc_format_reading.specs.grammar.Schemas.{ids}
use Rattle.ipc_format_reading.specs.grammar.Tables.{batch_in, batches_of, batches_with}
use Rattle.ipc_format_reading.specs.grammar.Tables.{chosen_batch_in}
use Rattle.ipc_format_reading.specs.grammar.Tables.{chosen_batches, chosen_batches_with}
use Rattle.ipc_format_reading.specs.grammar.Tables.{chosen_columns}
use Rattle.ipc_format_reading.specs.grammar.Tables.{column_in, column_place, columns_from, left_of}
use Rattle.ipc_format_reading.proofs.AlikePlaces.{both_same}
use Rattle.ipc_format_batch_reading.specs.Standing.{ByLookUps, Puts, StandAlike}
use Rattle.ipc_format_batch_reading.proofs.StandingTypes.{types_look}

arrays_look : (data_type : DataType) (at : Place) (standing : List Dictionary) → StandAlike at.standing standing
    → array_slots data_type at ≡ array_slots data_type (record at { standing = standing })
arrays_look data_type at standing alike =
    both_same (guard (is_readable data_type at.ids)) (guard (is_readable data_type at.ids)) _ _ refl
    (λ (passed : Bool). types_look data_type at standing alike)

-- ---- batches

column_look : (layout : Layout) (old new : List Dictionary) (source : Source) (limit : Option ℕ) (k : ℕ) (field : Field) → StandAlike old new
    → column_in layout old source limit k field ≡ column_in layout new source limit k field
column_look layout old new source limit k field alike = types_look field.data_type (column_place layout old source limit k) new alike

columns_look : (layout : Layout) (old new : List Dictionary) (source : Source) (k : ℕ) (fields : List Field) → StandAlike old new
    → columns_from layout old source k fields ≡ columns_from layout new source k fields
columns_look layout old new source k [] alike = refl
columns_look layout old new source k (field ∷ fields) alike =
    both_same _ _ _ _ (column_look layout old new source None k field alike) (λ (column : List Slot).
    both_same _ _ _ _ (columns_look layout old new source (k + 1) fields alike) (λ (columns : List (List Slot)). refl))

batches_look : (layout : Layout) (old new : List Dictionary) (entry : Entry) (table : TablePlace) → StandAlike old new
    → batch_in layout old entry table ≡ batch_in layout new entry table
unfolding batch_in
batches_look layout old new entry table alike =
    both_same (source_in layout.is_little_endian entry table) (source_in layout.is_little_endian entry table) _ _ refl (λ (source : Source).
    both_same _ _ _ _ (columns_look layout old new source 0 layout.fields alike) (λ (columns : List (List Slot)). refl))

choice_look : (layout : Layout) (old new : List Dictionary) (source : Source) (limit : Option ℕ) (columns : List ℕ) → StandAlike old new
    → chosen_columns layout old source limit columns ≡ chosen_columns layout new source limit columns
choice_look layout old new source limit [] alike = refl
choice_look layout old new source limit (k ∷ columns) alike =
    both_same (slice_get layout.fields k) (slice_get layout.fields k) _ _ refl (λ (field : Field).
    both_same _ _ _ _ (column_look layout old new source limit k field alike) (λ (column : List Slot).
    both_same _ _ _ _ (choice_look layout old new source limit columns alike) (λ (others : List (List Slot)). refl)))

choices_look : (layout : Layout) (old new : List Dictionary) (entry : Entry) (limit : Option ℕ) (columns : List ℕ) (table : TablePlace)
    → StandAlike old new → chosen_batch_in layout old entry limit columns table ≡ chosen_batch_in layout new entry limit columns table
unfolding chosen_batch_in
choices_look layout old new entry limit columns table alike =
    both_same (source_in layout.is_little_endian entry table) (source_in layout.is_little_endian entry table) _ _ refl (λ (source : Source).
    both_same _ _ _ _ (choice_look layout old new source limit columns alike) (λ (found : List (List Slot)). refl))

dictionaries_look : (layout : Layout) (old new : List Dictionary) (entry : Entry) (table : TablePlace) → StandAlike old new
    → dictionary_in layout old entry table ≡ dictionary_in layout new entry table
unfolding dictionary_in
dictionaries_look layout old new entry table alike =
    both_same (dictionary_batch_in entry.metadata table) (dictionary_batch_in entry.metadata table) _ _ refl (λ (batch : message.DictionaryBatch).
    both_same (guard (not batch.is_delta)) (guard (not batch.is_delta)) _ _ refl (λ (passed : Bool).
    both_same (source_in layout.is_little_endian entry batch.values) (source_in layout.is_little_endian entry batch.values) _ _ refl
    (λ (source : Source).
    both_same (values_of layout.fields batch.id layout.below) (values_of layout.fields batch.id layout.below) _ _ refl (λ (values : Values).
    both_same _ _ _ _ (types_look values.data_type
    (record { source = source; standing = old; limit = None; node = 0; buffer = 0; ids = ids None values.below }) new alike)
    (λ (slots : List Slot). refl)))))

-- ---- messages one after another

-- one dictionary more
one_more : (dictionary : Dictionary) (old new : List Dictionary) → StandAlike old new → StandAlike (dictionary ∷ old) (dictionary ∷ new)
one_more dictionary old new alike id = ap (λ (others : Option Dictionary). if int_eq id dictionary.id then Some dictionary else others) (alike id)

-- what is shown of the messages behind one
abbrev AllLook : (List Dictionary → Option (List (List (List Slot)))) → Type 0
AllLook rest = (old new : List Dictionary) → StandAlike old new → rest old ≡ rest new

message_look : (layout : Layout) (old new : List Dictionary) (entry : Entry) (rest : List Dictionary → Option (List (List (List Slot))))
    (header : message.Header) → AllLook rest → StandAlike old new
    → batches_with layout old entry rest header ≡ batches_with layout new entry rest header
message_look layout old new entry rest (message.schema table) all alike = refl
message_look layout old new entry rest (message.dictionary_batch table) all alike =
    both_same _ _ _ _ (dictionaries_look layout old new entry table alike) (λ (dictionary : Dictionary).
    all (dictionary ∷ old) (dictionary ∷ new) (one_more dictionary old new alike))
message_look layout old new entry rest (message.record_batch table) all alike =
    both_same _ _ _ _ (batches_look layout old new entry table alike) (λ (columns : List (List Slot)).
    both_same _ _ _ _ (all old new alike) (λ (batches : List (List (List Slot))). refl))

messages_look : (layout : Layout) (old new : List Dictionary) (entries : List Entry) → StandAlike old new
    → batches_of layout old entries ≡ batches_of layout new entries
messages_look layout old new [] alike = refl
messages_look layout old new (entry ∷ others) alike =
    message_look layout old new entry (λ now. batches_of layout now others) entry.header (λ a b same. messages_look layout a b others same) alike

-- the same under what is left of a limit
abbrev AllLookUnder : (List Dictionary → Option ℕ → Option (List (List (List Slot)))) → Type 0
AllLookUnder rest = (old new : List Dictionary) (left : Option ℕ) → StandAlike old new → rest old left ≡ rest new left

chosen_message_look : (layout : Layout) (columns : List ℕ) (old new : List Dictionary) (limit : Option ℕ) (entry : Entry)
    (rest : List Dictionary → Option ℕ → Option (List (List (List Slot)))) (header : message.Header) → AllLookUnder rest → StandAlike old new
    → chosen_batches_with layout old entry limit columns rest header ≡ chosen_batches_with layout new entry limit columns rest header
chosen_message_look layout columns old new limit entry rest (message.schema table) all alike = refl
chosen_message_look layout columns old new limit entry rest (message.dictionary_batch table) all alike =
    both_same _ _ _ _ (dictionaries_look layout old new entry table alike) (λ (dictionary : Dictionary).
    all (dictionary ∷ old) (dictionary ∷ new) limit (one_more dictionary old new alike))
chosen_message_look layout columns old new limit entry rest (message.record_batch table) all alike =
    both_same _ _ _ _ (choices_look layout old new entry limit columns table alike) (λ (found : List (List Slot)).
    both_same _ _ _ _ (all old new (left_of limit (rows_of_columns found)) alike) (λ (batches : List (List (List Slot))). refl))

chosen_look : (layout : Layout) (columns : List ℕ) (old new : List Dictionary) (limit : Option ℕ) (entries : List Entry)
    → StandAlike old new → chosen_batches layout columns old limit entries ≡ chosen_batches layout columns new limit entries
chosen_look layout columns old new limit [] alike = refl
chosen_look layout columns old new limit (entry ∷ others) alike =
    chosen_message_look layout columns old new limit entry (λ now left. chosen_batches layout columns now left others) entry.header
    (λ a b left same. chosen_look layout columns a b left others same) alike

-- ---- arrays that are put under their ids

-- the array under an id, as the dictionary that stands under it
abbrev under : ℤ → Option Column → Option Dictionary
under id None = None
under id (Some array) = Some (dictionary_of (id, array))

-- of two things by a test, the dictionaries of the second
either_way : (id : ℤ) (entry : ℤ × Column) (others : Option Column) (test : Bool) → int_eq id entry.0 ≡ test
    → under id (if test then Some entry.1 else others) ≡ (if test then Some (dictionary_of entry) else under id others)
either_way id entry others true is = ap (λ (number : ℤ). Some (dictionary_of (number, entry.1))) ((Decides-int_eq id entry.0).0 is)
either_way id entry others false is = refl

standing_under : (id : ℤ) (entries : List (ℤ × Column)) → standing_for id (map dictionary_of entries) ≡ under id (lookup (int_eq id) entries)
standing_under id [] = refl
standing_under id (entry ∷ entries) =
    ap (λ (others : Option Dictionary). if int_eq id entry.0 then Some (dictionary_of entry) else others) (standing_under id entries)
    ∙ sym (either_way id entry (lookup (int_eq id) entries) (int_eq id entry.0) refl)

pub put_stands : (old new : BTreeMap ℤ Column) (entry : ℤ × Column) → Puts old entry new
    → StandAlike (standing_in new) (dictionary_of entry ∷ standing_in old)
put_stands old new entry puts id =
    standing_under id new.entries ∙ ap (under id) (puts id)
    ∙ either_way id entry (lookup (int_eq id) old.entries) (int_eq id entry.0) refl
    ∙ ap (λ (others : Option Dictionary). if int_eq id entry.0 then Some (dictionary_of entry) else others) (sym (standing_under id old.entries))

-- ---- the law

pub look_ups_are_enough : ByLookUps
look_ups_are_enough = record {
  columns = types_look;
  arrays = arrays_look;
  batches = batches_look;
  dictionaries = dictionaries_look;
  choices = choices_look;
  messages = messages_look;
  chosen_messages = chosen_look;
  put = put_stands;
}
