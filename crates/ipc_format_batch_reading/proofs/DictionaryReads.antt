-- The values of a dictionary that are read, and the dictionary that stands then.
use Rattle.std.proofs.Common.{◌≡◌, ◌∙◌, ℕ, ℤ, Bool, true, false, ◌||◌, List, refl, sym, ap, subst}
use Rattle.std.specs.BTreeMap.{BTreeMap}
use Rattle.std.specs.Bool.{one_answer}
use Rattle.std.specs.Map.{lookup}
use Rattle.std.specs.Ordering.{int_eq}
use Rattle.std.specs.Prelude.{Option, Some, None, Result, Ok, Err, IfOk, not, if◌then◌else◌}
use Rattle.std.proofs.lemmas.Bool.Decides.{Decides-int_eq}
use denote.Hole.Carrier
use Rattle.ipc_format_reading.specs.array_reading.ReadArrays.{dictionary_of}
use Rattle.ipc_format_reading.specs.array_reading.ArrayReads.{array_slots}
use Rattle.ipc_format_reading.specs.Rooms.{ForBytes, IsRefusal, ReadsAs, Told}
use Rattle.ipc_format_reading.specs.columnar_memory.declared.Error.{Error}
use Rattle.ipc_format_reading.specs.columns.Slots.{Slot}
use Rattle.ipc_format_reading.specs.columns.StoredColumns.{Column, column_type, slots}
use Rattle.ipc_format_reading.specs.flatbuffers.FlatBuffers.{TablePlace}
use Rattle.ipc_format_reading.specs.flatbuffers.Reading.{◌>>=◌, guard}
use Rattle.ipc_format_reading.specs.grammar.Columns.{Dictionary, Place, Source}
use Rattle.ipc_format_reading.specs.grammar.Dictionaries.{Entry, Layout, Values, source_in, values_of}
use Rattle.ipc_format_reading.specs.grammar.Messages.{DictionaryBatch, Header, Version}
use Rattle.ipc_format_reading.specs.grammar.Messages.{dictionary_batch_in}
use Rattle.ipc_format_reading.specs.grammar.Schemas.{Ids, ids}
use Rattle.ipc_format_reading.specs.metadata.Views.{ids_step, ids_view, ids_views}
use Rattle.ipc_format_reading.specs.metadata.declared.ipc_schema.IpcField.{IpcField}
use Rattle.ipc_format_reading.specs.metadata.declared.ipc_schema.IpcField.TheFolds.{fold-roll-IpcField}
use Rattle.ipc_format_reading.specs.metadata.declared.ipc_schema.IpcField.TheViews.{roll-IpcField}
use Rattle.ipc_format_reading.specs.array_reading.column_writing.column_reading.column_bytes.streams.Queues.{is_compressed}
use Rattle.ipc_format_reading.proofs.NextBuffers.{refusal_for}
use Rattle.ipc_format_batch_reading.specs.BatchReads.{entry_in}
use Rattle.ipc_format_batch_reading.specs.DictionaryReads.{dictionary_array, is_unread, is_unread_by, placed_dictionary, stated_dictionary}
use Rattle.ipc_format_batch_reading.specs.Standing.{Puts}

-- ---- the values

-- no field has the id
pub no_values : (layout : Layout) (id : ℤ) (at : Place) → values_of layout.fields id layout.below ≡ None → placed_dictionary layout id at ≡ None
no_values layout id at none = ap (λ (values : Option Values). values >>= (λ values.
    array_slots values.data_type (record at { ids = ids None values.below }) >>= (λ slots.
    Some (record { id = id; data_type = values.data_type; slots = slots })))) none

-- what is given of the values of an id
with_values : (layout : Layout) (id : ℤ) (at : Place) (values : Values) → values_of layout.fields id layout.below ≡ Some values
    → placed_dictionary layout id at
    ≡ (array_slots values.data_type (record at { ids = ids None values.below }) >>= (λ slots.
    Some (record { id = id; data_type = values.data_type; slots = slots })))
with_values layout id at values found = ap (λ (values : Option Values). values >>= (λ values.
    array_slots values.data_type (record at { ids = ids None values.below }) >>= (λ slots.
    Some (record { id = id; data_type = values.data_type; slots = slots })))) found

-- the values of an id are read as one column of their type
pub values_read : (layout : Layout) (id : ℤ) (at : List ℕ → Place) (values : Values) (old new : Told) (r : Result Column Error)
    → values_of layout.fields id layout.below ≡ Some values
    → ReadsAs false old new slots (λ room. array_slots values.data_type (record (at room) { ids = ids None values.below })) r
    → IfOk r (λ array. column_type array ≡ values.data_type)
    → ReadsAs false old new (λ array. dictionary_of (id, array)) (λ room. placed_dictionary layout id (at room)) r
values_read layout id at values old new (Ok array) found read typed = (
  read.0,
  read.1,
  λ room known. with_values layout id (at room) values found
      ∙ ap (λ (found : Option (List Slot)). found >>= (λ slots. Some (record { id = id; data_type = values.data_type; slots = slots })))
      (read.2 room known)
      ∙ ap (λ data_type. Some (record { id = id; data_type = data_type; slots = slots array })) (sym typed),
)
values_read layout id at values old new (Err error) found read typed =
    refusal_for old new
    (ForBytes old (λ room. array_slots values.data_type (record (at room) { ids = ids None values.below }) ≡ None))
    (ForBytes old (λ room. placed_dictionary layout id (at room) ≡ None)) error false
    (λ none room known. with_values layout id (at room) values found
    ∙ ap (λ (found : Option (List Slot)). found >>= (λ slots. Some (record { id = id; data_type = values.data_type; slots = slots })))
    (none room known)) read

-- the same id
pub values_at : (layout : Layout) (one id : ℤ) (at : List ℕ → Place) (old new : Told) (r : Result Column Error) → one ≡ id
    → ReadsAs false old new (λ array. dictionary_of (one, array)) (λ room. placed_dictionary layout one (at room)) r
    → ReadsAs false old new (λ array. dictionary_of (id, array)) (λ room. placed_dictionary layout id (at room)) r
values_at layout one id at old new r same read = subst (λ (id : ℤ). ReadsAs false old new (λ array. dictionary_of (id, array))
    (λ room. placed_dictionary layout id (at room)) r) same read

-- ---- the message

-- which header carries a batch says nothing of it
any_header : (layout : Layout) (standing : List Dictionary) (id : ℤ) (metadata : List ℕ) (one other : Header) (version : Version) (origin : ℕ)
    (room : List ℕ) (table : TablePlace)
    → stated_dictionary layout standing id (entry_in metadata one version origin room) table
    ≡ stated_dictionary layout standing id (entry_in metadata other version origin room) table
unfolding source_in
any_header layout standing id metadata one other version origin room table = refl

-- a message that is no dictionary batch
pub no_batch : (layout : Layout) (standing : List Dictionary) (entry : Entry) (table : TablePlace) → dictionary_batch_in entry.metadata table ≡ None
    → dictionary_array layout standing entry table ≡ None
no_batch layout standing entry table none = ap (λ (batch : Option DictionaryBatch). batch >>= (λ batch. guard (not batch.is_delta) >>= (λ _.
    stated_dictionary layout standing batch.id entry batch.values))) none

-- a dictionary batch is read where it adds to no dictionary and is not compressed
pub unread_is : (metadata : List ℕ) (table : TablePlace) (batch : DictionaryBatch) → dictionary_batch_in metadata table ≡ Some batch
    → is_unread metadata table ≡ (batch.is_delta || is_compressed metadata batch.values)
unread_is metadata table batch found = ap (λ (batch : Option DictionaryBatch). is_unread_by metadata batch) found

-- what is given of a dictionary that adds to none
array_is : (layout : Layout) (standing : List Dictionary) (metadata : List ℕ) (one other : Header) (version : Version) (origin : ℕ) (room : List ℕ)
    (table : TablePlace) (batch : DictionaryBatch) → dictionary_batch_in metadata table ≡ Some batch → batch.is_delta ≡ false
    → dictionary_array layout standing (entry_in metadata one version origin room) table
    ≡ stated_dictionary layout standing batch.id (entry_in metadata other version origin room) batch.values
array_is layout standing metadata one other version origin room table batch found plain =
    ap (λ (batch : Option DictionaryBatch). batch >>= (λ batch. guard (not batch.is_delta) >>= (λ _.
    stated_dictionary layout standing batch.id (entry_in metadata one version origin room) batch.values))) found
    ∙ ap (λ test. guard (not test) >>= (λ _.
    stated_dictionary layout standing batch.id (entry_in metadata one version origin room) batch.values)) plain
    ∙ any_header layout standing batch.id metadata one other version origin room batch.values

-- the same refusals and the same that is given
reads_for : {A B : Type 0} (one other : Bool) (old new : Told) (view : A → B) (given whole : List ℕ → Option B) (r : Result A Error) → other ≡ one
    → ((room : List ℕ) → whole room ≡ given room) → ReadsAs one old new view given r → ReadsAs other old new view whole r
reads_for one other old new view given whole (Ok found) same is read = (same ∙ read.0, read.1, λ room known. is room ∙ read.2 room known)
reads_for one other old new view given whole (Err error) same is read =
    subst (λ (test : Bool). IsRefusal test old new (ForBytes old (λ room. whole room ≡ None)) error) (sym same)
    (refusal_for old new (ForBytes old (λ room. given room ≡ None)) (ForBytes old (λ room. whole room ≡ None)) error one
    (λ none room known. is room ∙ none room known) read)

-- what is read of a batch that adds to no dictionary is what is read of the values that it states
pub message_read : (layout : Layout) (standing : List Dictionary) (metadata : List ℕ) (one other : Header) (version : Version) (origin : ℕ)
    (table : TablePlace) (batch : DictionaryBatch) (old new : Told) (r : Result Column Error) → dictionary_batch_in metadata table ≡ Some batch
    → batch.is_delta ≡ false
    → ReadsAs (is_compressed metadata batch.values) old new (λ array. dictionary_of (batch.id, array))
    (λ room. stated_dictionary layout standing batch.id (entry_in metadata other version origin room) batch.values) r
    → ReadsAs (is_unread metadata table) old new (λ array. dictionary_of (batch.id, array))
    (λ room. dictionary_array layout standing (entry_in metadata one version origin room) table) r
message_read layout standing metadata one other version origin table batch old new r found plain read =
    reads_for (is_compressed metadata batch.values) (is_unread metadata table) old new (λ array. dictionary_of (batch.id, array))
    (λ room. stated_dictionary layout standing batch.id (entry_in metadata other version origin room) batch.values)
    (λ room. dictionary_array layout standing (entry_in metadata one version origin room) table) r
    (unread_is metadata table batch found ∙ ap (λ test. test || is_compressed metadata batch.values) plain)
    (λ room. array_is layout standing metadata one other version origin room table batch found plain) read

-- the same of values that are stated in the same metadata
pub stated_read : (layout : Layout) (standing : List Dictionary) (metadata inner : List ℕ) (one other : Header) (version : Version) (origin : ℕ)
    (table : TablePlace) (batch : DictionaryBatch) (old new : Told) (r : Result Column Error) → inner ≡ metadata
    → dictionary_batch_in metadata table ≡ Some batch → batch.is_delta ≡ false
    → ReadsAs (is_compressed inner batch.values) old new (λ array. dictionary_of (batch.id, array))
    (λ room. stated_dictionary layout standing batch.id (entry_in inner other version origin room) batch.values) r
    → ReadsAs (is_unread metadata table) old new (λ array. dictionary_of (batch.id, array))
    (λ room. dictionary_array layout standing (entry_in metadata one version origin room) table) r
stated_read layout standing metadata inner one other version origin table batch old new r same found plain read =
    message_read layout standing metadata one other version origin table batch old new r found plain
    (subst (λ (bytes : List ℕ). ReadsAs (is_compressed bytes batch.values) old new (λ array. dictionary_of (batch.id, array))
    (λ room. stated_dictionary layout standing batch.id (entry_in bytes other version origin room) batch.values) r) same read)

-- the same of one id
pub stated_read_at : (layout : Layout) (standing : List Dictionary) (metadata inner : List ℕ) (one other : Header) (version : Version)
    (origin : ℕ) (table : TablePlace) (batch : DictionaryBatch) (old new : Told) (r : Result Column Error) (number : ℤ) → number ≡ batch.id
    → inner ≡ metadata → dictionary_batch_in metadata table ≡ Some batch → batch.is_delta ≡ false
    → ReadsAs (is_compressed inner batch.values) old new (λ array. dictionary_of (number, array))
    (λ room. stated_dictionary layout standing number (entry_in inner other version origin room) batch.values) r
    → ReadsAs (is_unread metadata table) old new (λ array. dictionary_of (batch.id, array))
    (λ room. dictionary_array layout standing (entry_in metadata one version origin room) table) r
stated_read_at layout standing metadata inner one other version origin table batch old new r number same_id same found plain read =
    stated_read layout standing metadata inner one other version origin table batch old new r same found plain
    (subst (λ (id : ℤ). ReadsAs (is_compressed inner batch.values) old new (λ array. dictionary_of (id, array))
    (λ room. stated_dictionary layout standing id (entry_in inner other version origin room) batch.values) r) same_id read)

-- ---- the array under its id

same_test : (key id : ℤ) → int_eq key id ≡ int_eq id key
same_test key id =
    one_answer (int_eq key id) (int_eq id key) (Decides-int_eq key id)
    (λ test. sym ((Decides-int_eq id key).0 test), λ is. (Decides-int_eq id key).1 (sym is))

pub put_of : (old new : BTreeMap ℤ Column) (number key : ℤ) (array : Column) → number ≡ key
    → ((id : ℤ) → lookup (int_eq id) new.entries ≡ (if int_eq number id then Some array else lookup (int_eq id) old.entries))
    → Puts old (key, array) new
put_of old new number key array same updates id =
    updates id
    ∙ ap (λ (number : ℤ). if int_eq number id then Some array else lookup (int_eq id) old.entries) same
    ∙ ap (λ (test : Bool). if test then Some array else lookup (int_eq id) old.entries) (same_test key id)

-- ---- ids

-- the ids over those beside some fields
pub ids_over_are : (below : List IpcField) → ids_view (roll-IpcField (record { fields = below; dictionary_id = None })) ≡ ids None (ids_views below)
unfolding roll-IpcField denote.Hole.Carrier.roll
ids_over_are below = fold-roll-IpcField Ids ids_step (record { fields = below; dictionary_id = None })
