-- What is heard of a message: a dictionary, the columns of a record batch, or nothing.
use Rattle.std.proofs.Common.{◌≡◌, ◌∙◌, ℕ, ◌+◌, ◌<◌, ◌≤◌, ℤ, Bool, true, false, List, [], ◌∷◌, length, map, refl, sym, ap, subst, arith}
use Rattle.std.proofs.Common.{suc, nat_lt, ◌==◌, Bor, IfOk}
use Rattle.std.specs.Prelude.{not, ◌||◌, Option, Some, None, Result, Ok, Err}
use Rattle.std.proofs.lemmas.Bool.{le-leb, lt-leb, eq-eqb}
use Rattle.std.specs.BTreeMap.{BTreeMap}
use Rattle.ipc_format_chunk_writing.specs.BatchReads.{asked_arrays, chosen_arrays, entry_in, sized}
use Rattle.ipc_format_chunk_writing.specs.DictionaryReads.{ReadsDictionary, dictionary_array, is_unread, is_unread_by}
use Rattle.ipc_format_chunk_writing.specs.Standing.{StandAlike}
use Rattle.ipc_format_chunk_writing.specs.ArrayReads.{array_slots}
use Rattle.ipc_format_chunk_writing.specs.ReadArrays.{dictionary_of, standing_in}
use Rattle.ipc_format_chunk_writing.specs.Rooms.{ReadsAs, Told}
use Rattle.ipc_format_chunk_writing.specs.columnar_memory.declared.Error.{Error}
use Rattle.ipc_format_chunk_writing.specs.columnar_memory.declared.Error.TheVariants as errors
use Rattle.ipc_format_chunk_writing.specs.columns.Slots.{Slot}
use Rattle.ipc_format_chunk_writing.specs.columns.StoredColumns.{Column, slots}
use Rattle.ipc_format_chunk_writing.specs.flatbuffers.FlatBuffers.{TablePlace}
use Rattle.ipc_format_chunk_writing.specs.flatbuffers.Reading.{◌>>=◌, guard}
use Rattle.ipc_format_chunk_writing.specs.grammar.Columns.{Dictionary, Source}
use Rattle.ipc_format_chunk_writing.specs.grammar.Dictionaries.{Entry, Layout, Values, source_in, values_of}
use Rattle.ipc_format_chunk_writing.specs.grammar.Framing.{dictionaries_after}
use Rattle.ipc_format_chunk_writing.specs.grammar.Limits.{most_dictionaries}
use Rattle.ipc_format_chunk_writing.specs.grammar.Messages as message
use Rattle.ipc_format_chunk_writing.specs.grammar.Messages.{DictionaryBatch, Header, Message, RecordBatch, Version}
use Rattle.ipc_format_chunk_writing.specs.grammar.Messages.{dictionary_batch_in, message_in, record_batch_in}
use Rattle.ipc_format_chunk_writing.specs.grammar.Schemas.{ids}
use Rattle.ipc_format_chunk_writing.specs.grammar.Tables.{agree_in_length}
use Rattle.ipc_format_chunk_writing.specs.Below.{arrays_below, no_own_ids}
use Rattle.ipc_format_chunk_writing.specs.streams.Queues.{is_compressed, is_compressed_by}
use Rattle.ipc_format_readers.specs.Hearing.{HasTypes, Hears, HearsColumns, HearsDictionary, heard_in, is_not_read_in}
use Rattle.ipc_format_readers.specs.Turns.{Said, dictionary_stands, columns_come, said_by, heard, is_not_read}
use Rattle.ipc_format_readers.proofs.Dropped.{bind_is}

-- ---- messages that are not read are nothing

-- what is tested first, and does not pass
refused_first : {A B : Type 0} (found : Option A) (test : A → Bool) (rest : A → Option B) → ((x : A) → found ≡ Some x → test x ≡ false)
    → (found >>= (λ (x : A). guard (test x) >>= (λ (ok : Bool). rest x))) ≡ None
refused_first None test rest fails = refl
refused_first (Some x) test rest fails = ap (λ (passes : Bool). guard passes >>= (λ (ok : Bool). rest x)) (fails x refl)

no_source : (little : Bool) (entry : Entry) (table : TablePlace) → is_compressed entry.metadata table ≡ true → source_in little entry table ≡ None
unfolding source_in
no_source little entry table is =
    refused_first (record_batch_in entry.metadata table) (λ (vectors : RecordBatch). not vectors.is_compressed) _
    (λ (vectors : RecordBatch) found. ap not (sym (ap is_compressed_by found) ∙ is))

no_columns : (asked : Option (List ℕ)) (layout : Layout) (standing : List Dictionary) (entry : Entry) (table : TablePlace)
    → is_compressed entry.metadata table ≡ true → asked_arrays asked layout standing None entry table ≡ None
no_columns (Some columns) layout standing entry table is =
    ap (λ (found : Option Source). found >>= (λ (source : Source). chosen_arrays layout standing source None columns
    >>= (λ (arrays : List (List Slot)). guard (agree_in_length arrays) >>= (λ (ok : Bool). Some arrays))))
    (no_source layout.is_little_endian entry table is)
no_columns None layout standing entry table is =
    ap (λ (found : Option Source). found >>= (λ (source : Source).
    arrays_below layout.fields (record { source = source; standing = standing; limit = None; node = 0; buffer = 0; ids = no_own_ids }) layout.below
    >>= (λ (columns : List (List Slot)). guard (agree_in_length columns) >>= (λ (ok : Bool). Some columns))))
    (no_source layout.is_little_endian entry table is)

-- the dictionary of a batch, by the values of its id
abbrev values_from : Layout → List Dictionary → DictionaryBatch → Source → Option Dictionary
values_from layout standing batch source = values_of layout.fields batch.id layout.below
    >>= (λ (values : Values). array_slots values.data_type
    (record { source = source; standing = standing; limit = None; node = 0; buffer = 0; ids = ids None values.below })
    >>= (λ (slots : List Slot). Some (record { id = batch.id; data_type = values.data_type; slots = slots })))

-- a dictionary batch that adds to an earlier one, or is compressed
no_values : (layout : Layout) (standing : List Dictionary) (entry : Entry) (batch : DictionaryBatch) (adds : Bool) → batch.is_delta ≡ adds
    → (adds || is_compressed entry.metadata batch.values) ≡ true
    → (guard (not batch.is_delta)
    >>= (λ (ok : Bool). source_in layout.is_little_endian entry batch.values >>= values_from layout standing batch)) ≡ None
no_values layout standing entry batch true adds is =
    ap (λ (answer : Bool). guard (not answer)
    >>= (λ (ok : Bool). source_in layout.is_little_endian entry batch.values >>= values_from layout standing batch)) adds
no_values layout standing entry batch false adds is =
    ap (λ (answer : Bool). guard (not answer)
    >>= (λ (ok : Bool). source_in layout.is_little_endian entry batch.values >>= values_from layout standing batch)) adds
    ∙ ap (λ (found : Option Source). found >>= values_from layout standing batch) (no_source layout.is_little_endian entry batch.values is)

no_dictionary_by : (layout : Layout) (standing : List Dictionary) (entry : Entry) (found : Option DictionaryBatch)
    → is_unread_by entry.metadata found ≡ true → (found >>= (λ (batch : DictionaryBatch). guard (not batch.is_delta)
    >>= (λ (ok : Bool). source_in layout.is_little_endian entry batch.values >>= values_from layout standing batch))) ≡ None
no_dictionary_by layout standing entry None is = refl
no_dictionary_by layout standing entry (Some batch) is = no_values layout standing entry batch batch.is_delta refl is

no_dictionary : (layout : Layout) (standing : List Dictionary) (entry : Entry) (table : TablePlace) → is_unread entry.metadata table ≡ true
    → dictionary_array layout standing entry table ≡ None
no_dictionary layout standing entry table is = no_dictionary_by layout standing entry (dictionary_batch_in entry.metadata table) is

-- ---- a body in memory

known : (body : List ℕ) → (sized (length body) (record { bytes = Some body; failures = 0 })).bytes ≡ Some body
known body =
    ap (λ (same : Bool). guard same >>= (λ (ok : Bool). let it : Option (List ℕ) = Some body in it)) (eq-eqb (length body) (length body) refl)

-- what a body in memory tells
abbrev pub in_body : List ℕ → Told
in_body body = sized (length body) (record { bytes = Some body; failures = 0 })

pub columns_heard : (asked : Option (List ℕ)) (layout : Layout) (version : Version) (standing : List Dictionary) (metadata : List ℕ)
    (table : TablePlace) (body : List ℕ) (after : Told) (result : Result (List Column) Error) → after.failures ≡ 0
    → IfOk result (HasTypes asked layout)
    → ReadsAs (is_compressed metadata table) (in_body body) after (map slots)
    (λ room. asked_arrays asked layout standing None (entry_in metadata (message.record_batch table) version 0 room) table) result
    → HearsColumns asked layout version standing metadata table body result
columns_heard asked layout version standing metadata table body after (Ok chunk) quiet types read = (types, read.2 body (known body))
columns_heard asked layout version standing metadata table body after (Err (errors.OutOfSpec text)) quiet types read = read.1 body (known body)
columns_heard asked layout version standing metadata table body after (Err (errors.NotYetImplemented text)) quiet types read =
    (no_columns asked layout standing (entry_in metadata (message.record_batch table) version 0 body) table read, read)
columns_heard asked layout version standing metadata table body after (Err (errors.Io what)) quiet types read = absurd (omega (arith, quiet, read.1))
columns_heard asked layout version standing metadata table body after (Err errors.OutOfMemory) quiet types read = tt
columns_heard asked layout version standing metadata table body after (Err _) quiet types read = absurd read

pub dictionary_heard : {A : Type 0} (layout : Layout) (version : Version) (dictionaries after : BTreeMap ℤ Column) (metadata : List ℕ)
    (table : TablePlace) (body : List ℕ) (told : Told) (result : Result A Error) → told.failures ≡ 0
    → ReadsDictionary (is_unread metadata table) (in_body body) told (λ room. dictionary_array layout (standing_in dictionaries)
    (entry_in metadata (message.dictionary_batch table) version 0 room) table) dictionaries after result
    → HearsDictionary layout version (standing_in dictionaries) (standing_in after) metadata table body result
dictionary_heard layout version dictionaries after metadata table body told (Ok done) quiet read =
    (dictionary_of read.0, read.3.2 body (known body), λ (id : ℤ). sym (read.2 id))
dictionary_heard layout version dictionaries after metadata table body told (Err (errors.OutOfSpec text)) quiet read = read.1.1 body (known body)
dictionary_heard layout version dictionaries after metadata table body told (Err (errors.NotYetImplemented text)) quiet read =
    (no_dictionary layout (standing_in dictionaries) (entry_in metadata (message.dictionary_batch table) version 0 body) table read.1, read.1)
dictionary_heard layout version dictionaries after metadata table body told (Err (errors.Io what)) quiet read =
    absurd (omega (arith, quiet, read.1.1))
dictionary_heard layout version dictionaries after metadata table body told (Err errors.OutOfMemory) quiet read = tt
dictionary_heard layout version dictionaries after metadata table body told (Err _) quiet read = absurd read.1

-- ---- a message by its header

module _ (asked : Option (List ℕ)) (layout : Layout) (version : Version) (standing standing_after : List Dictionary) (row : ℕ)
    (metadata body : List ℕ) where
  abbrev Answers : Result (Option (List Column)) Error → Type 0
  Answers result = Hears asked layout version standing standing_after row metadata body result

  -- what is said, beside how many dictionaries came in a row
  abbrev with_row : ℕ → Option Said → Option (ℕ × Said)
  with_row count found = found >>= (λ (said : Said). Some (count, said))

  -- what is heard of a message with some header
  abbrev heard_with : Header → Option (ℕ × Said)
  heard_with header = heard asked layout version standing row (record { metadata = metadata; header = header; body = body })

  heard_is : (it : Message) (header : Header) → message_in metadata ≡ Some it → it.header ≡ header
      → heard_in asked layout version standing row metadata body ≡ heard_with header
  heard_is it header there is =
      bind_is (message_in metadata) (λ (found : Message). heard_with found.header) it there ∙ ap heard_with is

  in_a_row : (table : TablePlace) (few : Bool) → nat_lt row most_dictionaries ≡ few
      → heard_with (message.dictionary_batch table) ≡ ((guard few >>= (λ (ok : Bool). Some (row + 1)))
      >>= (λ (now : ℕ). said_by asked layout standing (entry_in metadata (message.dictionary_batch table) version 0 body)
      (message.dictionary_batch table) >>= (λ (said : Said). Some (now, said))))
  in_a_row table few is = ap (λ (test : Bool). (guard test >>= (λ (ok : Bool). Some (row + 1)))
      >>= (λ (now : ℕ). said_by asked layout standing (entry_in metadata (message.dictionary_batch table) version 0 body)
      (message.dictionary_batch table) >>= (λ (said : Said). Some (now, said)))) is

  dictionary_is : (it : Message) (table : TablePlace) (found : Option Dictionary) → message_in metadata ≡ Some it
      → it.header ≡ message.dictionary_batch table → row < most_dictionaries
      → dictionary_array layout standing (entry_in metadata (message.dictionary_batch table) version 0 body) table ≡ found
      → heard_in asked layout version standing row metadata body
      ≡ with_row (row + 1) (found >>= (λ (dictionary : Dictionary). Some (dictionary_stands dictionary)))
  dictionary_is it table found there is few e =
      heard_is it (message.dictionary_batch table) there is ∙ in_a_row table true (le-leb (suc row) most_dictionaries few)
      ∙ ap (λ (dictionary : Option Dictionary). with_row (row + 1) (dictionary >>= (λ (d : Dictionary). Some (dictionary_stands d)))) e

  -- a dictionary comes
  pub dictionary_stood : {A : Type 0} (it : Message) (table : TablePlace) (done : A) → message_in metadata ≡ Some it
      → it.header ≡ message.dictionary_batch table → row < most_dictionaries
      → HearsDictionary layout version standing standing_after metadata table body (Ok done) → Answers (Ok None)
  dictionary_stood it table done there is few read =
      (few, (read.0, dictionary_is it table (Some read.0) there is few read.1, read.2))
