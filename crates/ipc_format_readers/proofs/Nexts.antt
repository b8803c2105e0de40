-- What a reader answers next, by what its turn took.
use Rattle.std.proofs.Common.{◌≡◌, ◌∙◌, ◌⊎◌, ℕ, ℤ, Bool, true, false, List, [], ◌++◌, length, map, refl, sym, ap, subst, inl, inr}
use Rattle.std.specs.Prelude.{Option, Some, None, Result, Ok, Err}
use Rattle.std.specs.BTreeMap.{BTreeMap}
use Rattle.std.specs.Io.KnownBytes.{prepend_known}
use Rattle.std.proofs.lemmas.List.{length-map}
use Rattle.ipc_format_chunk_writing.specs.BatchReads.{asked_fields}
use Rattle.ipc_format_chunk_writing.specs.ReadArrays.{dictionary_of, standing_in}
use Rattle.ipc_format_chunk_writing.specs.columnar_memory.declared.Error.{Error}
use Rattle.ipc_format_chunk_writing.specs.columnar_memory.declared.Error.TheVariants as errors
use Rattle.ipc_format_chunk_writing.specs.columnar_memory.declared.Schema.{Schema}
use Rattle.ipc_format_chunk_writing.specs.columns.StoredColumns.{Column}
use Rattle.ipc_format_chunk_writing.specs.grammar.Columns.{Dictionary}
use Rattle.ipc_format_chunk_writing.specs.grammar.Writable.{normalised}
use Rattle.ipc_format_chunk_writing.specs.streams.Starts.{IsReadOutcome, IsReadRefusal, IsRefusedRead}
use Rattle.ipc_format_chunk_writing.specs.streams.declared.stream_metadata.StreamMetadata.{StreamMetadata}
use Rattle.ipc_format_readers.specs.Asking.{IsAsked, IsAskedOf, asked_of, asked_schema}
use Rattle.ipc_format_readers.specs.Readings.{Reading, Opens, Takes, TakesUnfailed, Refuses, Answers, NextGives}
use Rattle.ipc_format_readers.specs.declared.asking.Asked.{Asked}
use Rattle.ipc_format_readers.specs.declared.state.StreamState.{StreamState}

-- ---- a reader that is made

unheld : (held : List ℕ) (left : Option (List ℕ)) → held ≡ [] → prepend_known held left ≡ left
unheld held None e = refl
unheld held (Some bytes) e = ap (λ (front : List ℕ). Some (front ++ bytes)) e

abbrev reading_at : List ℕ → Option (List ℕ) → List Dictionary → ℕ → ℕ → StreamMetadata → Option (List ℕ) → Reading
reading_at held left standing row failures metadata columns = record {
  spot = record { left = prepend_known held left; standing = standing; in_a_row = row };
  failures = failures;
  metadata = metadata;
  columns = columns;
  is_finished = false;
}

pub made : (left : Option (List ℕ)) (failures : ℕ) (metadata : StreamMetadata) (kept columns : Option (List ℕ)) (held : List ℕ)
    (dictionaries : BTreeMap ℤ Column) (row : ℕ) → kept ≡ columns → held ≡ [] → dictionaries.entries ≡ [] → row ≡ 0
    → Opens left failures metadata columns (Ok (reading_at held left (standing_in dictionaries) row failures metadata kept))
made left failures metadata kept columns held dictionaries row same nothing empty zero = λ i. record {
  spot = record { left = unheld held left nothing i; standing = map dictionary_of (empty i); in_a_row = zero i };
  failures = failures;
  metadata = metadata;
  columns = same i;
  is_finished = false;
}

-- columns may be asked for of the one form of a schema as of the schema
pub asked_of_normal : (schema normal : Schema) (columns : Option (List ℕ)) → normal ≡ normalised schema → IsAsked (length schema.fields) columns
    → IsAsked (length normal.fields) columns
unfolding normalised
asked_of_normal schema normal columns is asked =
    let same : length normal.fields ≡ length schema.fields = ap (λ (it : Schema). length it.fields) is ∙ length-map schema.fields _ in
    subst (λ (width : ℕ). IsAsked width columns) (sym same) asked

-- the schema of what is kept
pub schema_kept : (schema normal : Schema) (columns : Option (List ℕ)) (found : Option Asked × Schema) → normal ≡ normalised schema
    → IsAskedOf normal columns found → found.1 ≡ asked_schema (asked_of found.0) schema
schema_kept schema normal columns found is kept =
    kept.schema ∙ ap (λ (asked : Option (List ℕ)). record normal { fields = asked_fields asked normal.fields }) (sym kept.same)
    ∙ ap (λ (it : Schema). record it { fields = asked_fields (asked_of found.0) it.fields }) is

-- ---- what a reader answers

-- one that has ended
pub ended : (in_memory : Bool) (reading : Reading) → reading.is_finished ≡ true → NextGives in_memory reading None reading
ended in_memory reading is = (refl, refl, subst (λ (b : Bool). Answers in_memory b reading reading None) (sym is) (refl, refl))

-- one that has not
pub goes_on : (in_memory : Bool) (old new : Reading) (result : Option (Result StreamState Error)) → new.metadata ≡ old.metadata
    → new.columns ≡ old.columns → old.is_finished ≡ false → Answers in_memory false old new result → NextGives in_memory old result new
goes_on in_memory old new result same columns is answers =
    (same, columns, subst (λ (b : Bool). Answers in_memory b old new result) (sym is) answers)

-- a device's refusal says nothing of the bytes
device_refused : (in_memory : Bool) (old new : Reading) (error : Error) → IsRefusedRead in_memory old.failures new.failures error
    → Refuses in_memory old new error
device_refused in_memory old new (errors.Io what) why = why
device_refused in_memory old new (errors.OutOfSpec text) why = inl why
device_refused in_memory old new errors.OutOfMemory why = tt
device_refused true old new _ why = absurd why
device_refused false old new _ why = absurd why

-- each refusal by its name
named : (in_memory : Bool) (old new : Reading) (error answered : Error) → Takes old new (Err error)
    → IsReadRefusal error in_memory old.failures new.failures answered → Refuses in_memory old new answered
named in_memory old new (errors.Io what) answered takes is = device_refused in_memory old new answered is
named in_memory old new (errors.OutOfSpec text) answered takes is = subst (λ (e : Error). Refuses in_memory old new e) (sym is) (inr takes)
named in_memory old new (errors.NotYetImplemented text) answered takes is = subst (λ (e : Error). Refuses in_memory old new e) (sym is) takes
named in_memory old new errors.OutOfMemory answered takes is = subst (λ (e : Error). Refuses in_memory old new e) (sym is) tt
named in_memory old new _ answered takes is = absurd takes

-- what is answered of a turn, by the device's count
pub told_of_turn : (in_memory : Bool) (old new : Reading) (found answered : Result (Option StreamState) Error) → Takes old new found
    → IsReadOutcome found in_memory old.failures new.failures answered → TakesUnfailed in_memory old new answered
told_of_turn in_memory old new (Ok found) (Ok same) takes told =
    (told.1, subst (λ (it : Option StreamState). Takes old new (Ok it)) (sym told.0) takes)
told_of_turn in_memory old new (Ok found) (Err error) takes told = device_refused in_memory old new error told.0
told_of_turn in_memory old new (Err error) (Ok same) takes told = absurd told
told_of_turn in_memory old new (Err error) (Err answered) takes told = named in_memory old new error answered takes told
