-- The messages of a table's stream, put one after another.
use Rattle.std.proofs.Common.{◌≡◌, ◌∙◌, ℕ, ◌+◌, ◌<◌, ℤ, Bool, true, false, ◌&&◌, List, [], ◌∷◌, ◌++◌, length, take, drop, get_or, refl, sym, ap}
use Rattle.std.proofs.Common.{subst, inl, inr, append_assoc}
use Rattle.std.specs.Prelude.{Option, Result, Ok, Err}
use Rattle.std.specs.Io.KnownBytes.{Appends}
use Rattle.std.proofs.lemmas.Bool.{and_from}
use Rattle.std.proofs.lemmas.Grind.{flat_map-append, take_at_read}
use Rattle.std.proofs.lemmas.List.{append-nil, map-append, take-append-drop}
use Rattle.columnar_memory_types.specs.Error.{IsOutOfMemory}
use Rattle.ipc_format.specs.columnar_memory.declared.Error.{Error}
use Rattle.ipc_format.specs.columnar_memory.declared.Schema.{Schema}
use Rattle.ipc_format.specs.columns.StoredColumns.{Column}
use Rattle.ipc_format.specs.GivenDictionaries.{Given, last_under, written_after}
use Rattle.ipc_format.specs.WrittenMessages.{Written, end_mark, fits_limit, message_bytes, schema_written}
use Rattle.ipc_format.specs.WrittenStreams.{Batch, batch_messages, batch_of_stored, bytes_of_messages, messages_after}
use Rattle.ipc_format.specs.WrittenStreams.{stream_bytes, stream_messages}
use Rattle.ipc_format.specs.EncodedChunks.{is_batch_within}
use Rattle.ipc_format.specs.Tracking.{Tells, told_by}
use Rattle.ipc_format.specs.streams.Devices.{Puts}
use Rattle.ipc_format.proofs.Appending.{appends_both, appends_nothing, begins_behind}
use Rattle.ipc_format.proofs.Appending.{begins_first, begins_nothing, begins_same}
use Rattle.tables_chunks.specs.PutMessages.{ArePut, IsPast, IsPut, PutsAfter, PutsBatch, PutsBatches, PutsSchema, StopsAmong}
use Rattle.tables_chunks.specs.Refusals.{PutsTable, StopsAtSchema, StopsAtTooLong}
use Rattle.tables_chunks.specs.WrittenTables.{are_within, table_bytes, table_ids, table_messages, told_after, written_batches}
use Rattle.tables_chunks.proofs.RefusedWrites.{io_refused, memory_refused, refused_by}

-- ---- batches behind one another

pub told_append : (told : List Given) (xs ys : List Batch) → told_after told (xs ++ ys) ≡ told_after (told_after told xs) ys
told_append told [] ys = refl
told_append told (x ∷ xs) ys = told_append (written_after told x.given) xs ys

and_joined : (a b c : Bool) → (a && (b && c)) ≡ ((a && b) && c)
and_joined true b c = refl
and_joined false b c = refl

pub within_append : (told : List Given) (xs ys : List Batch)
    → are_within told (xs ++ ys) ≡ (are_within told xs && are_within (told_after told xs) ys)
within_append told [] ys = refl
within_append told (x ∷ xs) ys =
    let after = written_after told x.given in
    ap (λ (b : Bool). is_batch_within told x && b) (within_append after xs ys)
    ∙ and_joined (is_batch_within told x) (are_within after xs) (are_within (told_after after xs) ys)

pub messages_append : (told : List Given) (xs ys : List Batch)
    → messages_after told (xs ++ ys) ≡ messages_after told xs ++ messages_after (told_after told xs) ys
messages_append told [] ys = refl
messages_append told (x ∷ xs) ys =
    let after = written_after told x.given in
    ap (λ (others : List Written). batch_messages told x ++ others) (messages_append after xs ys)
    ∙ sym (append_assoc (batch_messages told x) (messages_after after xs) (messages_after (told_after after xs) ys))

pub bytes_append : (xs ys : List Written) → bytes_of_messages (xs ++ ys) ≡ bytes_of_messages xs ++ bytes_of_messages ys
bytes_append xs ys = flat_map-append message_bytes xs ys

-- the bytes of one batch more
pub bytes_more : (done : List Batch) (batch : Batch)
    → bytes_of_messages (messages_after [] (done ++ batch ∷ []))
    ≡ bytes_of_messages (messages_after [] done) ++ bytes_of_messages (batch_messages (told_after [] done) batch)
bytes_more done batch =
    let told = told_after [] done in
    ap bytes_of_messages (messages_append [] done (batch ∷ [])) ∙ bytes_append (messages_after [] done) (batch_messages told batch ++ [])
    ∙ ap (λ (messages : List Written). bytes_of_messages (messages_after [] done) ++ bytes_of_messages messages)
    (append-nil (batch_messages told batch))

-- nothing is put yet
pub none_put : (contents : Option (List ℕ)) (entries : List (ℤ × Column) × Bool) → entries ≡ ([], false) → ArePut contents contents entries []
none_put contents entries same = record {
  within = refl;
  written = appends_nothing contents;
  tells = λ id. ap (λ (it : List (ℤ × Column) × Bool). last_under id (told_by it.0)) same;
  kind = ap (λ (it : List (ℤ × Column) × Bool). it.1) same;
}

-- one batch more
pub one_put : (old between new : Option (List ℕ)) (before after : List (ℤ × Column) × Bool) (done : List Batch) (batch : Batch)
    → ArePut old between before done → IsPut between new after (told_after [] done) batch → ArePut old new after (done ++ batch ∷ [])
one_put old between new before after done batch first next =
    let told = told_after [] done in
    record {
      within = within_append [] done (batch ∷ [])
          ∙ and_from (are_within [] done) (is_batch_within told batch && true) first.within
          (and_from (is_batch_within told batch) true next.within refl);
      written = subst (λ (bytes : List ℕ). Appends old new bytes) (sym (bytes_more done batch))
          (appends_both old between new (bytes_of_messages (messages_after [] done)) (bytes_of_messages (batch_messages told batch))
          first.written next.written);
      tells = subst (Tells after.0) (sym (told_append [] done (batch ∷ []))) next.tells;
      kind = next.kind;
    }

-- ---- batches of a table

pub batches_append : (schema : Schema) (xs ys : List (List Column))
    → written_batches schema (xs ++ ys) ≡ written_batches schema xs ++ written_batches schema ys
batches_append schema xs ys = map-append (batch_of_stored (table_ids schema)) xs ys

pub more_taken : (batches : List (List Column)) (i : ℕ) (batch : List Column) → i < length batches → get_or batches i batch ≡ batch
    → take (i + 1) batches ≡ take i batches ++ batch ∷ []
more_taken batches i batch inside here =
    (take_at_read batches i batch inside).1 ∙ ap (λ (b : List Column). take i batches ++ b ∷ []) here

-- some first batches of a table are put
abbrev pub FirstPut : Option (List ℕ) → Option (List ℕ) → List (ℤ × Column) × Bool → Schema → List (List Column) → ℕ → Type 0
FirstPut old new entries schema batches i = ArePut old new entries (written_batches schema (take i batches))

pub next_put : (old between new : Option (List ℕ)) (before after : List (ℤ × Column) × Bool) (schema : Schema) (batches : List (List Column))
    (i : ℕ) (batch : List Column) (written : Batch) → i < length batches → get_or batches i batch ≡ batch
    → written ≡ batch_of_stored (table_ids schema) batch → FirstPut old between before schema batches i
    → PutsBatch (Ok tt) between new before after written → FirstPut old new after schema batches (i + 1)
next_put old between new before after schema batches i batch written inside here same first put =
    let done = written_batches schema (take i batches) in
    let next = put (told_after [] done) first.tells first.kind in
    let all : done ++ written ∷ [] ≡ written_batches schema (take (i + 1) batches) =
    ap (λ (b : Batch). done ++ b ∷ []) same ∙ sym (batches_append schema (take i batches) (batch ∷ []))
    ∙ sym (ap (written_batches schema) (more_taken batches i batch inside here)) in
    subst (λ (them : List Batch). ArePut old new after them) all (one_put old between new before after done written first next)

-- the bytes of a table's batches by one of them
pub bytes_parts : (schema : Schema) (before after : List (List Column)) (batch : List Column)
    → bytes_of_messages (messages_after [] (written_batches schema before))
    ++ (bytes_of_messages (batch_messages (told_after [] (written_batches schema before)) (batch_of_stored (table_ids schema) batch))
    ++ bytes_of_messages (messages_after (told_after [] (written_batches schema (before ++ batch ∷ []))) (written_batches schema after)))
    ≡ bytes_of_messages (messages_after [] (written_batches schema (before ++ batch ∷ after)))
bytes_parts schema before after batch =
    let done = written_batches schema before in
    let rest = written_batches schema after in
    let own = batch_of_stored (table_ids schema) batch in
    let told = told_after [] done in
    let now : told_after [] (written_batches schema (before ++ batch ∷ [])) ≡ written_after told own.given =
    ap (told_after []) (batches_append schema before (batch ∷ [])) ∙ told_append [] done (own ∷ []) in
    ap (λ (them : List Given). bytes_of_messages (messages_after [] done)
    ++ (bytes_of_messages (batch_messages told own) ++ bytes_of_messages (messages_after them rest))) now
    ∙ ap (λ (bytes : List ℕ). bytes_of_messages (messages_after [] done) ++ bytes)
    (sym (bytes_append (batch_messages told own) (messages_after (written_after told own.given) rest)))
    ∙ sym (bytes_append (messages_after [] done) (messages_after told (own ∷ rest)))
    ∙ sym (ap bytes_of_messages (messages_append [] done (own ∷ rest)))
    ∙ sym (ap (λ (them : List Batch). bytes_of_messages (messages_after [] them)) (batches_append schema before (batch ∷ after)))

-- a batch of a table is refused behind some first ones
pub next_refused : (error : Error) (old between new : Option (List ℕ)) (before after : List (ℤ × Column) × Bool) (schema : Schema)
    (batches : List (List Column)) (i : ℕ) (batch : List Column) (written : Batch) → i < length batches → get_or batches i batch ≡ batch
    → written ≡ batch_of_stored (table_ids schema) batch → FirstPut old between before schema batches i
    → PutsBatch (Err error) between new before after written → PutsBatches (Err error) old new schema batches
next_refused error old between new before after schema batches i batch written inside here same first put =
    let some = take i batches in
    let rest = drop (i + 1) batches in
    let done = written_batches schema some in
    let own = batch_of_stored (table_ids schema) batch in
    let told = told_after [] done in
    let refused = subst (λ (b : Batch). PutsAfter (Err error) between new after told b) same (put told first.tells first.kind) in
    let split : batches ≡ some ++ batch ∷ rest =
    sym (take-append-drop (i + 1) batches) ∙ ap (λ (front : List (List Column)). front ++ rest) (more_taken batches i batch inside here)
    ∙ append_assoc some (batch ∷ []) rest in
    let more = bytes_of_messages (messages_after (told_after [] (written_batches schema (some ++ batch ∷ []))) (written_batches schema rest)) in
    let begins = begins_behind old between new (bytes_of_messages (messages_after [] done)) (bytes_of_messages (batch_messages told own) ++ more)
    first.written (begins_first between new (bytes_of_messages (batch_messages told own)) more refused.0) in
    let all = bytes_parts schema some rest batch
    ∙ sym (ap (λ (them : List (List Column)). bytes_of_messages (messages_after [] (written_batches schema them))) split) in (
      begins_same old new _ _ all begins,
      refused_by error (λ (past : IsPast between new told own). record {
        before = some;
        batch = batch;
        after = rest;
        split = split;
        within = first.within;
        past = past.past;
        written = subst (λ (bytes : List ℕ). Appends old new bytes) (append-nil (bytes_of_messages (messages_after [] done)))
            (appends_both old between new (bytes_of_messages (messages_after [] done)) [] first.written past.written);
      }) refused.1,
    )

-- all batches are put
pub all_put : (old new : Option (List ℕ)) (entries : List (ℤ × Column) × Bool) (schema : Schema) (batches : List (List Column)) (i : ℕ)
    → take i batches ≡ batches → FirstPut old new entries schema batches i → PutsBatches (Ok tt) old new schema batches
all_put old new entries schema batches i all first =
    let they = subst (λ (some : List (List Column)). ArePut old new entries (written_batches schema some)) all first in
    (they.within, they.written)

-- ---- the whole stream

-- the bytes of a table's stream: the schema's message, those of the batches, and the end mark
stream_parts : (schema : Schema) (batches : List (List Column))
    → table_bytes schema batches
    ≡ (message_bytes (schema_written schema (table_ids schema)) ++ bytes_of_messages (messages_after [] (written_batches schema batches)))
    ++ end_mark
unfolding stream_bytes stream_messages
stream_parts schema batches = refl

message_parts : (schema : Schema) (batches : List (List Column))
    → bytes_of_messages (table_messages schema batches)
    ≡ message_bytes (schema_written schema (table_ids schema)) ++ bytes_of_messages (messages_after [] (written_batches schema batches))
unfolding stream_messages
message_parts schema batches = refl

-- there was no memory for the ids
pub ids_stopped : (error : Error) (contents : Option (List ℕ)) (schema : Schema) (batches : List (List Column)) → IsOutOfMemory error
    → PutsTable (Err error) contents contents schema batches
ids_stopped error contents schema batches refused = (
  begins_nothing contents (table_bytes schema batches),
  memory_refused (StopsAtTooLong contents contents schema batches) error refused,
)

-- the schema's message is refused
pub schema_stopped : (error : Error) (old new : Option (List ℕ)) (schema : Schema) (batches : List (List Column))
    → PutsSchema (Err error) old new schema → PutsTable (Err error) old new schema batches
schema_stopped error old new schema batches refused =
    let first = message_bytes (schema_written schema (table_ids schema)) in
    let others = bytes_of_messages (messages_after [] (written_batches schema batches)) in (
      begins_same old new _ _ (sym (stream_parts schema batches))
          (begins_first old new (first ++ others) end_mark (begins_first old new first others refused.0)),
      refused_by error (λ (stops : StopsAtSchema old new schema). inl stops) refused.1,
    )

-- the batches are refused behind the schema's message
pub batches_stopped : (error : Error) (old between new : Option (List ℕ)) (schema : Schema) (batches : List (List Column))
    → PutsSchema (Ok tt) old between schema → PutsBatches (Err error) between new schema batches → PutsTable (Err error) old new schema batches
batches_stopped error old between new schema batches first refused =
    let head = message_bytes (schema_written schema (table_ids schema)) in
    let others = bytes_of_messages (messages_after [] (written_batches schema batches)) in
    let limit = fits_limit (schema_written schema (table_ids schema)) in (
      begins_same old new _ _ (sym (stream_parts schema batches))
          (begins_first old new (head ++ others) end_mark (begins_behind old between new head others first.1 refused.0)),
      refused_by error (λ (stops : StopsAmong between new schema batches). inr (record {
        before = stops.before;
        batch = stops.batch;
        after = stops.after;
        split = stops.split;
        within = and_from limit (are_within [] (written_batches schema stops.before)) first.0 stops.within;
        past = stops.past;
        written = subst (λ (bytes : List ℕ). Appends old new bytes) (sym (message_parts schema stops.before))
            (appends_both old between new head (bytes_of_messages (messages_after [] (written_batches schema stops.before))) first.1 stops.written);
      })) refused.1,
    )

-- the end mark behind all
pub table_ended : (result : Result (Unit {0}) Error) (old between behind new : Option (List ℕ)) (schema : Schema) (batches : List (List Column))
    → PutsSchema (Ok tt) old between schema → PutsBatches (Ok tt) between behind schema batches → Puts result behind new end_mark
    → PutsTable result old new schema batches
table_ended (Ok _) old between behind new schema batches first second mark =
    let head = message_bytes (schema_written schema (table_ids schema)) in
    let others = bytes_of_messages (messages_after [] (written_batches schema batches)) in (
      and_from (fits_limit (schema_written schema (table_ids schema))) (are_within [] (written_batches schema batches)) first.0 second.0,
      subst (λ (bytes : List ℕ). Appends old new bytes) (sym (stream_parts schema batches))
          (appends_both old behind new (head ++ others) end_mark (appends_both old between behind head others first.1 second.1) mark),
    )
table_ended (Err error) old between behind new schema batches first second mark =
    let head = message_bytes (schema_written schema (table_ids schema)) in
    let others = bytes_of_messages (messages_after [] (written_batches schema batches)) in (
      begins_same old new _ _ (sym (stream_parts schema batches))
          (begins_behind old behind new (head ++ others) end_mark (appends_both old between behind head others first.1 second.1) mark.1),
      io_refused (StopsAtTooLong old new schema batches) error mark.0,
    )
