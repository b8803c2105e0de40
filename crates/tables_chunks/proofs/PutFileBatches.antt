-- The messages of a table's file, put one after another, and where they stand.
use Rattle.std.proofs.Common.{◌≡◌, ◌∙◌, ℕ, ◌+◌, ◌<◌, ◌≤◌, ℤ, Bool, true, false, List, [], ◌∷◌, ◌++◌, length, take, drop, get_or, refl, sym, ap}
use Rattle.std.proofs.Common.{subst, inl, inr, append_assoc}
use Rattle.std.specs.Prelude.{◌&&◌, Option, Result, Ok, Err, if◌then◌else◌}
use Rattle.std.specs.List.{list_all}
use Rattle.std.specs.Io.KnownBytes.{Appends}
use Rattle.std.proofs.Math.Nat.{add-zero}
use Rattle.std.proofs.lemmas.Bool.{and_from}
use Rattle.std.proofs.lemmas.Grind.{flat_map-append}
use Rattle.std.proofs.lemmas.List.{append-nil, take-append-drop}
use Rattle.std.proofs.lemmas.List.Folds.{list_all-append}
use Rattle.columnar_memory_types.specs.Error.{IsIo}
use Rattle.ipc_format.specs.columnar_memory.declared.Error.{Error}
use Rattle.ipc_format.specs.columnar_memory.declared.Error.TheVariants as errors
use Rattle.ipc_format.specs.columnar_memory.declared.Schema.{Schema}
use Rattle.ipc_format.specs.columns.StoredColumns.{Column}
use Rattle.ipc_format.specs.grammar.Limits.{file_limit}
use Rattle.ipc_format.specs.BlockPlacing.{joined_blocks, no_blocks, place_behind}
use Rattle.ipc_format.specs.EncodedChunks.{Encodes, IsBarred, IsEncoded, is_batch_within}
use Rattle.ipc_format.specs.FileRuns.{told_with}
use Rattle.ipc_format.specs.GivenDictionaries.{Given, last_under, stands_for, written_after}
use Rattle.ipc_format.specs.Tracking.{Tells, form_by, told_by}
use Rattle.ipc_format.specs.WriterRuns.{may_tell}
use Rattle.ipc_format.specs.WrittenFiles.{all_given, batch_blocks, is_first_or_same, none_replaced}
use Rattle.ipc_format.specs.WrittenMessages.{Written, fits_limit, message_bytes}
use Rattle.ipc_format.specs.WrittenStreams.{Batch, batch_messages, batch_of_stored, bytes_of_messages, messages_after}
use Rattle.ipc_format.specs.streams.Devices.{AppendsBeginning, Puts}
use Rattle.ipc_format.proofs.Appending.{appends_both, appends_nothing, begins_behind}
use Rattle.ipc_format.proofs.Appending.{begins_first, begins_nothing, begins_same}
use Rattle.ipc_format.proofs.FileAdded.{message_blocks}
use Rattle.ipc_format.proofs.FilePlaced.{place_both}
use Rattle.ipc_format.proofs.FileRunBytes.{blocks_more}
use Rattle.ipc_format.proofs.PutMessages.{bytes_behind}
use Rattle.ipc_format.proofs.StoredGivenLists.{by_answer}
use Rattle.tables_chunks.specs.WrittenFiles.{AppendsNone, AreFilePut, FilePlaces, IsFilePast, IsFilePut, PlacesMessages, PutsFileAfter}
use Rattle.tables_chunks.specs.WrittenFiles.{PutsFileBatch, ReplacesOne, StopsAmongFile, IsFileRefusal}
use Rattle.tables_chunks.specs.WrittenTables.{are_within, table_ids, told_after, written_batches}
use Rattle.tables_chunks.proofs.FileRefused.{file_io, file_refused_by}
use Rattle.tables_chunks.proofs.PutBatches.{own_fits, sent_fit}
use Rattle.tables_chunks.proofs.PutTables.{batches_append, bytes_more, bytes_parts, messages_append, more_taken, told_append, within_append}

-- ---- dictionaries that are told one after another

told_apart : (told xs ys : List Given) → written_after told (xs ++ ys) ≡ written_after (written_after told xs) ys
told_apart told [] ys = refl
told_apart told (x ∷ xs) ys =
    by_answer (λ (answer : Bool). (if answer then written_after told (xs ++ ys) else written_after (x ∷ told) (xs ++ ys))
    ≡ written_after (if answer then written_after told xs else written_after (x ∷ told) xs) ys) (stands_for x (last_under x.id told))
    (λ is. told_apart told xs ys) (λ is. told_apart (x ∷ told) xs ys)

and_joined : (a b c : Bool) → (a && (b && c)) ≡ ((a && b) && c)
and_joined true b c = refl
and_joined false b c = refl

-- none of some dictionaries is replaced, where none of the first ones is and none of the others behind them
none_append : (told xs ys : List Given) → none_replaced told (xs ++ ys) ≡ (none_replaced told xs && none_replaced (written_after told xs) ys)
none_append told [] ys = refl
none_append told (x ∷ xs) ys =
    let now = written_after told (x ∷ []) in
    ap (λ (b : Bool). is_first_or_same told x && b) (none_append now xs ys)
    ∙ and_joined (is_first_or_same told x) (none_replaced now xs) (none_replaced (written_after now xs) ys)
    ∙ ap (λ (them : List Given). (is_first_or_same told x && none_replaced now xs) && none_replaced them ys) (sym (told_apart told (x ∷ []) xs))

-- what is told of batches is told of all their dictionaries
told_all : (told : List Given) (batches : List Batch) → told_after told batches ≡ written_after told (all_given batches)
told_all told [] = refl
told_all told (batch ∷ batches) =
    told_all (written_after told batch.given) batches ∙ sym (told_apart told batch.given (all_given batches))

told_same : (told : List Given) (batches : List Batch) → told_with told batches ≡ told_after told batches
told_same told [] = refl
told_same told (batch ∷ batches) = told_same (written_after told batch.given) batches

-- one batch more
once_more : (done : List Batch) (batch : Batch) → none_replaced [] (all_given done) ≡ true → none_replaced (told_after [] done) batch.given ≡ true
    → none_replaced [] (all_given (done ++ batch ∷ [])) ≡ true
once_more done batch first next =
    let given : Batch → List Given = λ (one : Batch). one.given in
    let all : all_given (done ++ batch ∷ []) ≡ all_given done ++ batch.given =
    flat_map-append given done (batch ∷ []) ∙ ap (λ (them : List Given). all_given done ++ them) (append-nil batch.given) in
    ap (none_replaced []) all ∙ none_append [] (all_given done) batch.given
    ∙ and_from (none_replaced [] (all_given done)) (none_replaced (written_after [] (all_given done)) batch.given) first
    (ap (λ (them : List Given). none_replaced them batch.given) (sym (told_all [] done)) ∙ next)

messages_one : (done : List Batch) (batch : Batch)
    → messages_after [] (done ++ batch ∷ []) ≡ messages_after [] done ++ batch_messages (told_after [] done) batch
messages_one done batch =
    messages_append [] done (batch ∷ [])
    ∙ ap (λ (them : List Written). messages_after [] done ++ them) (append-nil (batch_messages (told_after [] done) batch))

-- ---- one batch

-- the messages of a batch that is encoded
all_sent : (before after : List (ℤ × Column) × Bool) (told : List Given) (batch : Batch) (messages : List Written) (own : Written)
    → IsEncoded before after told batch messages own → messages ++ own ∷ [] ≡ batch_messages told batch
all_sent before after told batch messages own is = λ j. is.sent j ++ is.own j ∷ []

sent_bytes : (before after : List (ℤ × Column) × Bool) (told : List Given) (batch : Batch) (messages : List Written) (own : Written)
    → IsEncoded before after told batch messages own → bytes_of_messages messages ++ message_bytes own ≡ bytes_of_messages (batch_messages told batch)
sent_bytes before after told batch messages own is =
    bytes_behind messages own ∙ ap bytes_of_messages (all_sent before after told batch messages own is)

-- all of them fit their limits
pub both_fit : (before after : List (ℤ × Column) × Bool) (batch : Batch) (messages : List Written) (own : Written)
    → Encodes before after batch (Ok messages) own → list_all fits_limit (messages ++ own ∷ []) ≡ true
both_fit before after batch messages own encodes =
    list_all-append fits_limit messages (own ∷ [])
    ∙ and_from (list_all fits_limit messages) (fits_limit own && true) (sent_fit before after batch messages own encodes)
    (and_from (fits_limit own) true (own_fits before after batch messages own encodes) refl)

-- it isn't encoded
pub file_unencoded : (error : Error) (contents : Option (List ℕ)) (before after new : List (ℤ × Column) × Bool) (p q : FilePlaces) (batch : Batch)
    (own : Written) → Encodes before after batch (Err error) own → PutsFileBatch (Err error) contents contents before new p q batch
file_unencoded error contents before after new p q batch own encodes told tells kind =
    (begins_nothing contents _, why error (encodes told tells).0)
  where
    form : may_tell (form_by before.1) told batch.given ≡ none_replaced told batch.given
    form = ap (λ (b : Bool). may_tell (form_by b) told batch.given) kind

    why : (error : Error) → IsBarred error before.1 told batch → IsFileRefusal (AppendsNone contents contents (IsFilePast told batch p.next))
        (AppendsNone contents contents (ReplacesOne told batch p.next)) error
    why errors.Overflow refused = (inl refused.1, appends_nothing contents)
    why (errors.InvalidArgumentError what) refused = (sym form ∙ refused, appends_nothing contents)
    why errors.OutOfMemory refused = tt
    why (errors.NotYetImplemented what) refused = absurd refused
    why (errors.ExternalFormat what) refused = absurd refused
    why (errors.OutOfSpec what) refused = absurd refused
    why (errors.External from what) refused = absurd refused
    why (errors.Io what) refused = absurd refused

-- it isn't placed
pub file_unplaced : (error : Error) (contents : Option (List ℕ)) (before after : List (ℤ × Column) × Bool) (p q : FilePlaces) (batch : Batch)
    (messages : List Written) (own : Written) → Encodes before after batch (Ok messages) own → PlacesMessages p q messages own (Err error)
    → PutsFileBatch (Err error) contents contents before after p q batch
file_unplaced error contents before after p q batch messages own encodes placed told tells kind =
    (begins_nothing contents _, why error placed)
  where
    why : (error : Error) → PlacesMessages p q messages own (Err error)
        → IsFileRefusal (AppendsNone contents contents (IsFilePast told batch p.next))
        (AppendsNone contents contents (ReplacesOne told batch p.next)) error
    why errors.Overflow refused = (
      inr (subst (λ (them : List Written). file_limit ≤ place_behind p.next them)
          (all_sent before after told batch messages own (encodes told tells)) refused),
      appends_nothing contents,
    )
    why errors.OutOfMemory refused = tt
    why (errors.InvalidArgumentError what) refused = absurd refused
    why (errors.NotYetImplemented what) refused = absurd refused
    why (errors.ExternalFormat what) refused = absurd refused
    why (errors.OutOfSpec what) refused = absurd refused
    why (errors.External from what) refused = absurd refused
    why (errors.Io what) refused = absurd refused

-- the messages of its dictionaries are refused
pub file_sent_refused : (error : Error) (old new : Option (List ℕ)) (before after : List (ℤ × Column) × Bool) (p q : FilePlaces) (batch : Batch)
    (messages : List Written) (own : Written) → Encodes before after batch (Ok messages) own
    → IsIo error × AppendsBeginning old new (bytes_of_messages messages) → PutsFileBatch (Err error) old new before after p q batch
file_sent_refused error old new before after p q batch messages own encodes refused told tells kind = (
  begins_same old new _ _ (sent_bytes before after told batch messages own (encodes told tells))
      (begins_first old new (bytes_of_messages messages) (message_bytes own) refused.1),
  file_io (AppendsNone old new (IsFilePast told batch p.next)) (AppendsNone old new (ReplacesOne told batch p.next)) error refused.0,
)

-- its own message, or a beginning of it, is put behind them
pub file_batch_put : (result : Result (Unit {0}) Error) (old between new : Option (List ℕ)) (before after : List (ℤ × Column) × Bool)
    (p q : FilePlaces) (batch : Batch) (messages : List Written) (own : Written) → Encodes before after batch (Ok messages) own
    → PlacesMessages p q messages own (Ok tt) → Appends old between (bytes_of_messages messages) → Puts result between new (message_bytes own)
    → PutsFileBatch result old new before after p q batch
file_batch_put (Ok _) old between new before after p q batch messages own encodes placed first put told tells kind =
    let is = encodes told tells in
    let all = all_sent before after told batch messages own is in
    record {
      within = is.within;
      once = sym (ap (λ (b : Bool). may_tell (form_by b) told batch.given) kind) ∙ is.may;
      written = subst (λ (bytes : List ℕ). Appends old new bytes) (sent_bytes before after told batch messages own is)
          (appends_both old between new (bytes_of_messages messages) (message_bytes own) first put);
      tells = is.tells;
      kind = is.kind ∙ kind;
      next = placed.0 ∙ ap (place_behind p.next) all;
      blocks = placed.1 ∙ ap (joined_blocks p.blocks) (message_blocks p.next told batch messages own all);
    }
file_batch_put (Err error) old between new before after p q batch messages own encodes placed first put told tells kind = (
  begins_same old new _ _ (sent_bytes before after told batch messages own (encodes told tells))
      (begins_behind old between new (bytes_of_messages messages) (message_bytes own) first put.1),
  file_io (AppendsNone old new (IsFilePast told batch p.next)) (AppendsNone old new (ReplacesOne told batch p.next)) error put.0,
)

-- ---- batches one after another

-- some batches are put, and their dictionaries are told
pub record FilePutTold (first : ℕ) (old new : Option (List ℕ)) (entries : List (ℤ × Column) × Bool) (places : FilePlaces) (batches : List Batch)
    : Type 0 where
  pub put : AreFilePut first old new places batches
  pub tells : Tells entries.0 (told_after [] batches)
  pub kind : entries.1 ≡ true

-- nothing is put yet
none_file_put : (first : ℕ) (contents : Option (List ℕ)) (entries : List (ℤ × Column) × Bool) (places : FilePlaces) → entries ≡ ([], true)
    → places.next ≡ first → places.blocks ≡ no_blocks → FilePutTold first contents contents entries places []
none_file_put first contents entries places same at none = record {
  put = record {
    within = refl;
    once = refl;
    written = appends_nothing contents;
    next = at ∙ sym (add-zero first);
    blocks = none;
  };
  tells = λ id. ap (λ (it : List (ℤ × Column) × Bool). last_under id (told_by it.0)) same;
  kind = ap (λ (it : List (ℤ × Column) × Bool). it.1) same;
}

-- one batch more
one_file_put : (first : ℕ) (old between new : Option (List ℕ)) (before after : List (ℤ × Column) × Bool) (p q : FilePlaces) (done : List Batch)
    (batch : Batch) → FilePutTold first old between before p done → IsFilePut between new after p q (told_after [] done) batch
    → FilePutTold first old new after q (done ++ batch ∷ [])
one_file_put first old between new before after p q done batch so_far more =
    let told = told_after [] done in
    let placed = batch_messages told batch in
    record {
      put = record {
        within = within_append [] done (batch ∷ [])
            ∙ and_from (are_within [] done) (is_batch_within told batch && true) so_far.put.within
            (and_from (is_batch_within told batch) true more.within refl);
        once = once_more done batch so_far.put.once more.once;
        written = subst (λ (bytes : List ℕ). Appends old new bytes) (sym (bytes_more done batch))
            (appends_both old between new (bytes_of_messages (messages_after [] done)) (bytes_of_messages placed) so_far.put.written more.written);
        next = more.next ∙ ap (λ (n : ℕ). place_behind n placed) so_far.put.next ∙ sym (place_both first (messages_after [] done) placed)
            ∙ ap (place_behind first) (sym (messages_one done batch));
        blocks = more.blocks
            ∙ (λ j. joined_blocks (so_far.put.blocks j) (batch_blocks (so_far.put.next j) (sym (told_same [] done) j) (batch ∷ [])))
            ∙ sym (blocks_more first [] done batch);
      };
      tells = subst (Tells after.0) (sym (told_append [] done (batch ∷ []))) more.tells;
      kind = more.kind;
    }

-- ---- batches of a table

-- some first batches of a table are put
abbrev pub FirstFilePut : ℕ → Option (List ℕ) → Option (List ℕ) → List (ℤ × Column) × Bool → FilePlaces → Schema → List (List Column) → ℕ → Type 0
FirstFilePut first old new entries places schema batches i = FilePutTold first old new entries places (written_batches schema (take i batches))

pub first_file_put : (first : ℕ) (contents : Option (List ℕ)) (entries : List (ℤ × Column) × Bool) (places : FilePlaces) (schema : Schema)
    (batches : List (List Column)) → entries ≡ ([], true) → places.next ≡ first → places.blocks ≡ no_blocks
    → FirstFilePut first contents contents entries places schema batches 0
first_file_put first contents entries places schema batches same at none = none_file_put first contents entries places same at none

pub next_file_put : (first : ℕ) (old between new : Option (List ℕ)) (before after : List (ℤ × Column) × Bool) (p q : FilePlaces) (schema : Schema)
    (batches : List (List Column)) (i : ℕ) (batch : List Column) (written : Batch) → i < length batches → get_or batches i batch ≡ batch
    → written ≡ batch_of_stored (table_ids schema) batch → FirstFilePut first old between before p schema batches i
    → PutsFileBatch (Ok tt) between new before after p q written → FirstFilePut first old new after q schema batches (i + 1)
next_file_put first old between new before after p q schema batches i batch written inside here same so_far put =
    let done = written_batches schema (take i batches) in
    let more = put (told_after [] done) so_far.tells so_far.kind in
    let all : done ++ written ∷ [] ≡ written_batches schema (take (i + 1) batches) =
    ap (λ (b : Batch). done ++ b ∷ []) same ∙ sym (batches_append schema (take i batches) (batch ∷ []))
    ∙ sym (ap (written_batches schema) (more_taken batches i batch inside here)) in
    subst (λ (them : List Batch). FilePutTold first old new after q them) all
    (one_file_put first old between new before after p q done written so_far more)

-- nothing more is put behind some first batches, for a reason
stops_among : (Why : List Given → Batch → ℕ → Type 0) (first : ℕ) (old between new : Option (List ℕ)) (places : FilePlaces) (schema : Schema)
    (batches some rest : List (List Column)) (batch : List Column) → batches ≡ some ++ batch ∷ rest
    → AreFilePut first old between places (written_batches schema some)
    → AppendsNone between new (Why (told_after [] (written_batches schema some)) (batch_of_stored (table_ids schema) batch) places.next)
    → StopsAmongFile Why first old new schema batches
stops_among Why first old between new places schema batches some rest batch split put stops =
    let done = written_batches schema some in
    let bytes = bytes_of_messages (messages_after [] done) in
    record {
      before = some;
      batch = batch;
      after = rest;
      split = split;
      within = put.within;
      why = subst (Why (told_after [] done) (batch_of_stored (table_ids schema) batch)) put.next stops.0;
      written = subst (λ (them : List ℕ). Appends old new them) (append-nil bytes) (appends_both old between new bytes [] put.written stops.1);
    }

-- what is told of a refusal among batches
abbrev pub FileRefusedAmong : Error → ℕ → Option (List ℕ) → Option (List ℕ) → Schema → List (List Column) → Type 0
FileRefusedAmong error first old new schema batches =
    AppendsBeginning old new (bytes_of_messages (messages_after [] (written_batches schema batches)))
    × IsFileRefusal (StopsAmongFile IsFilePast first old new schema batches) (StopsAmongFile ReplacesOne first old new schema batches) error

-- a batch of a table is refused behind some first ones
pub next_file_refused : (error : Error) (first : ℕ) (old between new : Option (List ℕ)) (before after : List (ℤ × Column) × Bool) (p q : FilePlaces)
    (schema : Schema) (batches : List (List Column)) (i : ℕ) (batch : List Column) (written : Batch) → i < length batches
    → get_or batches i batch ≡ batch → written ≡ batch_of_stored (table_ids schema) batch → FirstFilePut first old between before p schema batches i
    → PutsFileBatch (Err error) between new before after p q written → FileRefusedAmong error first old new schema batches
next_file_refused error first old between new before after p q schema batches i batch written inside here same so_far put =
    let some = take i batches in
    let rest = drop (i + 1) batches in
    let done = written_batches schema some in
    let own = batch_of_stored (table_ids schema) batch in
    let told = told_after [] done in
    let refused = subst (λ (b : Batch). PutsFileAfter (Err error) between new after p q told b) same (put told so_far.tells so_far.kind) in
    let split : batches ≡ some ++ batch ∷ rest =
    sym (take-append-drop (i + 1) batches) ∙ ap (λ (front : List (List Column)). front ++ rest) (more_taken batches i batch inside here)
    ∙ append_assoc some (batch ∷ []) rest in
    let more = bytes_of_messages (messages_after (told_after [] (written_batches schema (some ++ batch ∷ []))) (written_batches schema rest)) in
    let begins = begins_behind old between new (bytes_of_messages (messages_after [] done)) (bytes_of_messages (batch_messages told own) ++ more)
    so_far.put.written (begins_first between new (bytes_of_messages (batch_messages told own)) more refused.0) in
    let all = bytes_parts schema some rest batch
    ∙ sym (ap (λ (them : List (List Column)). bytes_of_messages (messages_after [] (written_batches schema them))) split) in (
      begins_same old new _ _ all begins,
      file_refused_by error (stops_among IsFilePast first old between new p schema batches some rest batch split so_far.put)
          (stops_among ReplacesOne first old between new p schema batches some rest batch split so_far.put) refused.1,
    )

-- all batches are put
pub all_file_put : (first : ℕ) (old new : Option (List ℕ)) (entries : List (ℤ × Column) × Bool) (places : FilePlaces) (schema : Schema)
    (batches : List (List Column)) (i : ℕ) → take i batches ≡ batches → FirstFilePut first old new entries places schema batches i
    → AreFilePut first old new places (written_batches schema batches)
all_file_put first old new entries places schema batches i all so_far =
    (subst (λ (some : List (List Column)). FilePutTold first old new entries places (written_batches schema some)) all so_far).put
