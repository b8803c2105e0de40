-- The messages of a batch: of its dictionaries, and its own.
use Rattle.std.proofs.Common.{◌≡◌, ◌∙◌, ℕ, Bool, true, false, ◌&&◌, List, [], ◌∷◌, ◌++◌, length, map, take, drop, get_or, refl, sym, ap, subst, append_assoc, ◌+◌, ◌<◌}
use Rattle.std.specs.Prelude.{ℤ, pos, Result, Ok, Err, Option}
use Rattle.std.specs.List.{list_all}
use Rattle.std.proofs.lemmas.Bool.{and_from, and_left, and_right}
use Rattle.std.proofs.lemmas.List.{map-append, take-append-drop, take_more}
use Rattle.std.proofs.lemmas.List.Folds.{list_all-append}
use Rattle.ipc_format_batch_reading.proofs.MessageLimits.{dictionary_is, not_placed, not_written, record_is}
use Rattle.ipc_format_batch_reading.proofs.ColumnSizes.{slots_lengths}
use Rattle.ipc_format_batch_reading.specs.Bodies.{IsRefused}
use Rattle.ipc_format_batch_reading.specs.Placing.{IsNotEncoded, IsPlaced, Places, WritesMetadata, batch_of_column, dictionary_of_column}
use Rattle.ipc_format_batch_reading.specs.Placing.{is_within}
use Rattle.columnar_memory_types.specs.Error.{IsOutOfMemory}
use Rattle.ipc_format_batch_reading.specs.columnar_memory.declared.Error.{Error}
use Rattle.ipc_format_batch_reading.specs.columnar_memory.declared.Error.TheVariants as errors
use Rattle.ipc_format_batch_reading.specs.columns.StoredColumns.{Column, column_len, slots}
use Rattle.ipc_format_batch_reading.specs.grammar.Encoding.{Encoded, joined_columns}
use Rattle.ipc_format_batch_reading.specs.grammar.GivenDictionaries.{Given, last_under, to_write, written_after}
use Rattle.ipc_format_batch_reading.specs.grammar.Schemas.{IdsList}
use Rattle.ipc_format_batch_reading.specs.grammar.StoredEncoding.{encode_stored}
use Rattle.ipc_format_batch_reading.specs.grammar.WriterRuns.{may_tell}
use Rattle.ipc_format_batch_reading.specs.grammar.WrittenMessages.{Written, dictionary_message, record_message}
use Rattle.ipc_format_batch_reading.specs.grammar.WrittenStreams.{Batch, batch_of_stored, given_of_stored, rows_of_stored}
use Rattle.ipc_format_chunk_writing.specs.EncodedChunks.{Encodes, EncodesAfter, EncodesDictionaries, EncodesMessage, IsBarred, IsEncoded}
use Rattle.ipc_format_chunk_writing.specs.EncodedChunks.{is_batch_within, is_given_within}
use Rattle.ipc_format_batch_reading.specs.streams.declared.EncodedData.{EncodedData}
use Rattle.ipc_format_chunk_writing.specs.EncodedChunks.{message_in, messages_in}
use Rattle.ipc_format_chunk_writing.specs.Found.{given_in}
use Rattle.ipc_format_chunk_writing.specs.declared.found.Found.{Found}
use Rattle.ipc_format_batch_reading.specs.Chunks.{rows_of}
use Rattle.ipc_format_chunk_writing.specs.Telling.{IsNotTold, IsToldAll, TellsAll}
use Rattle.ipc_format_chunk_writing.specs.Tracking.{Tells, form_by, given_of, told_by}

-- ---- one message

-- a test that a refusal says is past
pub not_both : (error : Error) (a b : Bool) → IsNotEncoded error a → IsNotEncoded error (a && b)
not_both errors.Overflow a b past = and_left a b past
not_both errors.OutOfMemory a b past = tt
not_both _ a b past = absurd past

pub not_second : (error : Error) (a b : Bool) → IsNotEncoded error b → IsNotEncoded error (a && b)
not_second errors.Overflow a b past = and_right a b past
not_second errors.OutOfMemory a b past = tt
not_second _ a b past = absurd past

-- ---- dictionaries

-- one more dictionary is encoded
pub one_encoded : (messages more : List Written) (given : List Given) (next : Given) (message : Written)
    → messages ≡ map dictionary_message given → more ≡ messages ++ message ∷ [] → message ≡ dictionary_message next
    → more ≡ map dictionary_message (given ++ next ∷ [])
one_encoded messages more given next message so_far pushed is =
    pushed ∙ (λ i. so_far i ++ is i ∷ []) ∙ sym (map-append dictionary_message given (next ∷ []))

pub one_within : (given : List Given) (next : Given) → list_all is_given_within given ≡ true → is_given_within next ≡ true
    → list_all is_given_within (given ++ next ∷ []) ≡ true
one_within given next so_far here =
    list_all-append is_given_within given (next ∷ [])
    ∙ and_from (list_all is_given_within given) (is_given_within next && true) so_far (and_from (is_given_within next) true here refl)

-- one more is not
pub one_not : (error : Error) (given : List Given) (next : Given) (rest : List Given) → IsNotEncoded error (is_given_within next)
    → IsNotEncoded error (list_all is_given_within (given ++ next ∷ rest))
one_not error given next rest past =
    subst (IsNotEncoded error) (sym (list_all-append is_given_within given (next ∷ rest)))
    (not_second error (list_all is_given_within given) (list_all is_given_within (next ∷ rest))
    (not_both error (is_given_within next) (list_all is_given_within rest) past))

-- ---- a batch

batch_is : (below : IdsList) (columns : List Column) → (batch_of_stored below columns).given ≡ given_of_stored below columns
unfolding batch_of_stored
batch_is below columns = refl

columns_are : (below : IdsList) (columns : List Column) → (batch_of_stored below columns).columns ≡ map (encode_stored true) columns
unfolding batch_of_stored
columns_are below columns = refl

rows_are : (below : IdsList) (columns : List Column) → (batch_of_stored below columns).rows ≡ rows_of_stored columns
unfolding batch_of_stored
rows_are below columns = refl

-- the dictionaries are not told
pub not_told_batch : (error : Error) (old now new : List (ℤ × Column) × Bool) (below : IdsList) (columns : List Column) (given : List Given)
    (own : Written) → given ≡ given_of_stored below columns → TellsAll old now given (Err error) → new ≡ old
    → Encodes old new (batch_of_stored below columns) (Err error) own
not_told_batch error old now new below columns given own is refused kept told tells =
    (barred error (subst (IsNotTold error old.1 told) (is ∙ sym (batch_is below columns)) (refused told tells)), kept)
  where
    barred : (e : Error) → IsNotTold e old.1 told (batch_of_stored below columns).given → IsBarred e old.1 told (batch_of_stored below columns)
    barred (errors.InvalidArgumentError what) h = h
    barred errors.OutOfMemory h = tt
    barred _ h = absurd h

-- there was no memory before any was told
pub no_memory : (error : Error) (old new : List (ℤ × Column) × Bool) (batch : Batch) (own : Written) → IsOutOfMemory error → new ≡ old
    → Encodes old new batch (Err error) own
no_memory errors.OutOfMemory old new batch own memory kept told tells = (tt, kept)
no_memory _ old new batch own memory kept told tells = absurd memory

-- a message is not encoded
barred_by : (error : Error) (cannot_replace : Bool) (told : List Given) (batch : Batch) → may_tell (form_by cannot_replace) told batch.given ≡ true
    → IsNotEncoded error (is_batch_within told batch) → IsBarred error cannot_replace told batch
barred_by errors.Overflow cannot_replace told batch may past = (may, past)
barred_by errors.OutOfMemory cannot_replace told batch may past = tt
barred_by _ cannot_replace told batch may past = absurd past

pub dictionaries_not : (error : Error) (old now new : List (ℤ × Column) × Bool) (below : IdsList) (columns : List Column) (given sent : List Given)
    (own : Written) → given ≡ given_of_stored below columns → TellsAll old now given (Ok sent)
    → IsNotEncoded error (list_all is_given_within sent) → new ≡ old → Encodes old new (batch_of_stored below columns) (Err error) own
dictionaries_not error old now new below columns given sent own is all past kept told tells =
    let batch = batch_of_stored below columns in
    let answer = all told tells in
    let given_is : given ≡ batch.given = is ∙ sym (batch_is below columns) in (
      barred_by error old.1 told batch (ap (may_tell (form_by old.1) told) (sym given_is) ∙ answer.may)
          (not_both error (list_all is_given_within (to_write told batch.given)) (is_within (joined_columns batch.columns)
          (record_message batch.rows batch.columns))
          (subst (λ (them : List Given). IsNotEncoded error (list_all is_given_within them))
          (answer.written ∙ ap (to_write told) given_is) past)),
      kept,
    )

pub record_not : (error : Error) (old now new : List (ℤ × Column) × Bool) (below : IdsList) (columns : List Column) (rows : ℕ)
    (given sent : List Given) (own : Written) → given ≡ given_of_stored below columns → rows ≡ rows_of_stored columns
    → TellsAll old now given (Ok sent)
    → IsNotEncoded error (is_within (joined_columns (map (encode_stored true) columns)) (record_message rows (map (encode_stored true) columns)))
    → new ≡ old
    → Encodes old new (batch_of_stored below columns) (Err error) own
record_not error old now new below columns rows given sent own is count all past kept told tells =
    let batch = batch_of_stored below columns in
    let answer = all told tells in
    let given_is : given ≡ batch.given = is ∙ sym (batch_is below columns) in (
      barred_by error old.1 told batch (ap (may_tell (form_by old.1) told) (sym given_is) ∙ answer.may)
          (not_second error (list_all is_given_within (to_write told batch.given)) (is_within (joined_columns batch.columns)
          (record_message batch.rows batch.columns))
          (subst (λ (it : Bool). IsNotEncoded error it)
          (λ i. is_within (joined_columns (sym (columns_are below columns) i))
          (record_message ((count ∙ sym (rows_are below columns)) i) (sym (columns_are below columns) i))) past)),
      kept,
    )

-- all are
pub all_encoded : (old now new : List (ℤ × Column) × Bool) (below : IdsList) (columns : List Column) (rows : ℕ) (given sent : List Given)
    (messages : List Written) (own : Written) → given ≡ given_of_stored below columns → rows ≡ rows_of_stored columns
    → TellsAll old now given (Ok sent) → EncodesDictionaries (Ok messages) sent
    → EncodesMessage (Ok tt) own (joined_columns (map (encode_stored true) columns)) (record_message rows (map (encode_stored true) columns))
    → new.0 ≡ now.0 → new.1 ≡ old.1 → Encodes old new (batch_of_stored below columns) (Ok messages) own
all_encoded old now new below columns rows given sent messages own is count all dictionaries encoded entries kind told tells =
    let batch = batch_of_stored below columns in
    let answer = all told tells in
    let given_is : given ≡ batch.given = is ∙ sym (batch_is below columns) in
    let sent_is : sent ≡ to_write told batch.given = answer.written ∙ ap (to_write told) given_is in
    let rows_is : rows ≡ batch.rows = count ∙ sym (rows_are below columns) in
    record {
      may = ap (may_tell (form_by old.1) told) (sym given_is) ∙ answer.may;
      within = and_from (list_all is_given_within (to_write told batch.given))
          (is_within (joined_columns batch.columns) (record_message batch.rows batch.columns))
          (ap (list_all is_given_within) (sym sent_is) ∙ dictionaries.1)
          ((λ i. is_within (joined_columns (columns_are below columns i)) (record_message (sym rows_is i) (columns_are below columns i)))
          ∙ encoded.1);
      sent = dictionaries.0 ∙ ap (map dictionary_message) sent_is;
      own = encoded.0 ∙ (λ i. record_message (rows_is i) (sym (columns_are below columns) i));
      tells = λ id. ap (λ (them : List (ℤ × Column)). last_under id (told_by them)) entries ∙ answer.tells id
          ∙ ap (λ (them : List Given). last_under id (written_after told them)) given_is;
      kind = kind;
    }

-- the same behind a copy of a tracker
pub behind_copy : (old copy now : List (ℤ × Column) × Bool) (given : List Given) (result : Result (List Given) Error) → copy ≡ old
    → TellsAll copy now given result → TellsAll old now given result
behind_copy old copy now given result same all = subst (λ (it : List (ℤ × Column) × Bool). TellsAll it now given result) same all

-- ---- dictionaries that are found

pub given_more : (all : List Found) (k : ℕ) (next : Found) → k < length all → next ≡ get_or all k next
    → map given_in (take (k + 1) all) ≡ map given_in (take k all) ++ given_in next ∷ []
given_more all k next inside is =
    ap (map given_in) (take_more all k next inside) ∙ map-append given_in (take k all) (get_or all k next ∷ [])
    ∙ ap (λ (it : Found). map given_in (take k all) ++ given_in it ∷ []) (sym is)

pub given_whole : (all : List Found) (k : ℕ) (next : Found) → k < length all → next ≡ get_or all k next
    → map given_in (take k all) ++ given_in next ∷ map given_in (drop (k + 1) all) ≡ map given_in all
given_whole all k next inside is =
    let rest = map given_in (drop (k + 1) all) in
    let front = map given_in (take k all) in
    sym (append_assoc front (given_in next ∷ []) rest)
    ∙ ap (λ (them : List Given). them ++ rest) (sym (given_more all k next inside is))
    ∙ sym (map-append given_in (take (k + 1) all) (drop (k + 1) all)) ∙ ap (map given_in) (take-append-drop (k + 1) all)

pub found_encoded : (all : List Found) (k : ℕ) (next : Found) (messages : List EncodedData) (message : EncodedData) (more : List EncodedData)
    → k < length all → next ≡ get_or all k next → messages_in messages ≡ map dictionary_message (map given_in (take k all))
    → more ≡ messages ++ message ∷ [] → message_in message ≡ dictionary_message (given_in next)
    → messages_in more ≡ map dictionary_message (map given_in (take (k + 1) all))
found_encoded all k next messages message more inside is so_far pushed made =
    one_encoded (messages_in messages) (messages_in more) (map given_in (take k all)) (given_in next) (message_in message) so_far
    (ap messages_in pushed ∙ map-append message_in messages (message ∷ [])) made
    ∙ ap (map dictionary_message) (sym (given_more all k next inside is))

pub found_within : (all : List Found) (k : ℕ) (next : Found) → k < length all → next ≡ get_or all k next
    → list_all is_given_within (map given_in (take k all)) ≡ true → is_given_within (given_in next) ≡ true
    → list_all is_given_within (map given_in (take (k + 1) all)) ≡ true
found_within all k next inside is so_far here =
    ap (list_all is_given_within) (given_more all k next inside is) ∙ one_within (map given_in (take k all)) (given_in next) so_far here

pub found_not : (error : Error) (all : List Found) (k : ℕ) (next : Found) → k < length all → next ≡ get_or all k next
    → IsNotEncoded error (is_given_within (given_in next)) → IsNotEncoded error (list_all is_given_within (map given_in all))
found_not error all k next inside is past =
    subst (λ (them : List Given). IsNotEncoded error (list_all is_given_within them)) (given_whole all k next inside is)
    (one_not error (map given_in (take k all)) (given_in next) (map given_in (drop (k + 1) all)) past)

-- how many rows some arrays have
pub rows_same : (columns : List Column) (n : ℕ) → n ≡ rows_of (λ (column : Column). column) columns → n ≡ rows_of_stored columns
rows_same [] n is = is
rows_same (column ∷ columns) n is = is
