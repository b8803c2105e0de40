-- Batches that are appended one behind the other, and why one isn't.
use Rattle.std.proofs.Common.{◌≡◌, ◌∙◌, ◌⊎◌, inl, inr, ℕ, ◌+◌, ◌≤◌, ◌<◌, Bool, true, false, ◌&&◌, List, [], ◌∷◌, ◌++◌, length, get_or}
use Rattle.std.proofs.Common.{take, drop, refl, sym, ap, subst, append_assoc, arith}
use Rattle.std.specs.Prelude.{None, Some, is_err, Result, Ok, Err}
use Rattle.std.specs.List.{list_all}
use Rattle.std.proofs.Math.Nat.{le_trans}
use Rattle.std.proofs.lemmas.Bool.{and_from, and_left, and_parts, and_right, both_ways, leb-false, lt-leb}
use Rattle.std.proofs.lemmas.Grind.{flat_map-append}
use Rattle.std.proofs.lemmas.List.{append-nil, length-append, map-append, take-append-drop, take_more}
use Rattle.std.proofs.lemmas.List.Folds.{list_all-append}
use Rattle.ipc_format_readers.specs.chunk_writing.Objections.{Objection, long_array, other_dictionary, other_ids, other_schema}
use Rattle.ipc_format_readers.specs.chunk_writing.ShortColumns.{are_short}
use Rattle.ipc_format_readers.specs.chunk_writing.Tracking.{Tells}
use Rattle.ipc_format_readers.specs.chunk_writing.columnar_memory.declared.Error.{Error}
use Rattle.ipc_format_readers.specs.chunk_writing.columnar_memory.declared.Error.TheVariants as errors
use Rattle.ipc_format_readers.specs.chunk_writing.columnar_memory.declared.Schema.{Schema}
use Rattle.ipc_format_readers.specs.chunk_writing.columns.StoredColumns.{Column, in_columns}
use Rattle.ipc_format_readers.specs.chunk_writing.grammar.AppendedFiles.{has_few_dictionaries}
use Rattle.ipc_format_readers.specs.chunk_writing.grammar.GivenDictionaries.{Given, written_after}
use Rattle.ipc_format_readers.specs.chunk_writing.grammar.Ids.{all_are_ids, ids_fit_fields}
use Rattle.ipc_format_readers.specs.chunk_writing.grammar.Limits.{file_limit, most_dictionaries}
use Rattle.ipc_format_readers.specs.chunk_writing.grammar.Schemas.{IdsList}
use Rattle.ipc_format_readers.specs.chunk_writing.grammar.Tables.{file}
use Rattle.ipc_format_readers.specs.chunk_writing.grammar.Writable.{is_writable}
use Rattle.ipc_format_readers.specs.chunk_writing.grammar.WriterRuns.{another_dictionary, another_schema, long_message, write_bar}
use Rattle.ipc_format_readers.specs.chunk_writing.grammar.WrittenFiles.{Blocks, all_given, batch_blocks, none_replaced}
use Rattle.ipc_format_readers.specs.chunk_writing.grammar.WrittenMessages.{Written, fits_limit}
use Rattle.ipc_format_readers.specs.chunk_writing.grammar.WrittenStreams.{Batch, batch_messages, batch_of_stored, belongs}
use Rattle.ipc_format_readers.specs.chunk_writing.grammar.WrittenStreams.{bytes_of_messages, messages_after, stored_columns}
use Rattle.ipc_format_readers.specs.chunk_writing.metadata.Views.{ids_views}
use Rattle.ipc_format_readers.specs.declared.file_metadata.FileMetadata.{FileMetadata}
use Rattle.ipc_format_readers.specs.reading_laws.StoredTables.{stored_chunks}
use Rattle.ipc_format_readers.specs.streams.Devices.{Puts}
use Rattle.ipc_format_readers.specs.streams.owned.writing.Writing.{may_write}
use Rattle.ipc_format_readers.proofs.chunk_lemmas.Bars.{bar_by, bar_is}
use Rattle.ipc_format_readers.proofs.chunk_lemmas.Told.{after_more, none_more}
use Rattle.ipc_format.specs.Adding.{IsAdded, IsNotAdded, with_batch}
use Rattle.ipc_format.specs.Appending.{AreAppended, AreNotAppended, HasLongArray, IsAppended, batches_of, with_batches}
use Rattle.ipc_format.specs.Growing.{StandBehind}
use Rattle.ipc_format.specs.FilePhases.{Progress}
use Rattle.ipc_format.specs.BlockPlacing.{IsPastLimits, joined_blocks, place_behind}
use Rattle.ipc_format.specs.FileRuns.{told_with}
use Rattle.ipc_format.proofs.FilePlaced.{place_grows}
use Rattle.ipc_format.proofs.FileRunBytes.{blocks_more}
use Rattle.ipc_format.proofs.StandBehind.{blocks_with, bytes_with, messages_both, none_stand, one_stands, place_with}

-- ---- tests of one among others

-- where all pass of some, of one behind them and of those behind it
all_around : {A : Type 0} (test : A → Bool) (before : List A) (one : A) (behind : List A)
    → list_all test (before ++ one ∷ behind) ≡ (list_all test before && (test one && list_all test behind))
all_around test before one behind = list_all-append test before (one ∷ behind)

-- one that fails among others
fails_around : {A : Type 0} (test : A → Bool) (before : List A) (one : A) (behind : List A) → test one ≡ false
    → list_all test (before ++ one ∷ behind) ≡ false
fails_around test before one behind fails =
    all_around test before one behind
    ∙ and_right (list_all test before) (test one && list_all test behind) (and_left (test one) (list_all test behind) fails)

-- one more that passes
passes_more : {A : Type 0} (test : A → Bool) (before : List A) (one : A) → list_all test before ≡ true → test one ≡ true
    → list_all test (before ++ one ∷ []) ≡ true
passes_more test before one passed passes =
    all_around test before one [] ∙ and_from (list_all test before) (test one && true) passed (and_from (test one) true passes refl)

-- ---- some of a list, one behind them, and the others

pub more_taken : {A : Type 0} (all : List A) (i : ℕ) (one : A) → i < length all → get_or all i one ≡ one
    → take i all ++ one ∷ [] ≡ take (i + 1) all
more_taken {A} all i one inside here = sym (take_more all i one inside ∙ ap (λ (it : A). take i all ++ it ∷ []) here)

pub parts_of : {A : Type 0} (all : List A) (i : ℕ) (one : A) → i < length all → get_or all i one ≡ one
    → take i all ++ one ∷ drop (i + 1) all ≡ all
parts_of {A} all i one inside here =
    sym (append_assoc (take i all) (one ∷ []) (drop (i + 1) all))
    ∙ ap (λ (front : List A). front ++ drop (i + 1) all) (more_taken all i one inside here)
    ∙ take-append-drop (i + 1) all

-- ---- what a bar says

no_bar_says : (b m f : Bool) → bar_by b m f ≡ None → (b ≡ true) × (m ≡ true) × (f ≡ true)
no_bar_says true true true e = (refl, refl, refl)
no_bar_says true true false e = absurd cc
no_bar_says true false f e = absurd cc
no_bar_says false m f e = absurd cc

schema_says : (b m f : Bool) → bar_by b m f ≡ Some another_schema → b ≡ false
schema_says true true true e = absurd cc
schema_says true true false e = absurd cc
schema_says true false f e = absurd cc
schema_says false m f e = refl

dictionary_says : (b m f : Bool) → bar_by b m f ≡ Some another_dictionary → m ≡ false
dictionary_says true true true e = absurd cc
dictionary_says true true false e = absurd cc
dictionary_says true false f e = refl
dictionary_says false m f e = absurd cc

message_says : (b m f : Bool) → bar_by b m f ≡ Some long_message → f ≡ false
message_says true true true e = absurd cc
message_says true true false e = refl
message_says true false f e = absurd cc
message_says false m f e = absurd cc

-- ---- dictionaries of batches

abbrev given : Batch → List Given
given batch = batch.given

told_all : (told : List Given) (batches : List Batch) → told_with told batches ≡ written_after told (all_given batches)
told_all told [] = refl
told_all told (batch ∷ batches) = told_all (written_after told batch.given) batches ∙ sym (after_more told batch.given (all_given batches))

-- none is replaced by some batches, by one behind them and by those behind it
once_around : (told : List Given) (before : List Batch) (batch : Batch) (behind : List Batch)
    → none_replaced told (all_given (before ++ batch ∷ behind))
    ≡ (none_replaced told (all_given before) && (none_replaced (told_with told before) batch.given
    && none_replaced (written_after (told_with told before) batch.given) (all_given behind)))
once_around told before batch behind =
    let first = none_replaced told (all_given before) in
    ap (none_replaced told) (flat_map-append given before (batch ∷ behind))
    ∙ none_more told (all_given before) (batch.given ++ all_given behind)
    ∙ ap (λ (now : List Given). first && none_replaced now (batch.given ++ all_given behind)) (sym (told_all told before))
    ∙ ap (λ (rest : Bool). first && rest) (none_more (told_with told before) batch.given (all_given behind))

-- ---- limits

limits_around : (told : List Given) (before : List Batch) (batch : Batch) (behind : List Batch)
    → list_all fits_limit (messages_after told (before ++ batch ∷ behind))
    ≡ (list_all fits_limit (messages_after told before) && (list_all fits_limit (batch_messages (told_with told before) batch)
    && list_all fits_limit (messages_after (written_after (told_with told before) batch.given) behind)))
limits_around told before batch behind =
    let first = messages_after told before in
    let own = batch_messages (told_with told before) batch in
    let rest = messages_after (written_after (told_with told before) batch.given) behind in
    ap (list_all fits_limit) (messages_both told before (batch ∷ behind))
    ∙ list_all-append fits_limit first (own ++ rest)
    ∙ ap (λ (later : Bool). list_all fits_limit first && later) (list_all-append fits_limit own rest)

-- how many dictionaries stand in a file
abbrev count : Blocks → ℕ
count blocks = length blocks.dictionaries

count_grows : (place : ℕ) (told : List Given) (batches behind : List Batch)
    → count (batch_blocks place told batches) ≤ count (batch_blocks place told (batches ++ behind))
count_grows place told batches [] =
    subst (λ (all : List Batch). count (batch_blocks place told batches) ≤ count (batch_blocks place told all)) (sym (append-nil batches))
    (omega arith)
count_grows place told batches (batch ∷ behind) =
    let own = batch_blocks (place_behind place (messages_after told batches)) (told_with told batches) (batch ∷ []) in
    let more : count (batch_blocks place told (batches ++ batch ∷ [])) ≡ count (batch_blocks place told batches) + count own =
    ap count (blocks_more place told batches batch) ∙ length-append (batch_blocks place told batches).dictionaries own.dictionaries in
    let rest = subst (λ (all : List Batch). count (batch_blocks place told (batches ++ batch ∷ [])) ≤ count (batch_blocks place told all))
    (append_assoc batches (batch ∷ []) behind) (count_grows place told (batches ++ batch ∷ []) behind) in
    omega (arith, more, rest)

-- a file that is past its limits stays so with more batches behind
past_stays : (old : Progress) (told : List Given) (batches behind : List Batch) → IsPastLimits (with_batches old told batches)
    → IsPastLimits (with_batches old told (batches ++ behind))
past_stays old told batches behind (inl past) =
    inl (le_trans past (subst (λ (messages : List Written). place_behind old.place (messages_after told batches) ≤ place_behind old.place messages)
    (sym (messages_both told batches behind))
    (place_grows old.place (messages_after told batches) (messages_after (told_with told batches) behind))))
past_stays old told batches behind (inr many) =
    let first = batch_blocks old.place told batches in
    let all = batch_blocks old.place told (batches ++ behind) in
    let past = leb-false (count (joined_blocks old.blocks first)) most_dictionaries many in
    inr (lt-leb (count (joined_blocks old.blocks all)) most_dictionaries (omega (
      arith,
      past,
      length-append old.blocks.dictionaries first.dictionaries,
      length-append old.blocks.dictionaries all.dictionaries,
      count_grows old.place told batches behind,
    )))

-- ---- batches

module _ (schema : Schema) (ids : IdsList) (told : List Given) where
  -- a batch's messages that are added behind what is told are put behind some bytes
  pub appended_by : (old new : Progress) (columns : List Column) (messages : List Written) (before after : List ℕ)
      → IsAdded old new schema told ids columns messages → after ≡ before ++ bytes_of_messages messages
      → IsAppended old new schema ids told columns before after
  appended_by old new columns messages before after added put =
      let says = no_bar_says _ _ _ (sym (bar_is file schema ids told columns) ∙ added.bar) in
      record {
        belongs_to = says.0;
        once = says.1;
        limits = says.2;
        behind = added.behind;
        bytes = put ∙ ap (λ (them : List Written). before ++ bytes_of_messages them) added.sent;
      }

  pub none_appended : (old : Progress) (bytes : List ℕ) → Tells old.told told → has_few_dictionaries old.blocks ≡ true
      → AreAppended old old schema ids told [] bytes bytes
  none_appended old bytes tells few = record {
    belong = refl;
    once = refl;
    limits = refl;
    stand = none_stand old told tells;
    few = few;
    bytes = sym (append-nil bytes);
  }

  more_batches : (chunks : List (List Column)) (columns : List Column) (behind : List (List Column))
      → batches_of ids (chunks ++ columns ∷ behind) ≡ batches_of ids chunks ++ batch_of_stored ids columns ∷ batches_of ids behind
  more_batches chunks columns behind = map-append (batch_of_stored ids) chunks (columns ∷ behind)

  -- one batch more
  pub one_appended : (old now new : Progress) (chunks : List (List Column)) (columns : List Column) (before between after : List ℕ)
      → AreAppended old now schema ids told chunks before between
      → IsAppended now new schema ids (told_with told (batches_of ids chunks)) columns between after
      → AreAppended old new schema ids told (chunks ++ columns ∷ []) before after
  one_appended old now new chunks columns before between after first next =
      let batches = batches_of ids chunks in
      let batch = batch_of_stored ids columns in
      let all = sym (more_batches chunks columns []) in
      let done = bytes_of_messages (messages_after told batches) in
      let own = bytes_of_messages (batch_messages (told_with told batches) batch) in
      record {
        belong = ap (list_all (belongs schema ids)) (map-append stored_columns chunks (columns ∷ []))
            ∙ passes_more (belongs schema ids) (stored_chunks chunks) (stored_columns columns) first.belong next.belongs_to;
        once = ap (λ (them : List Batch). none_replaced told (all_given them)) (sym all) ∙ once_around told batches batch []
            ∙ and_from _ _ first.once (and_from _ true next.once refl);
        limits = ap (λ (them : List Batch). list_all fits_limit (messages_after told them)) (sym all) ∙ limits_around told batches batch []
            ∙ and_from _ _ first.limits (and_from _ true next.limits refl);
        stand = subst (StandBehind old new told) all (one_stands old now told batches batch first.stand new next.behind);
        few = next.behind.within.1;
        bytes = next.bytes ∙ ap (λ (bytes : List ℕ). bytes ++ own) first.bytes ∙ append_assoc before done own
            ∙ ap (λ (bytes : List ℕ). before ++ bytes) (sym (bytes_with told batches batch))
            ∙ ap (λ (them : List Batch). before ++ bytes_of_messages (messages_after told them)) all;
      }

  -- ---- why one isn't

  module _ (old now : Progress) (chunks : List (List Column)) (columns : List Column) (behind : List (List Column))
      (stand : StandBehind old now told (batches_of ids chunks)) where
    abbrev first : List Batch
    first = batches_of ids chunks

    abbrev batch : Batch
    batch = batch_of_stored ids columns

    abbrev rest : List Batch
    rest = batches_of ids behind

    abbrev whole : List (List Column)
    whole = chunks ++ columns ∷ behind

    objected : Objection file schema ids (told_with told first) columns → ids_fit_fields schema.fields ids ≡ true
        → (list_all (belongs schema ids) (stored_chunks whole) ≡ false)
        ⊎ ((none_replaced told (all_given (batches_of ids whole)) ≡ false) ⊎ HasLongArray whole)
    objected (other_ids differ) fit = absurd (both_ways (ids_fit_fields schema.fields ids) differ fit)
    objected (other_schema barred) fit =
        inl (ap (list_all (belongs schema ids)) (map-append stored_columns chunks (columns ∷ behind))
        ∙ fails_around (belongs schema ids) (stored_chunks chunks) (stored_columns columns) (stored_chunks behind)
        (schema_says _ _ _ (sym (bar_is file schema ids (told_with told first) columns) ∙ barred)))
    objected (other_dictionary barred) fit =
        inr (inl (ap (λ (them : List Batch). none_replaced told (all_given them)) (more_batches chunks columns behind)
        ∙ once_around told first batch rest
        ∙ and_right _ _ (and_left _ _ (dictionary_says _ _ _ (sym (bar_is file schema ids (told_with told first) columns) ∙ barred)))))
    objected (long_array long) fit = inr (inr (fails_around (λ (them : List Column). are_short (in_columns them)) chunks columns behind long))

    -- a message of its is past its limit
    too_long : write_bar file schema ids (told_with told first) (stored_columns columns) ≡ Some long_message
        → list_all fits_limit (messages_after told (batches_of ids whole)) ≡ false
    too_long barred =
        ap (λ (them : List Batch). list_all fits_limit (messages_after told them)) (more_batches chunks columns behind)
        ∙ limits_around told first batch rest
        ∙ and_right _ _ (and_left _ _ (message_says _ _ _ (sym (bar_is file schema ids (told_with told first) columns) ∙ barred)))

    -- the file is past its limits with it, and so with those behind it
    past_with : IsPastLimits (with_batch now (told_with told first) batch) → IsPastLimits (with_batches old told (first ++ batch ∷ []))
    past_with (inl past) = inl (subst (λ (place : ℕ). file_limit ≤ place) (place_with old now told first batch stand) past)
    past_with (inr many) =
        inr (subst (λ (blocks : Blocks). has_few_dictionaries blocks ≡ false) (blocks_with old now told first batch stand) many)

    past_whole : IsPastLimits (with_batch now (told_with told first) batch) → IsPastLimits (with_batches old told (batches_of ids whole))
    past_whole past =
        subst (λ (them : List Batch). IsPastLimits (with_batches old told them))
        (append_assoc first (batch ∷ []) rest ∙ sym (more_batches chunks columns behind))
        (past_stays old told (first ++ batch ∷ []) rest (past_with past))

    pub batch_refused : (error : Error) → ids_fit_fields schema.fields ids ≡ true → IsNotAdded error schema ids (told_with told first) columns now
        → AreNotAppended error old schema ids told whole
    batch_refused errors.OutOfMemory fit why = tt
    batch_refused (errors.InvalidArgumentError what) fit why = objected why fit
    batch_refused errors.Overflow fit (inl barred) = inl (too_long barred)
    batch_refused errors.Overflow fit (inr past) = inr (past_whole past.1)
    batch_refused _ fit why = absurd why

-- ---- bytes that were put

pub put_behind : {A : Type 0} (result : Result A Error) (old new bytes : List ℕ) → false ≡ is_err result
    → Puts result (Some old) (Some new) bytes → new ≡ old ++ bytes
put_behind (Ok done) old new bytes is put = put
put_behind (Err error) old new bytes is put = absurd (both_ways true (sym is) refl)

-- ---- the file's own schema and ids

-- they may be written
pub may_write_of : (metadata : FileMetadata) → may_write metadata.schema (ids_views metadata.ipc_schema.fields) ≡ true
may_write_of metadata =
    let ids = ids_views metadata.ipc_schema.fields in
    (and_parts (may_write metadata.schema ids) (all_are_ids ids) metadata.is_written).0

pub ids_fit_of : (metadata : FileMetadata) → ids_fit_fields metadata.schema.fields (ids_views metadata.ipc_schema.fields) ≡ true
ids_fit_of metadata =
    let ids = ids_views metadata.ipc_schema.fields in
    (and_parts (is_writable metadata.schema) (ids_fit_fields metadata.schema.fields ids) (may_write_of metadata)).1
