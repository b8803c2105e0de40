-- A file to which batches are appended is what the format gives, from the steps: what is kept of it, the messages behind it, and its end.
use Rattle.std.proofs.Common.{◌≡◌, ◌∙◌, ◌⊎◌, inl, inr, ℕ, ◌+◌, ◌-◌, ◌≤◌, ◌<◌, Bool, true, false, List, ◌++◌, length, take, replicate}
use Rattle.std.proofs.Common.{refl, sym, ap, subst, arith, append_assoc, length-append}
use Rattle.std.specs.Prelude.{Option, Some, None, Err, IsSomeAnd}
use Rattle.std.specs.List.{list_all}
use Rattle.std.proofs.Math.Nat.{le_trans, le-add_right}
use Rattle.std.proofs.lemmas.Bool.{le-ltb, lt-ltb, ltb-false, ltb-true}
use Rattle.std.proofs.lemmas.List.{length-replicate, length-take-le}
use Rattle.ipc_format_readers.specs.chunk_writing.Tracking.{told_by}
use Rattle.ipc_format_readers.specs.chunk_writing.columnar_memory.declared.Error.{Error}
use Rattle.ipc_format_readers.specs.chunk_writing.columnar_memory.declared.Error.TheVariants as errors
use Rattle.ipc_format_readers.specs.chunk_writing.columnar_memory.declared.Schema.{Schema}
use Rattle.ipc_format_readers.specs.chunk_writing.columns.StoredColumns.{Column}
use Rattle.ipc_format_readers.specs.chunk_writing.flatbuffers.Objects.{laid}
use Rattle.ipc_format_readers.specs.chunk_writing.grammar.AppendedFiles.{Base, appended, appended_blocks, appended_bytes}
use Rattle.ipc_format_readers.specs.chunk_writing.grammar.AppendedFiles.{appended_footer, appended_messages, base_bytes}
use Rattle.ipc_format_readers.specs.chunk_writing.grammar.AppendedFiles.{base_end, base_of, base_start}
use Rattle.ipc_format_readers.specs.chunk_writing.grammar.AppendedFiles.{has_few_dictionaries, padding_to}
use Rattle.ipc_format_readers.specs.chunk_writing.grammar.GivenDictionaries.{Given}
use Rattle.ipc_format_readers.specs.chunk_writing.grammar.Limits.{file_limit}
use Rattle.ipc_format_readers.specs.chunk_writing.grammar.Schemas.{IdsList}
use Rattle.ipc_format_readers.specs.chunk_writing.grammar.WrittenFiles.{Blocks, all_given, batch_blocks, file_end, fits_file_limit}
use Rattle.ipc_format_readers.specs.chunk_writing.grammar.WrittenFiles.{footer_object, is_footer, none_replaced}
use Rattle.ipc_format_readers.specs.chunk_writing.grammar.WrittenMessages.{end_mark, fits_limit}
use Rattle.ipc_format_readers.specs.chunk_writing.grammar.WrittenStreams.{Batch, batches_written, belongs, bytes_of_messages}
use Rattle.ipc_format_readers.specs.chunk_writing.grammar.WrittenStreams.{messages_after}
use Rattle.ipc_format_readers.specs.chunk_writing.metadata.Views.{ids_views}
use Rattle.ipc_format_readers.specs.declared.file_metadata.FileMetadata.{FileMetadata}
use Rattle.ipc_format_readers.specs.reading_laws.StoredTables.{stored_chunks}
use Rattle.ipc_format_readers.proofs.reading_laws_lemmas.AppendedBase.{is_base}
use Rattle.ipc_format_readers.proofs.reading_laws_lemmas.StoredTablesBelong.{batches_same}
use Rattle.ipc_format.specs.Appending.{AppendsFile, AreAppended, AreNotAppended, ArePastLimits, AreRefused, HasLongArray, IsKept, IsNotKept}
use Rattle.ipc_format.specs.Appending.{ToldAlike, batches_of, with_batches}
use Rattle.ipc_format.specs.Ends.{HasNoFooter, IsFooter, end_of, end_with, footer_of, has_room, zeros_before}
use Rattle.ipc_format.specs.FilePhases.{Progress}
use Rattle.ipc_format.specs.BlockPlacing.{IsPastLimits, joined_blocks, place_behind}
use Rattle.ipc_format.proofs.ToldAlike.{blocks_alike, messages_alike, once_alike}

-- ---- lengths

-- what stands before the new messages reaches up to them
base_long : (base : Base) (bytes : List ℕ) → base_end base ≤ length bytes → length (base_bytes base bytes) ≡ base_start base
base_long base bytes inside =
    let end = base_end base in
    let start : end ≤ base_start base = le-add_right end _ in
    omega (
      arith,
      length-append (take end bytes) (replicate (base_start base - end) 0),
      length-take-le end bytes inside,
      length-replicate {A = ℕ} (base_start base - end) 0,
    )

-- how long everything up to the end mark is
messages_long : (base : Base) (bytes : List ℕ) (batches : List Batch) → base_end base ≤ length bytes
    → length (appended_messages base bytes batches) ≡ place_behind (base_start base) (messages_after base.told batches) + 8
unfolding appended_messages
messages_long base bytes batches inside =
    let messages = bytes_of_messages (messages_after base.told batches) in
    omega (
      arith,
      base_long base bytes inside,
      length-append (base_bytes base bytes ++ messages) end_mark,
      length-append (base_bytes base bytes) messages,
    )

-- how long the new file is
whole_long : (base : Base) (bytes : List ℕ) (batches : List Batch)
    → length (appended_bytes base bytes batches)
    ≡ length (appended_messages base bytes batches)
    + (length bytes - (length (appended_messages base bytes batches) + length (file_end (appended_footer base batches))))
    + length (file_end (appended_footer base batches))
unfolding appended_bytes
whole_long base bytes batches =
    let before = appended_messages base bytes batches in
    let behind = file_end (appended_footer base batches) in
    let padding = padding_to (length bytes) before behind in
    length-append (before ++ padding) behind
    ∙ ap (λ (n : ℕ). n + length behind) (length-append before padding)
    ∙ ap (λ (n : ℕ). length before + n + length behind) (length-replicate {A = ℕ} (length bytes - (length before + length behind)) 0)

-- it is not shorter than before
not_shorter : (base : Base) (bytes : List ℕ) (batches : List Batch) → length bytes ≤ length (appended_bytes base bytes batches)
not_shorter base bytes batches = omega (arith, whole_long base bytes batches)

-- it reaches past its messages, the end mark and the footer
past_end : (base : Base) (bytes : List ℕ) (batches : List Batch) → base_end base ≤ length bytes
    → place_behind (base_start base) (messages_after base.told batches) + length (end_with (appended_footer base batches))
    ≤ length (appended_bytes base bytes batches)
past_end base bytes batches inside =
    omega (
      arith,
      whole_long base bytes batches,
      messages_long base bytes batches inside,
      length-append end_mark (file_end (appended_footer base batches)),
    )

-- it is within the limit of files where the old one is, and where its end is
within : (base : Base) (bytes : List ℕ) (batches : List Batch) → base_end base ≤ length bytes → length bytes < file_limit
    → place_behind (base_start base) (messages_after base.told batches) + length (end_with (appended_footer base batches)) < file_limit
    → fits_file_limit (appended_bytes base bytes batches) ≡ true
within base bytes batches inside short room =
    let messages = messages_long base bytes batches inside in
    let end = length-append end_mark (file_end (appended_footer base batches)) in
    let below : length (appended_bytes base bytes batches) < file_limit = omega (arith, whole_long base bytes batches, messages, end) in
    lt-ltb (length (appended_bytes base bytes batches)) file_limit below

-- it is past that limit where less is
too_long : (n : ℕ) (base : Base) (bytes : List ℕ) (batches : List Batch) → file_limit ≤ n → n ≤ length (appended_bytes base bytes batches)
    → fits_file_limit (appended_bytes base bytes batches) ≡ false
too_long n base bytes batches past more = le-ltb (length (appended_bytes base bytes batches)) file_limit (le_trans past more)

-- ---- what stands behind the file

-- what is written of a file with batches behind it, as the format gives it
record StandsBehind (bytes : List ℕ) (base : Base) (batches : List Batch) (after : Progress) : Type 0 where
  place : after.place ≡ place_behind (base_start base) (messages_after base.told batches)
  size : after.size ≡ length bytes
  blocks : after.blocks ≡ appended_blocks base batches

-- so it is where the file is kept
stands_behind : (metadata : FileMetadata) (end : ℕ) (before : Progress) (bytes : List ℕ) (base : Base) (batches : List Batch)
    → IsKept metadata end before bytes base → StandsBehind bytes base batches (with_batches before (told_by before.told) batches)
stands_behind metadata end before bytes base batches kept =
    let told = told_by before.told in
    let messages = messages_alike told base.told batches kept.told in
    let new = ap (λ (place : ℕ). batch_blocks place told batches) kept.place ∙ blocks_alike (base_start base) told base.told batches kept.told in
    record {
      place = λ j. place_behind (kept.place j) (messages j);
      size = kept.size;
      blocks = λ j. joined_blocks (kept.blocks j) (new j);
    }

-- under the file's own schema and ids
under_own : (metadata : FileMetadata) (end : ℕ) (before : Progress) (bytes : List ℕ) (base : Base) (P : Schema → IdsList → Type 0)
    → IsKept metadata end before bytes base → P metadata.schema (ids_views metadata.ipc_schema.fields) → P base.found.schema base.found.ids
under_own metadata end before bytes base P kept holds =
    subst (P base.found.schema) kept.ids
    (subst (λ (schema : Schema). P schema (ids_views metadata.ipc_schema.fields)) kept.schema holds)

-- batches that were put behind the file stand behind it
are_behind : (metadata : FileMetadata) (end : ℕ) (before after : Progress) (bytes first middle : List ℕ) (base : Base) (chunks : List (List Column))
    → IsKept metadata end before bytes base
    → AreAppended before after base.found.schema base.found.ids (told_by before.told) chunks first middle
    → StandsBehind bytes base (batches_of base.found.ids chunks) after
are_behind metadata end before after bytes first middle base chunks kept are =
    let behind = stands_behind metadata end before bytes base (batches_of base.found.ids chunks) kept in
    record {
      place = are.stand.place ∙ behind.place;
      size = are.stand.size ∙ behind.size;
      blocks = are.stand.blocks ∙ behind.blocks;
    }

-- its footer is the new one
same_footer : (bytes : List ℕ) (base : Base) (batches : List Batch) (after : Progress) → StandsBehind bytes base batches after
    → footer_of base.found.schema base.found.ids after ≡ appended_footer base batches
unfolding appended_footer
same_footer bytes base batches after behind =
    ap (λ (blocks : Blocks). laid (footer_object base.found.schema base.found.ids blocks)) behind.blocks

-- ---- what is appended

-- what the format asks of batches
record Passes (bytes : List ℕ) (base : Base) (chunks : List (List Column)) (batches : List Batch) : Type 0 where
  belong : list_all (belongs base.found.schema base.found.ids) (stored_chunks chunks) ≡ true
  once : none_replaced base.told (all_given batches) ≡ true
  limits : list_all fits_limit (messages_after base.told batches) ≡ true
  few : has_few_dictionaries (appended_blocks base batches) ≡ true
  footer : is_footer (appended_footer base batches) ≡ true
  short : fits_file_limit (appended_bytes base bytes batches) ≡ true

passes : (bytes : List ℕ) (base : Base) (chunks : List (List Column)) → base_of bytes ≡ Some base
    → Passes bytes base chunks (batches_written base.found.schema base.found.ids (stored_chunks chunks))
    → appended bytes (stored_chunks chunks)
    ≡ Some (appended_bytes base bytes (batches_written base.found.schema base.found.ids (stored_chunks chunks)))
unfolding appended
passes bytes base chunks given all = rw (given, all.belong, all.once, all.limits, all.few, all.footer, all.short) refl

-- where they pass, they are appended
gives : (bytes : List ℕ) (base : Base) (chunks : List (List Column)) → base_of bytes ≡ Some base
    → Passes bytes base chunks (batches_of base.found.ids chunks)
    → appended bytes (stored_chunks chunks) ≡ Some (appended_bytes base bytes (batches_of base.found.ids chunks))
gives bytes base chunks given all =
    let same = batches_same base.found.schema base.found.ids chunks in
    passes bytes base chunks given (subst (Passes bytes base chunks) (sym same) all)
    ∙ ap (λ (batches : List Batch). Some (appended_bytes base bytes batches)) same

-- the bytes, from what stands before the end and the end
bytes_are : (bytes new first : List ℕ) (base : Base) (batches : List Batch) (after : Progress) (footer : List ℕ)
    → base_end base ≤ length bytes → StandsBehind bytes base batches after
    → first ≡ base_bytes base bytes ++ bytes_of_messages (messages_after base.told batches) → footer ≡ appended_footer base batches
    → new ≡ first ++ end_of after footer → new ≡ appended_bytes base bytes batches
unfolding appended_bytes appended_messages
bytes_are bytes new first base batches after footer inside behind begins ends whole =
    let messages = base_bytes base bytes ++ bytes_of_messages (messages_after base.told batches) in
    let its = appended_footer base batches in
    let zeros : List ℕ = replicate (length bytes - (length (messages ++ end_mark) + length (file_end its))) 0 in
    let long : after.place + length (end_with its) ≡ length (messages ++ end_mark) + length (file_end its) =
    omega (arith, behind.place, messages_long base bytes batches inside, length-append end_mark (file_end its)) in
    let count : zeros_before after its ≡ length bytes - (length (messages ++ end_mark) + length (file_end its)) =
    λ j. behind.size j - long j in
    whole
    ∙ (λ j. begins j ++ end_of after (ends j))
    ∙ ap (λ (n : ℕ). messages ++ (end_mark ++ replicate n 0 ++ file_end its)) count
    ∙ sym (append_assoc messages (end_mark ++ zeros) (file_end its))
    ∙ ap (λ (front : List ℕ). front ++ file_end its) (sym (append_assoc messages end_mark zeros))

-- the messages stand behind the file up to its end and zeros
messages_are : (metadata : FileMetadata) (end : ℕ) (before after : Progress) (bytes middle : List ℕ) (base : Base) (chunks : List (List Column))
    → IsKept metadata end before bytes base
    → AreAppended before after base.found.schema base.found.ids (told_by before.told) chunks
    (take end bytes ++ replicate (before.place - end) 0) middle
    → middle ≡ base_bytes base bytes ++ bytes_of_messages (messages_after base.told (batches_of base.found.ids chunks))
messages_are metadata end before after bytes middle base chunks kept are =
    let messages = messages_alike (told_by before.told) base.told (batches_of base.found.ids chunks) kept.told in
    are.bytes
    ∙ (λ j. take (kept.ends j) bytes ++ replicate (kept.place j - kept.ends j) 0 ++ bytes_of_messages (messages j))

pub appended_whole : (bytes new middle : List ℕ) (metadata : FileMetadata) (end : ℕ) (before after : Progress) (base : Base)
    (chunks : List (List Column)) (footer : List ℕ) → IsKept metadata end before bytes base
    → AreAppended before after metadata.schema (ids_views metadata.ipc_schema.fields) (told_by before.told) chunks
    (take end bytes ++ replicate (before.place - end) 0) middle
    → IsFooter footer metadata.schema (ids_views metadata.ipc_schema.fields) after → new ≡ middle ++ end_of after footer
    → appended bytes (stored_chunks chunks) ≡ Some new
appended_whole bytes new middle metadata end before after base chunks footer kept are_there has_there whole =
    let told = told_by before.told in
    let first = take end bytes ++ replicate (before.place - end) 0 in
    let batches = batches_of base.found.ids chunks in
    let are = under_own metadata end before bytes base
    (λ (schema : Schema) (ids : IdsList). AreAppended before after schema ids told chunks first middle) kept are_there in
    let has = under_own metadata end before bytes base (λ (schema : Schema) (ids : IdsList). IsFooter footer schema ids after) kept has_there in
    let inside = (is_base bytes base kept.given).inside in
    let behind = are_behind metadata end before after bytes first middle base chunks kept are in
    let same : footer ≡ appended_footer base batches = has.same ∙ same_footer bytes base batches after behind in
    let room : has_room (place_behind (base_start base) (messages_after base.told batches)) (appended_footer base batches) ≡ true =
    (λ j. has_room (sym behind.place j) (sym same j)) ∙ has.room in
    let begins = messages_are metadata end before after bytes middle base chunks kept are in
    gives bytes base chunks kept.given (record {
      belong = are.belong;
      once = sym (once_alike told base.told (all_given batches) kept.told) ∙ are.once;
      limits = ap (list_all fits_limit) (sym (messages_alike told base.told batches kept.told)) ∙ are.limits;
      few = ap has_few_dictionaries (sym behind.blocks) ∙ are.few;
      footer = ap is_footer (sym same) ∙ has.fits;
      short = within base bytes batches inside kept.short (ltb-true _ file_limit room);
    })
    ∙ ap Some (sym (bytes_are bytes new middle base batches after footer inside behind begins same whole))

-- ---- what is not

-- what holds of a value that is there
some_and : {A : Type 0} (found : Option A) (x : A) (P : A → Type 0) → found ≡ Some x → P x → IsSomeAnd found P
some_and {A} found x P is holds = subst (λ (o : Option A). IsSomeAnd o P) (sym is) holds

-- a file that would be past its limits is: of too many dictionaries, or too long
past_limits : (bytes : List ℕ) (base : Base) (batches : List Batch) (after : Progress) → base_end base ≤ length bytes
    → StandsBehind bytes base batches after → IsPastLimits after
    → (has_few_dictionaries (appended_blocks base batches) ≡ false) ⊎ (fits_file_limit (appended_bytes base bytes batches) ≡ false)
past_limits bytes base batches after inside behind (inl far) =
    inr (too_long after.place base bytes batches far (omega (arith, behind.place, past_end base bytes batches inside)))
past_limits bytes base batches after inside behind (inr many) = inl (ap has_few_dictionaries (sym behind.blocks) ∙ many)

-- so it is where a message is past its own
past_some : (bytes : List ℕ) (base : Base) (chunks : List (List Column)) (told : List Given) (after : Progress) → ToldAlike told base.told
    → base_end base ≤ length bytes → StandsBehind bytes base (batches_of base.found.ids chunks) after
    → (list_all fits_limit (messages_after told (batches_of base.found.ids chunks)) ≡ false) ⊎ IsPastLimits after → ArePastLimits bytes base chunks
past_some bytes base chunks told after alike inside behind (inl long) =
    inl (ap (list_all fits_limit) (sym (messages_alike told base.told (batches_of base.found.ids chunks) alike)) ∙ long)
past_some bytes base chunks told after alike inside behind (inr past) =
    elim (past_limits bytes base (batches_of base.found.ids chunks) after inside behind past) [
      | inl many ↦ inr (inl many)
      | inr far ↦ inr (inr (inr far))
    ]

pub batches_refused : (error : Error) (bytes : List ℕ) (metadata : FileMetadata) (end : ℕ) (before : Progress) (base : Base)
    (chunks : List (List Column)) → IsKept metadata end before bytes base
    → AreNotAppended error before metadata.schema (ids_views metadata.ipc_schema.fields) (told_by before.told) chunks
    → AppendsFile (Err error) bytes chunks
batches_refused errors.OutOfMemory bytes metadata end before base chunks kept why = tt
batches_refused (errors.InvalidArgumentError what) bytes metadata end before base chunks kept why =
    let own = under_own metadata end before bytes base
    (λ (schema : Schema) (ids : IdsList). AreNotAppended (errors.InvalidArgumentError what) before schema ids (told_by before.told) chunks)
    kept why in
    some_and (base_of bytes) base (λ (it : Base). AreRefused it chunks) kept.given
    (subst (λ (test : Bool). (list_all (belongs base.found.schema base.found.ids) (stored_chunks chunks) ≡ false)
    ⊎ ((test ≡ false) ⊎ HasLongArray chunks))
    (once_alike (told_by before.told) base.told (all_given (batches_of base.found.ids chunks)) kept.told) own)
batches_refused errors.Overflow bytes metadata end before base chunks kept why =
    let told = told_by before.told in
    let batches = batches_of base.found.ids chunks in
    let own = under_own metadata end before bytes base
    (λ (schema : Schema) (ids : IdsList). AreNotAppended errors.Overflow before schema ids told chunks) kept why in
    some_and (base_of bytes) base (λ (it : Base). ArePastLimits bytes it chunks) kept.given
    (past_some bytes base chunks told (with_batches before told batches) kept.told (is_base bytes base kept.given).inside
    (stands_behind metadata end before bytes base batches kept) own)
batches_refused _ bytes metadata end before base chunks kept why = absurd why

-- the footer is too long, or the file with it
no_end : (bytes : List ℕ) (base : Base) (chunks : List (List Column)) (after : Progress) → base_end base ≤ length bytes
    → StandsBehind bytes base (batches_of base.found.ids chunks) after → HasNoFooter errors.Overflow base.found.schema base.found.ids after
    → ArePastLimits bytes base chunks
no_end bytes base chunks after inside behind (inl long) =
    let same = same_footer bytes base (batches_of base.found.ids chunks) after behind in
    inr (inr (inl (ap is_footer (sym same) ∙ long)))
no_end bytes base chunks after inside behind (inr far) =
    let batches = batches_of base.found.ids chunks in
    let same = same_footer bytes base batches after behind in
    let past = ltb-false _ file_limit ((λ j. has_room (sym behind.place j) (sym same j)) ∙ far) in
    inr (inr (inr (too_long _ base bytes batches past (past_end base bytes batches inside))))

pub end_refused : (error : Error) (bytes middle : List ℕ) (metadata : FileMetadata) (end : ℕ) (before after : Progress) (base : Base)
    (chunks : List (List Column)) → IsKept metadata end before bytes base
    → AreAppended before after metadata.schema (ids_views metadata.ipc_schema.fields) (told_by before.told) chunks
    (take end bytes ++ replicate (before.place - end) 0) middle
    → HasNoFooter error metadata.schema (ids_views metadata.ipc_schema.fields) after → AppendsFile (Err error) bytes chunks
end_refused errors.OutOfMemory bytes middle metadata end before after base chunks kept are why = tt
end_refused errors.Overflow bytes middle metadata end before after base chunks kept are_there why =
    let first = take end bytes ++ replicate (before.place - end) 0 in
    let are = under_own metadata end before bytes base
    (λ (schema : Schema) (ids : IdsList). AreAppended before after schema ids (told_by before.told) chunks first middle) kept are_there in
    let own = under_own metadata end before bytes base
    (λ (schema : Schema) (ids : IdsList). HasNoFooter errors.Overflow schema ids after) kept why in
    some_and (base_of bytes) base (λ (it : Base). ArePastLimits bytes it chunks) kept.given
    (no_end bytes base chunks after (is_base bytes base kept.given).inside
    (are_behind metadata end before after bytes first middle base chunks kept are) own)
end_refused _ bytes middle metadata end before after base chunks kept are why = absurd why

-- a file past the limit is past it with batches behind it
past_file : (bytes : List ℕ) (found : Option Base) (chunks : List (List Column)) → IsSomeAnd found (λ (base : Base). file_limit ≤ length bytes)
    → IsSomeAnd found (λ (base : Base). ArePastLimits bytes base chunks)
past_file bytes None chunks past = absurd past
past_file bytes (Some base) chunks past =
    let batches = batches_of base.found.ids chunks in
    inr (inr (inr (too_long (length bytes) base bytes batches past (not_shorter base bytes batches))))

pub file_refused : (error : Error) (bytes : List ℕ) (chunks : List (List Column)) → IsNotKept error bytes → AppendsFile (Err error) bytes chunks
file_refused errors.OutOfMemory bytes chunks why = tt
file_refused (errors.OutOfSpec what) bytes chunks why = why
file_refused (errors.NotYetImplemented what) bytes chunks why = why
file_refused errors.Overflow bytes chunks why = past_file bytes (base_of bytes) chunks why
file_refused _ bytes chunks why = absurd why
