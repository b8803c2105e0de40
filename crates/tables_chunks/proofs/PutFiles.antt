-- The parts of a table's file, put one behind the other.
use Rattle.std.proofs.Common.{◌≡◌, ◌∙◌, ℕ, ◌+◌, true, List, [], ◌++◌, length, refl, sym, ap, subst, inl, inr}
use Rattle.std.specs.Prelude.{Option, Result, Ok, Err, nat_lt}
use Rattle.std.specs.Io.KnownBytes.{Appends}
use Rattle.std.specs.declared.alloc.Global.{Global}
use Rattle.std.specs.declared.vec.Vec.{Vec}
use Rattle.std.proofs.lemmas.Bool.{and_from, le-ltb}
use Rattle.std.proofs.lemmas.List.{length-append}
use Rattle.columnar_memory_types.specs.Error.{IsIo, IsOutOfMemory}
use Rattle.ipc_format.specs.columnar_memory.declared.Error.{Error}
use Rattle.ipc_format.specs.columnar_memory.declared.Error.TheVariants as errors
use Rattle.ipc_format.specs.columnar_memory.declared.Schema.{Schema}
use Rattle.ipc_format.specs.columns.StoredColumns.{Column}
use Rattle.ipc_format.specs.grammar.Limits.{file_limit}
use Rattle.ipc_format.specs.BlockPlacing.{place_behind}
use Rattle.ipc_format.specs.Ends.{end_with, has_room, start_bytes}
use Rattle.ipc_format.specs.FileRuns.{first_place}
use Rattle.ipc_format.specs.FooterWriting.{WritesFooter}
use Rattle.ipc_format.specs.GivenDictionaries.{Given}
use Rattle.ipc_format.specs.Ids.{ids_fit_fields}
use Rattle.ipc_format.specs.Schemas.{IdsList}
use Rattle.ipc_format.specs.Writable.{is_writable}
use Rattle.ipc_format.specs.WrittenFiles.{Blocks, batch_blocks, file_start, fits_file_limit, footer_object, is_footer}
use Rattle.ipc_format.specs.WrittenMessages.{fits_limit, framed, message_bytes, schema_written}
use Rattle.ipc_format.specs.WrittenStreams.{Batch, batch_of_stored, bytes_of_messages, messages_after}
use Rattle.ipc_format.specs.flatbuffers.Objects.{laid}
use Rattle.ipc_format.specs.streams.Devices.{AppendsBeginning, Puts}
use Rattle.ipc_format.specs.writing.Floats.{has_float}
use Rattle.ipc_format.specs.writing.Writing.{WritesSchema, may_write}
use Rattle.ipc_format.proofs.Appending.{appends_both, begins_behind, begins_first, begins_nothing, begins_same}
use Rattle.ipc_format.proofs.DefaultIds.{defaults_fit}
use Rattle.ipc_format.proofs.FileFirsts.{first_is}
use Rattle.ipc_format.proofs.FileRunBytes.{file_whole, footer_is, place_is}
use Rattle.ipc_format.proofs.NoFloats.{no_float}
use Rattle.tables_chunks.specs.PutMessages.{PutsSchema}
use Rattle.tables_chunks.specs.Refusals.{StopsAtSchema}
use Rattle.tables_chunks.specs.WrittenFiles.{AreFilePut, FilePlaces, GivesTableFooter, IsFilePast, IsFileRefusal, PutsFile, PutsFileStart}
use Rattle.tables_chunks.specs.WrittenFiles.{ReplacesOne, StopsAmongFile, StopsAtFileBatch, StopsAtLongFile, StopsAtReplaced, file_so_far}
use Rattle.tables_chunks.specs.WrittenFiles.{placed_footer, table_file, table_footer}
use Rattle.tables_chunks.specs.WrittenTables.{are_within, table_ids, told_after, written_batches}
use Rattle.tables_chunks.proofs.FileRefused.{file_as_stream, file_io, file_memory, file_refused_by}
use Rattle.tables_chunks.proofs.PutBatches.{HasMetadata, not_both, schema_put, schema_unwritten}
use Rattle.tables_chunks.proofs.PutFileBatches.{FileRefusedAmong}

-- ---- the start

-- the schema's metadata isn't made
pub start_unwritten : (error : Error) (contents : Option (List ℕ)) (schema : Schema) (ids : IdsList) → is_writable schema ≡ true
    → ids ≡ table_ids schema → WritesSchema (Err error) schema ids → PutsFileStart (Err error) contents contents schema
start_unwritten error contents schema ids writable same refused = (
  begins_nothing contents _,
  file_as_stream (StopsAtSchema contents contents schema) ⊥ error (schema_unwritten error contents schema ids writable same refused).1,
)

-- the mark is refused
pub mark_refused : (error : Error) (old new : Option (List ℕ)) (schema : Schema) → IsIo error × AppendsBeginning old new file_start
    → PutsFileStart (Err error) old new schema
mark_refused error old new schema refused = (
  begins_first old new file_start (message_bytes (schema_written schema (table_ids schema))) refused.1,
  file_io (StopsAtSchema old new schema) ⊥ error refused.0,
)

-- the schema's message is refused behind it
pub start_refused : (error : Error) (old between new : Option (List ℕ)) (schema : Schema) (ids : IdsList) (metadata body : List ℕ)
    → ids ≡ table_ids schema → HasMetadata schema ids metadata → body ≡ [] → Appends old between file_start
    → IsIo error × AppendsBeginning between new (framed metadata body) → PutsFileStart (Err error) old new schema
start_refused error old between new schema ids metadata body same made none first refused =
    let put : PutsSchema (Err error) between new schema = schema_put (Err error) between new schema ids metadata body same made none refused in (
      begins_behind old between new file_start (message_bytes (schema_written schema (table_ids schema))) first put.0,
      file_io (StopsAtSchema old new schema) ⊥ error refused.0,
    )

-- both are put
pub start_put : (old between new : Option (List ℕ)) (schema : Schema) (ids : IdsList) (metadata body : List ℕ) (n place : ℕ)
    → ids ≡ table_ids schema → HasMetadata schema ids metadata → body ≡ [] → Appends old between file_start
    → Appends between new (framed metadata body) → n ≡ length metadata → place ≡ 16 + n → PutsFileStart (Ok place) old new schema
start_put old between new schema ids metadata body n place same made none first second long at =
    let put : PutsSchema (Ok tt) between new schema = schema_put (Ok tt) between new schema ids metadata body same made none second in
    let start = first_is schema ids metadata n [] [] [] made.2 long refl refl refl in (
      put.0,
      appends_both old between new file_start (message_bytes (schema_written schema (table_ids schema))) first put.1,
      at ∙ (λ j. (start j).place) ∙ ap (first_place schema) same,
    )

-- ---- the footer

-- it isn't made
pub footer_unwritten : (error : Error) (schema : Schema) (ids : IdsList) (places : FilePlaces) → is_writable schema ≡ true → ids ≡ table_ids schema
    → WritesFooter (Err error) schema ids places.blocks → GivesTableFooter (Err error) schema places
footer_unwritten error schema ids places writable same refused =
    why error (subst (λ (some : IdsList). WritesFooter (Err error) schema some places.blocks) same refused)
  where
    may : may_write schema (table_ids schema) ≡ true
    may = and_from (is_writable schema) (ids_fit_fields schema.fields (table_ids schema)) writable (defaults_fit schema writable)

    why : (error : Error) → WritesFooter (Err error) schema (table_ids schema) places.blocks → GivesTableFooter (Err error) schema places
    why errors.Overflow refused = inl (le-ltb (length (placed_footer schema places)) _ refused.1)
    why errors.OutOfMemory refused = tt
    why (errors.NotYetImplemented what) refused = absurd (not_both (has_float schema) refused (no_float schema writable))
    why (errors.InvalidArgumentError what) refused = absurd (not_both (may_write schema (table_ids schema)) may refused.1)
    why (errors.ExternalFormat what) refused = absurd refused
    why (errors.OutOfSpec what) refused = absurd refused
    why (errors.External from what) refused = absurd refused
    why (errors.Io what) refused = absurd refused

-- the footer of the places of all messages is the file's
footer_placed : (schema : Schema) (batches : List (List Column)) (places : FilePlaces) (place : ℕ) → place ≡ first_place schema (table_ids schema)
    → places.blocks ≡ batch_blocks place [] (written_batches schema batches) → placed_footer schema places ≡ table_footer schema batches
footer_placed schema batches places place at placed =
    let all = written_batches schema batches in
    ap (λ (blocks : Blocks). laid (footer_object schema (table_ids schema) blocks))
    (placed ∙ ap (λ (n : ℕ). batch_blocks n [] all) at)
    ∙ footer_is schema (table_ids schema) all

-- where the messages end
ends_at : (schema : Schema) (batches : List (List Column)) (place : ℕ) → place ≡ first_place schema (table_ids schema)
    → place_behind place (messages_after [] (written_batches schema batches)) ≡ length (file_so_far schema batches)
ends_at schema batches place at =
    ap (λ (n : ℕ). place_behind n (messages_after [] (written_batches schema batches))) at
    ∙ sym (place_is schema (table_ids schema) (written_batches schema batches))

-- the file is within its limit where there is room for its footer
room_is : (schema : Schema) (batches : List (List Column)) (next : ℕ) (footer : List ℕ) → next ≡ length (file_so_far schema batches)
    → footer ≡ table_footer schema batches → has_room next footer ≡ fits_file_limit (table_file schema batches)
room_is schema batches next footer at same =
    let so_far = file_so_far schema batches in
    (λ j. nat_lt (at j + length (end_with (same j))) file_limit)
    ∙ ap (λ (n : ℕ). nat_lt n file_limit) (sym (length-append so_far (end_with (table_footer schema batches))))
    ∙ ap fits_file_limit (file_whole schema (table_ids schema) (written_batches schema batches))

-- ---- the whole file

-- there was no memory for the ids
pub file_ids_stopped : (error : Error) (contents : Option (List ℕ)) (schema : Schema) (batches : List (List Column)) → IsOutOfMemory error
    → PutsFile (Err error) contents contents schema batches
file_ids_stopped error contents schema batches refused = (
  begins_nothing contents (table_file schema batches),
  file_memory (StopsAtLongFile contents contents schema batches) (StopsAtReplaced contents contents schema batches) error refused,
)

-- the file by what stands before its footer and the end mark
whole_is : (schema : Schema) (batches : List (List Column))
    → file_so_far schema batches ++ end_with (table_footer schema batches) ≡ table_file schema batches
whole_is schema batches = file_whole schema (table_ids schema) (written_batches schema batches)

-- the start is refused
pub file_start_stopped : (error : Error) (old new : Option (List ℕ)) (schema : Schema) (batches : List (List Column))
    → PutsFileStart (Err error) old new schema → PutsFile (Err error) old new schema batches
file_start_stopped error old new schema batches refused =
    let first = start_bytes schema (table_ids schema) in
    let others = bytes_of_messages (messages_after [] (written_batches schema batches)) in (
      begins_same old new _ _ (whole_is schema batches)
          (begins_first old new (first ++ others) (end_with (table_footer schema batches)) (begins_first old new first others refused.0)),
      file_refused_by error (λ (stops : StopsAtSchema old new schema). inl stops) (λ (none : ⊥). absurd none) refused.1,
    )

-- a stop among the batches is one of the file
stops_at : (Why : List Given → Batch → ℕ → Type 0) (old between new : Option (List ℕ)) (schema : Schema) (batches : List (List Column)) (place : ℕ)
    → PutsFileStart (Ok place) old between schema → StopsAmongFile Why place between new schema batches
    → StopsAtFileBatch Why old new schema batches
stops_at Why old between new schema batches place first stops =
    let some = written_batches schema stops.before in
    record {
      before = stops.before;
      batch = stops.batch;
      after = stops.after;
      split = stops.split;
      within = and_from (fits_limit (schema_written schema (table_ids schema))) (are_within [] some) first.0 stops.within;
      why = subst (Why (told_after [] some) (batch_of_stored (table_ids schema) stops.batch)) (ends_at schema stops.before place first.2) stops.why;
      written = appends_both old between new (start_bytes schema (table_ids schema)) (bytes_of_messages (messages_after [] some)) first.1
          stops.written;
    }

-- the batches are refused behind the start
pub file_batches_stopped : (error : Error) (old between new : Option (List ℕ)) (schema : Schema) (batches : List (List Column)) (place : ℕ)
    → PutsFileStart (Ok place) old between schema → FileRefusedAmong error place between new schema batches
    → PutsFile (Err error) old new schema batches
file_batches_stopped error old between new schema batches place first refused =
    let start = start_bytes schema (table_ids schema) in
    let others = bytes_of_messages (messages_after [] (written_batches schema batches)) in (
      begins_same old new _ _ (whole_is schema batches)
          (begins_first old new (start ++ others) (end_with (table_footer schema batches))
          (begins_behind old between new start others first.1 refused.0)),
      file_refused_by error (λ stops. inr (inl (stops_at IsFilePast old between new schema batches place first stops)))
          (λ stops. stops_at ReplacesOne old between new schema batches place first stops) refused.1,
    )

-- all messages are put
all_messages : (old between new : Option (List ℕ)) (schema : Schema) (batches : List (List Column)) (place : ℕ) (places : FilePlaces)
    → PutsFileStart (Ok place) old between schema → AreFilePut place between new places (written_batches schema batches)
    → Appends old new (file_so_far schema batches)
all_messages old between new schema batches place places first put =
    appends_both old between new (start_bytes schema (table_ids schema)) (bytes_of_messages (messages_after [] (written_batches schema batches)))
    first.1 put.written

-- why there is no footer
no_footer : (error : Error) (old new : Option (List ℕ)) (schema : Schema) (batches : List (List Column)) (places : FilePlaces)
    → placed_footer schema places ≡ table_footer schema batches → places.next ≡ length (file_so_far schema batches)
    → Appends old new (file_so_far schema batches) → GivesTableFooter (Err error) schema places
    → IsFileRefusal (StopsAtLongFile old new schema batches) (StopsAtReplaced old new schema batches) error
no_footer errors.Overflow old new schema batches places same at written (inl long) =
    inr (inr (record { past = inl (ap is_footer (sym same) ∙ long); written = written }))
no_footer errors.Overflow old new schema batches places same at written (inr full) =
    inr (inr (record { past = inr (sym (room_is schema batches places.next (placed_footer schema places) at same) ∙ full); written = written }))
no_footer errors.OutOfMemory old new schema batches places same at written refused = tt
no_footer (errors.InvalidArgumentError what) old new schema batches places same at written refused = absurd refused
no_footer (errors.NotYetImplemented what) old new schema batches places same at written refused = absurd refused
no_footer (errors.ExternalFormat what) old new schema batches places same at written refused = absurd refused
no_footer (errors.OutOfSpec what) old new schema batches places same at written refused = absurd refused
no_footer (errors.External from what) old new schema batches places same at written refused = absurd refused
no_footer (errors.Io what) old new schema batches places same at written refused = absurd refused

-- the footer is refused behind all messages
pub file_footer_stopped : (error : Error) (old between new : Option (List ℕ)) (schema : Schema) (batches : List (List Column)) (place : ℕ)
    (places : FilePlaces) → PutsFileStart (Ok place) old between schema → AreFilePut place between new places (written_batches schema batches)
    → GivesTableFooter (Err error) schema places → PutsFile (Err error) old new schema batches
file_footer_stopped error old between new schema batches place places first put refused =
    let written = all_messages old between new schema batches place places first put in
    let so_far = file_so_far schema batches in (
      (so_far, end_with (table_footer schema batches), sym (whole_is schema batches), written),
      no_footer error old new schema batches places (footer_placed schema batches places place first.2 put.blocks)
          (put.next ∙ ends_at schema batches place first.2) written refused,
    )

-- the end of the file is put, or a beginning of it, behind all messages
pub file_ended : (result : Result (Unit {0}) Error) (old between behind new : Option (List ℕ)) (schema : Schema) (batches : List (List Column))
    (place : ℕ) (places : FilePlaces) (footer : Vec ℕ Global) (bytes : List ℕ) → PutsFileStart (Ok place) old between schema
    → AreFilePut place between behind places (written_batches schema batches) → GivesTableFooter (Ok footer) schema places → bytes ≡ footer.items
    → Puts result behind new (end_with bytes) → PutsFile result old new schema batches
file_ended (Ok _) old between behind new schema batches place places footer bytes first put gives same end =
    let written = all_messages old between behind schema batches place places first put in
    let is : footer.items ≡ table_footer schema batches = gives.0 ∙ footer_placed schema batches places place first.2 put.blocks in
    let so_far = file_so_far schema batches in (
      record {
        within = and_from (fits_limit (schema_written schema (table_ids schema))) (are_within [] (written_batches schema batches)) first.0 put.within;
        once = put.once;
        footer = ap is_footer (sym is) ∙ gives.1;
        room = sym (room_is schema batches places.next footer.items (put.next ∙ ends_at schema batches place first.2) is) ∙ gives.2;
      },
      subst (λ (all : List ℕ). Appends old new all) (ap (λ (them : List ℕ). so_far ++ end_with them) (same ∙ is) ∙ whole_is schema batches)
          (appends_both old behind new so_far (end_with bytes) written end),
    )
file_ended (Err error) old between behind new schema batches place places footer bytes first put gives same end =
    let written = all_messages old between behind schema batches place places first put in
    let is : footer.items ≡ table_footer schema batches = gives.0 ∙ footer_placed schema batches places place first.2 put.blocks in
    let so_far = file_so_far schema batches in (
      begins_same old new _ _ (ap (λ (them : List ℕ). so_far ++ end_with them) (same ∙ is) ∙ whole_is schema batches)
          (begins_behind old behind new so_far (end_with bytes) written end.1),
      file_io (StopsAtLongFile old new schema batches) (StopsAtReplaced old new schema batches) error end.0,
    )
