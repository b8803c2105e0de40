-- What a run of calls of a writer has written.
use Rattle.std.proofs.Common.{◌≡◌, ◌∙◌, ℕ, ◌+◌, List, [], ◌∷◌, ◌++◌, length, refl, sym, ap, subst}
use Rattle.std.specs.Prelude.{Bool, Option, Some, None, Ok}
use Rattle.std.proofs.Math.Nat.{add-zero}
use Rattle.std.proofs.lemmas.List.{append-nil, length-append}
use Rattle.ipc_format_readers.specs.chunk_writing.Opening.{fields_or}
use Rattle.ipc_format_readers.specs.chunk_writing.Tracking.{Tells}
use Rattle.ipc_format_readers.specs.chunk_writing.columns.StoredColumns.{Column}
use Rattle.ipc_format_readers.specs.chunk_writing.declared.Compression.{Compression}
use Rattle.ipc_format_readers.specs.chunk_writing.flatbuffers.Objects.{laid}
use Rattle.ipc_format_readers.specs.chunk_writing.grammar.GivenDictionaries.{Given}
use Rattle.ipc_format_readers.specs.chunk_writing.grammar.Schemas.{IdsList}
use Rattle.ipc_format_readers.specs.chunk_writing.grammar.WrittenFiles.{batch_blocks, footer_bytes, footer_object}
use Rattle.ipc_format_readers.specs.chunk_writing.grammar.WrittenStreams.{Batch, batch_messages, batch_of_stored, bytes_of_messages}
use Rattle.ipc_format_readers.specs.chunk_writing.metadata.Views.{ids_views}
use Rattle.ipc_format_readers.proofs.chunk_lemmas.Appending.{appends_both, appends_same}
use Rattle.ipc_format.specs.Ends.{end_of, end_with, start_bytes}
use Rattle.ipc_format.specs.FilePhases.{Phase, Progress, Writer, broken, finished, fresh, started}
use Rattle.ipc_format.specs.BlockPlacing.{joined_blocks}
use Rattle.ipc_format.specs.FileRuns.{FilesAreWritten, FinishesFile, HasWritten, StartsNone, WritesMore, bytes_so_far, first_place}
use Rattle.ipc_format.specs.FileRuns.{told_with}
use Rattle.ipc_format.specs.FileWriting.{FinishesIn, IsStarted, IsWritten, StartsIn, WritesIn, WritesUnder}
use Rattle.ipc_format.proofs.FileEndBytes.{end_of_new}
use Rattle.ipc_format.proofs.FileRunBytes.{blocks_more, bytes_more, file_whole, footer_is, place_is, told_more}

module _ {W : Type 0} (contents : W → Option (List ℕ)) (failures : W → ℕ) (in_memory : Bool) where
  -- ---- calls that succeed come in order

  starts_in : (phase : Phase) (old new : Writer W) → StartsIn contents failures in_memory phase old new (Ok tt)
      → IsStarted contents failures in_memory old new
  starts_in fresh old new does = does
  starts_in (started progress) old new does = absurd does
  starts_in finished old new does = absurd does
  starts_in broken old new does = absurd does

  pub writes_under : (compression : Option Compression) (old new : Writer W) (before : Progress) (ids : IdsList) (columns : List Column)
      → WritesUnder contents failures in_memory compression old new before ids columns (Ok tt)
      → (told : List Given) → Tells before.told told → IsWritten contents failures in_memory old new before ids told columns
  writes_under None old new before ids columns does = does
  writes_under (Some compression) old new before ids columns does = absurd does

  -- ---- start

  starts_none : StartsNone contents failures in_memory
  starts_none old new does =
      let here = starts_in old.phase old new does in
      record {
        progress = _;
        phase = here.sends.phase;
        schema = here.sends.schema;
        ids = here.sends.ids;
        device = appends_same _ _ _ _ (sym (append-nil (start_bytes old.schema (ids_views old.ids)))) here.sends.device;
        tells = λ id. refl;
        place = sym (place_is old.schema (ids_views old.ids) [] ∙ add-zero (first_place old.schema (ids_views old.ids)));
        size = refl;
        blocks = refl;
      }

  -- ---- write

  adds : (old now new : Writer W) (batches : List Batch) (ids : IdsList) (columns : List Column)
      (before : HasWritten contents failures in_memory old now batches)
      → IsWritten contents failures in_memory now new before.progress ids (told_with [] batches) columns
      → HasWritten contents failures in_memory old new (batches ++ batch_of_stored ids columns ∷ [])
  adds old now new batches ids columns before does =
      let batch = batch_of_stored ids columns in
      let next = bytes_of_messages (batch_messages (told_with [] batches) batch) in
      let so_far = bytes_so_far old.schema (ids_views old.ids) batches in
      let more = bytes_more old.schema (ids_views old.ids) batches batch in
      record {
        progress = does.after;
        phase = does.sends.phase;
        schema = does.sends.schema ∙ before.schema;
        ids = does.sends.ids ∙ before.ids;
        device = appends_same _ _ _ _ (sym more) (appends_both _ _ _ so_far next before.device does.sends.device);
        tells = subst (λ (told : List Given). Tells does.after.told told) (sym (told_more [] batches batch)) does.behind.tells;
        place = does.behind.place ∙ ap (λ (n : ℕ). n + length next) before.place ∙ sym (length-append so_far next)
            ∙ ap (λ (bytes : List ℕ). length bytes) (sym more);
        size = does.behind.size ∙ before.size;
        blocks = does.behind.blocks
            ∙ (λ j. joined_blocks (before.blocks j)
            (batch_blocks ((before.place ∙ place_is old.schema (ids_views old.ids) batches) j) (told_with [] batches) (batch ∷ [])))
            ∙ sym (blocks_more (first_place old.schema (ids_views old.ids)) [] batches batch);
      }

  writes_more : WritesMore contents failures in_memory
  writes_more old now new batches fields columns before does =
      let ids = ids_views (fields_or now.ids fields) in
      let under = subst (λ (phase : Phase). WritesIn contents failures in_memory phase now new fields columns (Ok tt)) before.phase does in
      adds old now new batches ids columns before
      (writes_under now.compression now new before.progress ids columns under (told_with [] batches) before.tells)

  -- ---- finish

  finishes_file : FinishesFile contents failures in_memory
  finishes_file old now new batches before does =
      let here = subst (λ (phase : Phase). FinishesIn contents failures in_memory phase now new (Ok tt)) before.phase does in
      let schema = old.schema in
      let ids = ids_views old.ids in
      let so_far = bytes_so_far schema ids batches in
      let same : here.footer ≡ footer_bytes schema ids batches =
      here.is.same ∙ (λ j. laid (footer_object (before.schema j) (ids_views (before.ids j)) (before.blocks j))) ∙ footer_is schema ids batches in (
        appends_same _ _ _ _
            (ap (λ (bytes : List ℕ). so_far ++ bytes) (end_of_new before.progress here.footer before.size)
            ∙ ap (λ (footer : List ℕ). so_far ++ end_with footer) same ∙ file_whole schema ids batches)
            (appends_both _ _ _ so_far (end_of before.progress here.footer) before.device here.sends.device),
        here.sends.phase,
      )

  pub files_are_written : FilesAreWritten contents failures in_memory
  files_are_written = (starts_none, writes_more, finishes_file)
