-- What a run of calls of a writer has added to a file.
use Rattle.std.proofs.Common.{◌≡◌, ◌∙◌, ℕ, List, [], ◌∷◌, ◌++◌, refl, sym, ap, subst}
use Rattle.std.specs.Prelude.{Bool, Option, Ok}
use Rattle.ipc_format_readers.specs.chunk_writing.Opening.{fields_or}
use Rattle.ipc_format_readers.specs.chunk_writing.columns.StoredColumns.{Column}
use Rattle.ipc_format_readers.specs.chunk_writing.grammar.GivenDictionaries.{Given}
use Rattle.ipc_format_readers.specs.chunk_writing.grammar.Schemas.{IdsList}
use Rattle.ipc_format_readers.specs.chunk_writing.grammar.WrittenStreams.{Batch, batch_messages, batch_of_stored, bytes_of_messages}
use Rattle.ipc_format_readers.specs.chunk_writing.grammar.WrittenStreams.{messages_after}
use Rattle.ipc_format_readers.specs.chunk_writing.metadata.Views.{ids_views}
use Rattle.ipc_format_readers.proofs.chunk_lemmas.Appending.{appends_both, appends_nothing, appends_same}
use Rattle.ipc_format.specs.Ends.{end_of, footer_of}
use Rattle.ipc_format.specs.FilePhases.{Phase, Progress, Writer}
use Rattle.ipc_format.specs.Resuming.{AddsMore, AddsNone, EndsGrown, FilesGrow, HasAdded}
use Rattle.ipc_format.specs.FileRuns.{told_with}
use Rattle.ipc_format.specs.FileWriting.{FinishesIn, IsWritten, WritesIn}
use Rattle.ipc_format.proofs.Runs.{writes_under}
use Rattle.ipc_format.proofs.StandBehind.{bytes_with, none_stand, one_stands}

module _ {W : Type 0} (contents : W → Option (List ℕ)) (failures : W → ℕ) (in_memory : Bool) where
  adds_none : AddsNone contents failures in_memory
  adds_none old before told phase tells = record {
    progress = before;
    phase = phase;
    schema = refl;
    ids = refl;
    device = appends_nothing (contents old.device);
    stand = none_stand before told tells;
  }

  -- ---- write

  adds : (old now new : Writer W) (before : Progress) (told : List Given) (batches : List Batch) (ids : IdsList) (columns : List Column)
      (added : HasAdded contents failures in_memory old now before told batches)
      → IsWritten contents failures in_memory now new added.progress ids (told_with told batches) columns
      → HasAdded contents failures in_memory old new before told (batches ++ batch_of_stored ids columns ∷ [])
  adds old now new before told batches ids columns added does =
      let batch = batch_of_stored ids columns in
      let next = bytes_of_messages (batch_messages (told_with told batches) batch) in
      record {
        progress = does.after;
        phase = does.sends.phase;
        schema = does.sends.schema ∙ added.schema;
        ids = does.sends.ids ∙ added.ids;
        device = appends_same _ _ _ _ (sym (bytes_with told batches batch))
            (appends_both _ _ _ (bytes_of_messages (messages_after told batches)) next added.device does.sends.device);
        stand = one_stands before added.progress told batches batch added.stand does.after does.behind;
      }

  adds_more : AddsMore contents failures in_memory
  adds_more old now new before told batches fields columns added does =
      let ids = ids_views (fields_or now.ids fields) in
      let under = subst (λ (phase : Phase). WritesIn contents failures in_memory phase now new fields columns (Ok tt)) added.phase does in
      adds old now new before told batches ids columns added
      (writes_under contents failures in_memory now.compression now new added.progress ids columns under (told_with told batches) added.stand.tells)

  -- ---- finish

  ends_grown : EndsGrown contents failures in_memory
  ends_grown old now new before told batches added does =
      let here = subst (λ (phase : Phase). FinishesIn contents failures in_memory phase now new (Ok tt)) added.phase does in
      let messages = bytes_of_messages (messages_after told batches) in
      let same : here.footer ≡ footer_of old.schema (ids_views old.ids) added.progress =
      here.is.same ∙ (λ j. footer_of (added.schema j) (ids_views (added.ids j)) added.progress) in (
        appends_same _ _ _ _ (ap (λ (footer : List ℕ). messages ++ end_of added.progress footer) same)
            (appends_both _ _ _ messages (end_of added.progress here.footer) added.device here.sends.device),
        here.sends.phase,
      )

  pub files_grow : FilesGrow contents failures in_memory
  files_grow = (adds_none, adds_more, ends_grown)
