-- What calls of a writer leave.
use Rattle.std.proofs.Common.{◌≡◌, ◌∙◌, ℕ, true, false, List, [], ◌∷◌, ◌++◌, refl, ap, subst, inl, inr}
use Rattle.std.specs.Prelude.{Bool, Option, None, Result, Ok, Err}
use Rattle.std.specs.Io.KnownBytes.{Appends}
use Rattle.std.proofs.lemmas.Bool.{both_ways}
use Rattle.ipc_format_readers.specs.chunk_writing.Objections.{IsNotStarted}
use Rattle.ipc_format_readers.specs.chunk_writing.Opening.{fields_or}
use Rattle.ipc_format_readers.specs.chunk_writing.EncodedChunks.{message_in}
use Rattle.ipc_format_readers.specs.chunk_writing.Tracking.{Tells}
use Rattle.ipc_format_readers.specs.chunk_writing.columnar_memory.declared.Error.{Error}
use Rattle.ipc_format_readers.specs.chunk_writing.columnar_memory.declared.Schema.{Schema}
use Rattle.ipc_format_readers.specs.chunk_writing.columns.StoredColumns.{Column}
use Rattle.ipc_format_readers.specs.chunk_writing.declared.Compression.{Compression}
use Rattle.ipc_format_readers.specs.chunk_writing.grammar.GivenDictionaries.{Given}
use Rattle.ipc_format_readers.specs.chunk_writing.grammar.Schemas.{IdsList}
use Rattle.ipc_format_readers.specs.chunk_writing.grammar.WrittenMessages.{Written}
use Rattle.ipc_format_readers.specs.chunk_writing.grammar.WrittenStreams.{bytes_of_messages}
use Rattle.ipc_format_readers.specs.chunk_writing.metadata.Views.{ids_views}
use Rattle.ipc_format_readers.specs.chunk_writing.metadata.declared.ipc_schema.IpcField.{IpcField}
use Rattle.ipc_format_readers.specs.streams.declared.EncodedData.{EncodedData}
use Rattle.ipc_format.specs.declared.state as kept
use Rattle.ipc_format.specs.Adding.{AddsBatch}
use Rattle.ipc_format.specs.Ends.{first_bytes}
use Rattle.ipc_format.specs.FileOpening.{IsOpening}
use Rattle.ipc_format.specs.FilePhases.{Phase, Progress, Writer, broken, finished, fresh, is_fresh, progress_of, started}
use Rattle.ipc_format.specs.FileWriting.{IsMadeStarted, IsNew, IsWritten, Starts, StartsFresh, StartsIn, WritesChunk, WritesIn, WritesUnder}

-- What a device shows of its bytes, and how often it has failed
module _ {W : Type 0} (contents : W → Option (List ℕ)) (failures : W → ℕ) (in_memory : Bool) where
  -- a fresh writer starts
  pub starts_by : (phase : Phase) (old new : Writer W) (result : Result (Unit {0}) Error) → is_fresh phase ≡ true
      → StartsFresh contents failures in_memory old new result → StartsIn contents failures in_memory phase old new result
  starts_by fresh old new result is how = how
  starts_by (started progress) old new result is how = absurd (both_ways false refl is)
  starts_by finished old new result is how = absurd (both_ways false refl is)
  starts_by broken old new result is how = absurd (both_ways false refl is)

  -- it has written the start of its file
  pub has_started : (old new : Writer W) (file : kept.Progress.Progress) (message : EncodedData) → is_fresh old.phase ≡ true
      → IsOpening file message old.schema (ids_views old.ids)
      → Appends (contents old.device) (contents new.device) (first_bytes (message_in message))
      → failures new.device ≡ failures old.device → new.schema ≡ old.schema → new.ids ≡ old.ids
      → new.compression ≡ old.compression → new.phase ≡ started (progress_of file) → Starts contents failures in_memory old new (Ok tt)
  has_started old new file message is opens sent count schema ids kept now =
      starts_by old.phase old new (Ok tt) is (record {
        may = opens.may;
        fits = opens.fits;
        sends = record {
          device = subst (λ (it : Written). Appends (contents old.device) (contents new.device) (first_bytes it)) opens.same sent;
          count = count;
          schema = schema;
          ids = ids;
          compression = kept;
          phase = now ∙ ap started opens.first;
        };
      })

  -- a new writer that is refused at its start is not made: its schema is not written, or its device failed
  pub not_made : (made after : Writer W) (device : W) (schema : Schema) (ids : IdsList) (compression : Option Compression) (error : Error)
      → IsNew made device schema ids compression → Starts contents failures in_memory made after (Err error)
      → IsMadeStarted contents failures in_memory (Err error) device schema ids compression
  not_made made after device schema ids compression error is_new starts =
      why (subst (λ (phase : Phase). StartsIn contents failures in_memory phase made after (Err error)) is_new.nothing starts) where
        why : StartsFresh contents failures in_memory made after (Err error)
            → IsMadeStarted contents failures in_memory (Err error) device schema ids compression
        why (inl stays) = inl (subst (λ (its : Schema). IsNotStarted error its ids) is_new.same_schema
            (subst (λ (its : IdsList). IsNotStarted error made.schema its) is_new.same_ids stays.0))
        why (inr breaks) = inr (record { made = made; after = after; is_new = is_new; breaks = breaks })

  -- a writer whose file is started, and compresses nothing, has written a batch
  pub batch_written : (old new : Writer W) (before after : Progress) (given : Option (List IpcField)) (columns : List Column)
      (messages : List Written) (last : Written) → started before ≡ old.phase → None ≡ old.compression
      → AddsBatch old.schema before after (ids_views (fields_or old.ids given)) columns (Ok messages) last
      → Appends (contents old.device) (contents new.device) (bytes_of_messages (messages ++ last ∷ []))
      → failures new.device ≡ failures old.device → new.schema ≡ old.schema → new.ids ≡ old.ids → new.compression ≡ old.compression
      → new.phase ≡ started after
      → WritesChunk contents failures in_memory old new given columns (Ok tt)
  batch_written old new before after given columns messages last phase none adds sent count schema ids kept now =
      subst (λ (some : Phase). WritesIn contents failures in_memory some old new given columns (Ok tt)) phase
      (subst (λ (some : Option Compression). WritesUnder contents failures in_memory some old new before (ids_views (fields_or old.ids given))
      columns (Ok tt)) none written)
    where
      written : (told : List Given) → Tells before.told told
          → IsWritten contents failures in_memory old new before (ids_views (fields_or old.ids given)) told columns
      written told tells =
          let here = adds told tells in
          record {
            fit = here.fit;
            bar = here.bar;
            after = after;
            behind = here.behind;
            sends = record {
              device = subst (λ (them : List Written). Appends (contents old.device) (contents new.device) (bytes_of_messages them)) here.sent sent;
              count = count;
              schema = schema;
              ids = ids;
              compression = kept;
              phase = now;
            };
          }
