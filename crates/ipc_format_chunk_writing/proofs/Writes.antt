-- What a batch that was written leaves.
use Rattle.std.proofs.Common.{◌≡◌, ◌∙◌, ℕ, false, List, [], ◌∷◌, ◌++◌, ap, subst, inl}
use Rattle.std.specs.Prelude.{ℤ, Bool, Option, None, Ok, Err}
use Rattle.std.specs.Io.KnownBytes.{Appends}
use Rattle.ipc_format_chunk_writing.specs.Tracking.{Tells, form_by}
use Rattle.ipc_format_batch_reading.specs.columnar_memory.declared.Error.{Error}
use Rattle.ipc_format_batch_reading.specs.columnar_memory.declared.Schema.{Schema}
use Rattle.ipc_format_batch_reading.specs.columns.StoredColumns.{Column}
use Rattle.ipc_format_batch_reading.specs.reading.array_reading.column_writing.declared.Compression.{Compression}
use Rattle.ipc_format_batch_reading.specs.grammar.GivenDictionaries.{Given}
use Rattle.ipc_format_batch_reading.specs.grammar.Schemas.{IdsList}
use Rattle.ipc_format_batch_reading.specs.grammar.WriterRuns.{write_bar}
use Rattle.ipc_format_batch_reading.specs.grammar.WrittenMessages.{Written}
use Rattle.ipc_format_batch_reading.specs.grammar.WrittenStreams.{bytes_of_messages, stored_columns}
use Rattle.ipc_format_batch_reading.specs.metadata.Views.{ids_views}
use Rattle.ipc_format_batch_reading.specs.metadata.declared.ipc_schema.IpcField.{IpcField}
use Rattle.ipc_format_chunk_writing.specs.Objections.{IsNotWritten}
use Rattle.ipc_format_chunk_writing.specs.Opening.{fields_or}
use Rattle.ipc_format_chunk_writing.specs.Phases.{Phase, Writer, started}
use Rattle.ipc_format_chunk_writing.specs.Streams.{EncodesBatch}
use Rattle.ipc_format_chunk_writing.specs.Writing.{IsWritten, WritesChunk, WritesIn, WritesUnder}

module _ {W : Type 0} (contents : W → Option (List ℕ)) (failures : W → ℕ) (in_memory : Bool) where
  written_with : (old new : Writer W) (schema : Schema) (own : List IpcField) (ids : IdsList) (columns : List Column)
      (before after : List (ℤ × Column) × Bool) (messages : List Written) (last : Written)
      → before.1 ≡ false → EncodesBatch schema before after ids columns (Ok messages) last
      → Appends (contents old.device) (contents new.device) (bytes_of_messages (messages ++ last ∷ []))
      → failures new.device ≡ failures old.device → new.compression ≡ old.compression → new.phase ≡ started schema own after.0
      → (told : List Given) → Tells before.0 told → IsWritten contents failures in_memory old new schema own ids told columns
  written_with old new schema own ids columns before after messages last replaces encodes sent count kept now told tells =
      let here = encodes told tells in
      record {
        fit = here.fit;
        bar = subst (λ (b : Bool). write_bar (form_by b) schema ids told (stored_columns columns) ≡ None) replaces here.bar;
        entries = after.0;
        tells = here.tells;
        sends = record {
          device = subst (λ (them : List Written). Appends (contents old.device) (contents new.device) (bytes_of_messages them)) here.sent sent;
          count = count;
          compression = kept;
          phase = now;
        };
      }

  -- a started writer, which compresses nothing, has written a batch
  pub batch_written : (old new : Writer W) (schema : Schema) (own : List IpcField) (given : Option (List IpcField)) (columns : List Column)
      (before after : List (ℤ × Column) × Bool) (messages : List Written) (last : Written)
      → started schema own before.0 ≡ old.phase → None ≡ old.compression → before.1 ≡ false
      → EncodesBatch schema before after (ids_views (fields_or own given)) columns (Ok messages) last
      → Appends (contents old.device) (contents new.device) (bytes_of_messages (messages ++ last ∷ []))
      → failures new.device ≡ failures old.device → new.compression ≡ old.compression → new.phase ≡ started schema own after.0
      → WritesChunk contents failures in_memory old new given columns (Ok tt)
  batch_written old new schema own given columns before after messages last phase none replaces encodes sent count kept now =
      subst (λ (some : Phase). WritesIn contents failures in_memory some old new given columns (Ok tt)) phase
      (subst (λ (some : Option Compression). WritesUnder contents failures in_memory some old new schema own (ids_views (fields_or own given))
      before.0 columns (Ok tt)) none
      (written_with old new schema own (ids_views (fields_or own given)) columns before after messages last replaces encodes sent count
      kept now))

  -- a writer whose stream is started
  abbrev pub started_with : W → Option Compression → Schema → List IpcField → List (ℤ × Column) → Writer W
  started_with device compression schema own entries =
      record { device = device; compression = compression; phase = started schema own entries }

  -- a started writer, which compresses nothing, has refused a batch that is not encoded
  pub batch_refused : (device : W) (compression : Option Compression) (old : Writer W) (schema : Schema) (own : List IpcField)
      (given : Option (List IpcField)) (columns : List Column) (before after : List (ℤ × Column) × Bool) (error : Error) (last : Written)
      → started_with device compression schema own before.0 ≡ old → None ≡ compression → before.1 ≡ false
      → EncodesBatch schema before after (ids_views (fields_or own given)) columns (Err error) last
      → WritesChunk contents failures in_memory old (started_with device compression schema own after.0) given columns (Err error)
  batch_refused device compression old schema own given columns before after error last was none replaces encodes =
      let new = started_with device compression schema own after.0 in
      subst (λ (some : Phase). WritesIn contents failures in_memory some old new given columns (Err error)) (λ j. (was j).phase)
      (subst (λ (some : Option Compression). WritesUnder contents failures in_memory some old new schema own (ids_views (fields_or own given))
      before.0 columns (Err error)) (none ∙ (λ j. (was j).compression))
      (λ told tells. (let here = encodes told tells in
      inl (
        subst (λ (b : Bool). IsNotWritten (form_by b) error schema (ids_views (fields_or own given)) told columns) replaces here.0,
        ap (λ (now : List (ℤ × Column) × Bool). started_with device compression schema own now.0) here.1 ∙ was,
      ))))
