-- What a run of calls of a writer has written.
use Rattle.std.proofs.Common.{◌≡◌, ◌∙◌, ℕ, true, List, [], ◌∷◌, ◌++◌, refl, sym, ap, subst}
use Rattle.std.specs.Prelude.{ℤ, Bool, Option, Some, None, Ok}
use Rattle.std.proofs.lemmas.Grind.{flat_map-append}
use Rattle.std.proofs.lemmas.List.{append-nil, map-append}
use Rattle.ipc_format_chunk_writing.specs.Tracking.{Tells}
use Rattle.ipc_format_batch_reading.specs.columnar_memory.declared.Schema.{Schema}
use Rattle.ipc_format_batch_reading.specs.columns.StoredColumns.{Column}
use Rattle.ipc_format_batch_reading.specs.reading.array_reading.column_writing.declared.Compression.{Compression}
use Rattle.ipc_format_batch_reading.specs.grammar.GivenDictionaries.{Given}
use Rattle.ipc_format_batch_reading.specs.grammar.Schemas.{IdsList}
use Rattle.ipc_format_batch_reading.specs.grammar.Tables.{Form, stream}
use Rattle.ipc_format_batch_reading.specs.grammar.WriterRuns.{Run, WriteBar, after_start, after_write, after_writes, unless_barred}
use Rattle.ipc_format_batch_reading.specs.grammar.WriterRuns.{with_batch, write_bar}
use Rattle.ipc_format_batch_reading.specs.grammar.WrittenMessages.{end_mark, fits_limit, message_bytes, schema_written}
use Rattle.ipc_format_batch_reading.specs.grammar.WrittenStreams.{Chunk, batch_messages, batch_of_stored, bytes_of_messages}
use Rattle.ipc_format_batch_reading.specs.grammar.WrittenStreams.{is_written_with, stored_columns, written_stream}
use Rattle.ipc_format_batch_reading.specs.metadata.Views.{ids_views}
use Rattle.ipc_format_batch_reading.specs.metadata.declared.ipc_schema.IpcField.{IpcField}
use Rattle.ipc_format_reading_laws.specs.StoredTables.{stored_chunks}
use Rattle.ipc_format_reading_laws.specs.laws.Runs.{run_bytes}
use Rattle.ipc_format_batch_reading.proofs.Appending.{appends_both, appends_same}
use Rattle.ipc_format_reading_laws.proofs.laws_lemmas.Runs.{runs_are_streams}
use Rattle.ipc_format_chunk_writing.specs.Opening.{fields_or}
use Rattle.ipc_format_chunk_writing.specs.Phases.{Phase, Writer, broken, finished, fresh, started}
use Rattle.ipc_format_chunk_writing.specs.Runs.{AreSameIds, FinishesStream, HasWritten, IsRunOf, StartsNone, StreamsAreWritten, WritesMore}
use Rattle.ipc_format_chunk_writing.specs.Writing.{FinishesIn, IsStarted, IsWritten, StartsIn, WritesIn, WritesUnder}

-- ---- runs

-- a run of a start alone
abbrev pub begun : Schema → IdsList → Run
begun schema ids = record { chunks = []; messages = schema_written schema ids ∷ []; told = [] }

pub run_begun : (form : Form) (schema : Schema) (ids : IdsList) → is_written_with schema ids ≡ true
    → fits_limit (schema_written schema ids) ≡ true → IsRunOf form (begun schema ids) schema ids []
unfolding after_start
run_begun form schema ids may fits = record { first = begun schema ids; start = rw (may, fits) refl; writes = refl; all = refl }

-- one write more
writes_behind : (form : Form) (schema : Schema) (ids : IdsList) (first : Run) (chunks : List Chunk) (chunk : Chunk)
    → after_writes form schema ids first (chunks ++ chunk ∷ []) ≡ after_write form schema ids (after_writes form schema ids first chunks) chunk
writes_behind form schema ids first [] chunk = refl
writes_behind form schema ids first (next ∷ chunks) chunk = writes_behind form schema ids (after_write form schema ids first next) chunks chunk

not_barred : (form : Form) (schema : Schema) (ids : IdsList) (run : Run) (columns : List Column)
    → write_bar form schema ids run.told (stored_columns columns) ≡ None
    → after_write form schema ids run (stored_columns columns) ≡ with_batch run (stored_columns columns) (batch_of_stored ids columns)
unfolding after_write
not_barred form schema ids run columns bar =
    ap (λ (it : Option WriteBar). unless_barred run (stored_columns columns) (batch_of_stored ids columns) it) bar

pub chunks_more : (batches : List (List Column)) (columns : List Column)
    → stored_chunks (batches ++ columns ∷ []) ≡ stored_chunks batches ++ stored_columns columns ∷ []
chunks_more batches columns = map-append stored_columns batches (columns ∷ [])

pub run_more : (form : Form) (schema : Schema) (ids : IdsList) (run : Run) (batches : List (List Column)) (columns : List Column)
    → IsRunOf form run schema ids batches → write_bar form schema ids run.told (stored_columns columns) ≡ None
    → IsRunOf form (with_batch run (stored_columns columns) (batch_of_stored ids columns)) schema ids (batches ++ columns ∷ [])
run_more form schema ids run batches columns is bar = record {
  first = is.first;
  start = is.start;
  writes = ap (after_writes form schema ids is.first) (chunks_more batches columns)
      ∙ writes_behind form schema ids is.first (stored_chunks batches) (stored_columns columns)
      ∙ ap (λ (it : Run). after_write form schema ids it (stored_columns columns)) is.writes
      ∙ not_barred form schema ids run columns bar;
  all = ap (λ (chunks : List Chunk). chunks ++ stored_columns columns ∷ []) is.all ∙ sym (chunks_more batches columns);
}

-- the stream that a run stands for
run_stream : (schema : Schema) (ids : IdsList) (run : Run) (batches : List (List Column)) → IsRunOf stream run schema ids batches
    → written_stream schema ids (stored_chunks batches) ≡ Some (run_bytes run)
run_stream schema ids run batches is =
    ap (written_stream schema ids) (sym (ap (λ (it : Run). it.chunks) is.writes ∙ is.all))
    ∙ runs_are_streams schema ids is.first (stored_chunks batches) is.start
    ∙ ap (λ (it : Run). Some (run_bytes it)) is.writes

-- ---- ids

pub given_ids : (own : List IpcField) (ids : IdsList) (fields : Option (List IpcField)) → ids_views own ≡ ids → AreSameIds ids fields
    → ids_views (fields_or own fields) ≡ ids
given_ids own ids None same given = same
given_ids own ids (Some fields) same given = given

module _ {W : Type 0} (contents : W → Option (List ℕ)) (failures : W → ℕ) (in_memory : Bool) where
  -- ---- calls that succeed come in order

  starts_in : (phase : Phase) (old new : Writer W) (schema : Schema) (ids : IdsList)
      → StartsIn contents failures in_memory phase old new schema ids (Ok tt) → IsStarted contents failures in_memory old new schema ids
  starts_in fresh old new schema ids does = does
  starts_in (started its own entries) old new schema ids does = absurd does
  starts_in finished old new schema ids does = absurd does
  starts_in broken old new schema ids does = absurd does

  writes_under : (compression : Option Compression) (old new : Writer W) (schema : Schema) (own : List IpcField) (ids : IdsList)
      (entries : List (ℤ × Column)) (columns : List Column)
      → WritesUnder contents failures in_memory compression old new schema own ids entries columns (Ok tt)
      → (told : List Given) → Tells entries told → IsWritten contents failures in_memory old new schema own ids told columns
  writes_under None old new schema own ids entries columns does = does
  writes_under (Some compression) old new schema own ids entries columns does = absurd does

  -- ---- start

  starts_none : StartsNone contents failures in_memory
  starts_none old new schema ids does =
      let here = starts_in old.phase old new schema ids does in
      record {
        fields = here.fields;
        entries = [];
        phase = here.sends.phase;
        same = here.same;
        run = begun schema ids;
        is = run_begun stream schema ids here.may here.fits;
        device = appends_same _ _ _ _ (sym (append-nil (message_bytes (schema_written schema ids)))) here.sends.device;
        tells = λ id. refl;
      }

  -- ---- write

  adds : (old now new : Writer W) (schema : Schema) (ids : IdsList) (batches : List (List Column)) (columns : List Column)
      (before : HasWritten contents failures in_memory old now schema ids batches)
      → IsWritten contents failures in_memory now new schema before.fields ids before.run.told columns
      → HasWritten contents failures in_memory old new schema ids (batches ++ columns ∷ [])
  adds old now new schema ids batches columns before does =
      let run = before.run in
      let next = batch_messages run.told (batch_of_stored ids columns) in
      record {
        fields = before.fields;
        entries = does.entries;
        phase = does.sends.phase;
        same = before.same;
        run = with_batch run (stored_columns columns) (batch_of_stored ids columns);
        is = run_more stream schema ids run batches columns before.is does.bar;
        device = appends_same _ _ _ _ (sym (flat_map-append message_bytes run.messages next))
            (appends_both _ _ _ (bytes_of_messages run.messages) (bytes_of_messages next) before.device does.sends.device);
        tells = does.tells;
      }

  writes_more : WritesMore contents failures in_memory
  writes_more old now new schema ids batches fields columns before same does =
      let own = before.fields in
      let told = before.run.told in
      let under = subst (λ (phase : Phase). WritesIn contents failures in_memory phase now new fields columns (Ok tt)) before.phase does in
      let written = writes_under now.compression now new schema own (ids_views (fields_or own fields)) before.entries columns under told
      before.tells in
      adds old now new schema ids batches columns before
      (subst (λ (its : IdsList). IsWritten contents failures in_memory now new schema own its told columns)
      (given_ids own ids fields before.same same) written)

  -- ---- finish

  finishes_stream : FinishesStream contents failures in_memory
  finishes_stream old now new schema ids batches before does =
      let sends = subst (λ (phase : Phase). FinishesIn contents failures in_memory phase now new (Ok tt)) before.phase does in
      record {
        bytes = run_bytes before.run;
        is = run_stream schema ids before.run batches before.is;
        device = appends_both _ _ _ (bytes_of_messages before.run.messages) end_mark before.device sends.device;
        phase = sends.phase;
      }

  pub streams_are_written : StreamsAreWritten contents failures in_memory
  streams_are_written = (starts_none, writes_more, finishes_stream)
