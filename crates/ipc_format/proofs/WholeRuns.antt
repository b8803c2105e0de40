-- What a run of calls of a writer has written, where its writes have the writer's own ids, is a whole file.
use Rattle.std.proofs.Common.{◌≡◌, ◌∙◌, ℕ, ◌+◌, true, List, [], ◌∷◌, ◌++◌, length, refl, sym, ap, subst, append_assoc}
use Rattle.std.specs.Prelude.{nat_lt, Bool, Option, Some, None, Ok}
use Rattle.std.proofs.lemmas.Grind.{flat_map-append}
use Rattle.std.proofs.lemmas.List.{length-append, map-append}
use Rattle.ipc_format_readers.specs.chunk_writing.Opening.{fields_or}
use Rattle.ipc_format_readers.specs.chunk_writing.Runs.{IsRunOf}
use Rattle.ipc_format_readers.specs.chunk_writing.Tracking.{Tells}
use Rattle.ipc_format_readers.specs.chunk_writing.columnar_memory.declared.Schema.{Schema}
use Rattle.ipc_format_readers.specs.chunk_writing.columns.StoredColumns.{Column}
use Rattle.ipc_format_readers.specs.chunk_writing.declared.Compression.{Compression}
use Rattle.ipc_format_readers.specs.chunk_writing.flatbuffers.Objects.{laid}
use Rattle.ipc_format_readers.specs.chunk_writing.grammar.GivenDictionaries.{Given, written_after}
use Rattle.ipc_format_readers.specs.chunk_writing.grammar.Limits.{file_limit}
use Rattle.ipc_format_readers.specs.chunk_writing.grammar.Schemas.{IdsList}
use Rattle.ipc_format_readers.specs.chunk_writing.grammar.Tables.{file}
use Rattle.ipc_format_readers.specs.chunk_writing.grammar.WriterRuns.{Run, with_batch, write_bar}
use Rattle.ipc_format_readers.specs.chunk_writing.grammar.WrittenFiles.{file_bytes, file_end, file_start, fits_file_limit}
use Rattle.ipc_format_readers.specs.chunk_writing.grammar.WrittenFiles.{footer_bytes, footer_object, is_footer, written_file}
use Rattle.ipc_format_readers.specs.chunk_writing.grammar.WrittenMessages.{end_mark, message_bytes, schema_written}
use Rattle.ipc_format_readers.specs.chunk_writing.grammar.WrittenStreams.{Batch, Chunk, batch_messages, batch_of, batch_of_stored}
use Rattle.ipc_format_readers.specs.chunk_writing.grammar.WrittenStreams.{batches_written, bytes_of_messages, stored_columns}
use Rattle.ipc_format_readers.specs.chunk_writing.metadata.Views.{ids_views}
use Rattle.ipc_format_readers.specs.reading_laws.StoredTables.{stored_chunks}
use Rattle.ipc_format_readers.specs.reading_laws.laws.Runs.{run_file}
use Rattle.ipc_format_readers.proofs.chunk_lemmas.Runs.{begun, chunks_more, given_ids, run_begun, run_more}
use Rattle.ipc_format_readers.proofs.reading_laws_lemmas.laws_lemmas.Runs as laws
use Rattle.ipc_format.specs.Ends.{end_with, has_room}
use Rattle.ipc_format.specs.FilePhases.{Phase, Progress, Writer, broken, finished, fresh, started}
use Rattle.ipc_format.specs.FileRuns.{HasWritten, bytes_so_far, told_with}
use Rattle.ipc_format.specs.WholeRuns.{FinishesWhole, RunsAreFiles, StartsNoBatch, WritesOneMore, batches_with}
use Rattle.ipc_format.specs.FileWriting.{FinishesIn, IsStarted, StartsIn, WritesIn, WritesUnder}
use Rattle.ipc_format.proofs.FileRunBytes.{bytes_more, file_whole, footer_is, told_more}
use Rattle.ipc_format.proofs.Runs.{files_are_written}

-- ---- one batch more

batches_more : (schema : Schema) (ids : IdsList) (batches : List (List Column)) (columns : List Column)
    → batches_with schema ids (batches ++ columns ∷ []) ≡ batches_with schema ids batches ++ batch_of_stored ids columns ∷ []
batches_more schema ids batches columns =
    ap (batches_written schema ids) (chunks_more batches columns)
    ∙ map-append (batch_of schema.fields ids) (stored_chunks batches) (stored_columns columns ∷ [])

tells_more : (schema : Schema) (ids : IdsList) (run : Run) (batches : List (List Column)) (columns : List Column)
    → run.told ≡ told_with [] (batches_with schema ids batches)
    → written_after run.told (batch_of_stored ids columns).given ≡ told_with [] (batches_with schema ids (batches ++ columns ∷ []))
tells_more schema ids run batches columns told =
    let batch = batch_of_stored ids columns in
    ap (λ (its : List Given). written_after its batch.given) told
    ∙ sym (told_more [] (batches_with schema ids batches) batch)
    ∙ ap (told_with []) (sym (batches_more schema ids batches columns))

stands_more : (schema : Schema) (ids : IdsList) (run : Run) (batches : List (List Column)) (columns : List Column)
    → run.told ≡ told_with [] (batches_with schema ids batches)
    → file_start ++ bytes_of_messages run.messages ≡ bytes_so_far schema ids (batches_with schema ids batches)
    → file_start ++ bytes_of_messages (run.messages ++ batch_messages run.told (batch_of_stored ids columns))
    ≡ bytes_so_far schema ids (batches_with schema ids (batches ++ columns ∷ []))
stands_more schema ids run batches columns told bytes =
    let batch = batch_of_stored ids columns in
    let next = batch_messages run.told batch in
    ap (λ (it : List ℕ). file_start ++ it) (flat_map-append message_bytes run.messages next)
    ∙ sym (append_assoc file_start (bytes_of_messages run.messages) (bytes_of_messages next))
    ∙ (λ j. bytes j ++ bytes_of_messages (batch_messages (told j) batch))
    ∙ sym (bytes_more schema ids (batches_with schema ids batches) batch)
    ∙ ap (bytes_so_far schema ids) (sym (batches_more schema ids batches columns))

-- ---- the whole file

-- the file that a run stands for is that of its batches
run_is_file : (schema : Schema) (ids : IdsList) (run : Run) (batches : List (List Column)) → run.chunks ≡ stored_chunks batches
    → file_start ++ bytes_of_messages run.messages ≡ bytes_so_far schema ids (batches_with schema ids batches)
    → run_file schema ids run ≡ file_bytes schema ids (batches_with schema ids batches)
run_is_file schema ids run batches all bytes =
    let footer = λ (chunks : List Chunk). file_end (footer_bytes schema ids (batches_written schema ids chunks)) in
    let so_far = bytes_so_far schema ids (batches_with schema ids batches) in
    ap (λ (it : List ℕ). it ++ footer run.chunks) (sym (append_assoc file_start (bytes_of_messages run.messages) end_mark))
    ∙ (λ j. bytes j ++ end_mark ++ footer (all j))
    ∙ append_assoc so_far end_mark (footer (stored_chunks batches))
    ∙ file_whole schema ids (batches_with schema ids batches)

-- it is within its limit where there is room for the footer behind what is written
file_fits : (schema : Schema) (ids : IdsList) (batches : List Batch) (place : ℕ) → place ≡ length (bytes_so_far schema ids batches)
    → has_room place (footer_bytes schema ids batches) ≡ true → fits_file_limit (file_bytes schema ids batches) ≡ true
file_fits schema ids batches place at room =
    let so_far = bytes_so_far schema ids batches in
    let end = end_with (footer_bytes schema ids batches) in
    ap fits_file_limit (sym (file_whole schema ids batches))
    ∙ ap (λ (n : ℕ). nat_lt n file_limit) (length-append so_far end)
    ∙ ap (λ (n : ℕ). nat_lt (n + length end) file_limit) (sym at)
    ∙ room

whole_file : (schema : Schema) (ids : IdsList) (run : Run) (batches : List (List Column)) → IsRunOf file run schema ids batches
    → file_start ++ bytes_of_messages run.messages ≡ bytes_so_far schema ids (batches_with schema ids batches)
    → is_footer (footer_bytes schema ids (batches_with schema ids batches)) ≡ true
    → fits_file_limit (file_bytes schema ids (batches_with schema ids batches)) ≡ true
    → written_file schema ids (stored_chunks batches) ≡ Some (file_bytes schema ids (batches_with schema ids batches))
whole_file schema ids run batches is bytes footer fits =
    let chunks = ap (λ (it : Run). it.chunks) is.writes ∙ is.all in
    let same = ap (run_file schema ids) is.writes ∙ run_is_file schema ids run batches is.all bytes in
    ap (written_file schema ids) (sym chunks)
    ∙ laws.runs_are_files schema ids is.first (stored_chunks batches) is.start
    (ap (λ (its : List Chunk). is_footer (footer_bytes schema ids (batches_written schema ids its))) chunks ∙ footer)
    (ap fits_file_limit same ∙ fits)
    ∙ ap Some same

module _ {W : Type 0} (contents : W → Option (List ℕ)) (failures : W → ℕ) (in_memory : Bool) where
  -- ---- start

  starts_in : (phase : Phase) (old new : Writer W) → StartsIn contents failures in_memory phase old new (Ok tt)
      → IsStarted contents failures in_memory old new
  starts_in fresh old new does = does
  starts_in (started progress) old new does = absurd does
  starts_in finished old new does = absurd does
  starts_in broken old new does = absurd does

  starts_no_batch : StartsNoBatch contents failures in_memory
  starts_no_batch old new does =
      let here = starts_in old.phase old new does in
      let ids = ids_views old.ids in
      record {
        written = (files_are_written contents failures in_memory).0 old new does;
        run = begun old.schema ids;
        is = run_begun file old.schema ids here.may here.fits;
        told = refl;
        bytes = sym (append_assoc file_start (message_bytes (schema_written old.schema ids)) []);
      }

  -- ---- write

  bar_under : (compression : Option Compression) (old new : Writer W) (before : Progress) (ids : IdsList) (columns : List Column)
      → WritesUnder contents failures in_memory compression old new before ids columns (Ok tt)
      → (told : List Given) → Tells before.told told → write_bar file old.schema ids told (stored_columns columns) ≡ None
  bar_under None old new before ids columns does told tells = (does told tells).bar
  bar_under (Some compression) old new before ids columns does told tells = absurd does

  writes_one_more : WritesOneMore contents failures in_memory
  writes_one_more old now new batches fields columns before same does =
      let schema = old.schema in
      let ids = ids_views old.ids in
      let had = before.written in
      let its = batches_with schema ids batches in
      let given = given_ids now.ids ids fields (ap ids_views had.ids) same in
      let under = subst (λ (phase : Phase). WritesIn contents failures in_memory phase now new fields columns (Ok tt)) had.phase does in
      let bar = bar_under now.compression now new had.progress (ids_views (fields_or now.ids fields)) columns under (told_with [] its) had.tells in
      let more = (files_are_written contents failures in_memory).1 old now new its fields columns had does in
      record {
        written = subst (HasWritten contents failures in_memory old new)
            (ap (λ (views : IdsList). its ++ batch_of_stored views columns ∷ []) given ∙ sym (batches_more schema ids batches columns)) more;
        run = with_batch before.run (stored_columns columns) (batch_of_stored ids columns);
        is = run_more file schema ids before.run batches columns before.is
            ((λ j. write_bar file (sym had.schema j) (sym given j) (before.told j) (stored_columns columns)) ∙ bar);
        told = tells_more schema ids before.run batches columns before.told;
        bytes = stands_more schema ids before.run batches columns before.told before.bytes;
      }

  -- ---- finish

  finishes_whole : FinishesWhole contents failures in_memory
  finishes_whole old now new batches before does =
      let schema = old.schema in
      let ids = ids_views old.ids in
      let had = before.written in
      let its = batches_with schema ids batches in
      let here = subst (λ (phase : Phase). FinishesIn contents failures in_memory phase now new (Ok tt)) had.phase does in
      let same : here.footer ≡ footer_bytes schema ids its =
      here.is.same ∙ (λ j. laid (footer_object (had.schema j) (ids_views (had.ids j)) (had.blocks j))) ∙ footer_is schema ids its in
      let done = (files_are_written contents failures in_memory).2 old now new its had does in
      record {
        bytes = file_bytes schema ids its;
        is = whole_file schema ids before.run batches before.is before.bytes (ap is_footer (sym same) ∙ here.is.fits)
            (file_fits schema ids its had.progress.place had.place (ap (has_room had.progress.place) (sym same) ∙ here.is.room));
        device = done.0;
        phase = done.1;
      }

  pub runs_are_files : RunsAreFiles contents failures in_memory
  runs_are_files = (starts_no_batch, writes_one_more, finishes_whole)
