-- What a run of a writer's calls stands for (Arrow IPC, "IPC Streaming Format", "IPC File Format").
use Rattle.std.specs.Prelude.{◌≡◌, ℕ, true, List, ◌++◌, Some}
use Rattle.ipc_format_grammar.specs.columnar_memory.declared.Schema.{Schema}
use Rattle.ipc_format_grammar.specs.Schemas.{IdsList}
use Rattle.ipc_format_grammar.specs.Tables.{stream, file}
use Rattle.ipc_format_grammar.specs.WrittenMessages.{end_mark}
use Rattle.ipc_format_grammar.specs.WrittenStreams.{Chunk, batches_written, bytes_of_messages, written_stream}
use Rattle.ipc_format_grammar.specs.WrittenFiles.{file_start, file_end, footer_bytes, is_footer, fits_file_limit, written_file}
use Rattle.ipc_format_grammar.specs.WriterRuns.{Run, after_start, after_writes}

-- the messages of a run, and the end mark
abbrev pub run_bytes : Run → List ℕ
run_bytes run = bytes_of_messages run.messages ++ end_mark

-- whichever writes were refused, a run of a stream writer's calls has the messages of the stream of the chunks that were not
abbrev pub RunsAreStreams : Type 0
RunsAreStreams = (schema : Schema) (below : IdsList) (first : Run) (chunks : List Chunk) → after_start schema below ≡ Some first
    → written_stream schema below (after_writes stream schema below first chunks).chunks
    ≡ Some (run_bytes (after_writes stream schema below first chunks))

-- the bytes of a file that has the messages of a run
abbrev pub run_file : Schema → IdsList → Run → List ℕ
run_file schema below run =
    file_start ++ run_bytes run ++ file_end (footer_bytes schema below (batches_written schema below run.chunks))

-- the same of a file writer's calls, where the footer and the file are within their limits
abbrev pub RunsAreFiles : Type 0
RunsAreFiles = (schema : Schema) (below : IdsList) (first : Run) (chunks : List Chunk) → after_start schema below ≡ Some first
    → is_footer (footer_bytes schema below (batches_written schema below (after_writes file schema below first chunks).chunks)) ≡ true
    → fits_file_limit (run_file schema below (after_writes file schema below first chunks)) ≡ true
    → written_file schema below (after_writes file schema below first chunks).chunks
    ≡ Some (run_file schema below (after_writes file schema below first chunks))
