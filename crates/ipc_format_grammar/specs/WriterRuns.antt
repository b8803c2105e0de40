-- What a run of calls of a writer stands for: start, writes, finish (Arrow IPC, "IPC Streaming Format", "IPC File Format"). A write that is
-- refused leaves nothing behind.
use Rattle.std.specs.Prelude.{Bool, not, List, [], ◌∷◌, ◌++◌, Option, Some, None, if◌then◌else◌}
use Rattle.std.specs.List.{list_all}
use Rattle.ipc_format_flatbuffers.specs.Reading.{◌>>=◌, guard}
use Rattle.nested_arrays_columns.specs.columnar_memory.declared.Schema.{Schema}
use Rattle.ipc_format_grammar.specs.Schemas.{IdsList}
use Rattle.ipc_format_grammar.specs.Tables.{Form, stream, file}
use Rattle.ipc_format_grammar.specs.GivenDictionaries.{Given, agree, written_after}
use Rattle.ipc_format_grammar.specs.WrittenMessages.{Written, fits_limit, schema_written}
use Rattle.ipc_format_grammar.specs.WrittenStreams.{Batch, Chunk, batch_of, batch_messages, belongs, is_written_with}
use Rattle.ipc_format_grammar.specs.WrittenFiles.{none_replaced}

-- what calls have written: the chunks that were not refused, the messages that they stand for, and the dictionaries that were told, the
-- latest first
pub record Run : Type 0 where
  pub chunks : List Chunk
  pub messages : List Written
  pub told : List Given

-- after start: the schema's message; nothing where it is refused
unfoldable pub after_start : Schema → IdsList → Option Run
after_start schema ids = do
  _ ← guard (is_written_with schema ids)
  _ ← guard (fits_limit (schema_written schema ids))
  Some (record { chunks = []; messages = schema_written schema ids ∷ []; told = [] })

-- whether dictionaries may be told where others were: no two of a batch disagree, and a file replaces none
abbrev pub may_tell : Form → List Given → List Given → Bool
may_tell stream told given = agree given
may_tell file told given = none_replaced told given

-- why a batch is not written
pub data WriteBar : Type 0 where
  -- it doesn't belong to the schema: an invalid argument
  another_schema : WriteBar
  -- two of its dictionaries of one id differ, or in a file one differs from an earlier one: an invalid argument
  another_dictionary : WriteBar
  -- a message is past its limit: an overflow
  long_message : WriteBar

-- the first of the bars, or nothing where a batch is written
unfoldable pub write_bar : Form → Schema → IdsList → List Given → Chunk → Option WriteBar
write_bar form schema ids told chunk = let batch = batch_of schema.fields ids chunk in
    if not (belongs schema ids chunk) then Some another_schema
    else if not (may_tell form told batch.given) then Some another_dictionary
    else if not (list_all fits_limit (batch_messages told batch)) then Some long_message
    else None

abbrev pub with_batch : Run → Chunk → Batch → Run
with_batch run chunk batch = record {
  chunks = run.chunks ++ chunk ∷ [];
  messages = run.messages ++ batch_messages run.told batch;
  told = written_after run.told batch.given;
}

-- after a write: a batch's messages more, or where it is refused what stood before
abbrev pub unless_barred : Run → Chunk → Batch → Option WriteBar → Run
unless_barred run chunk batch None = with_batch run chunk batch
unless_barred run chunk batch (Some bar) = run

unfoldable pub after_write : Form → Schema → IdsList → Run → Chunk → Run
after_write form schema ids run chunk =
    unless_barred run chunk (batch_of schema.fields ids chunk) (write_bar form schema ids run.told chunk)

-- after writes, one after another
abbrev pub after_writes : Form → Schema → IdsList → Run → List Chunk → Run
after_writes form schema ids run [] = run
after_writes form schema ids run (chunk ∷ chunks) = after_writes form schema ids (after_write form schema ids run chunk) chunks
