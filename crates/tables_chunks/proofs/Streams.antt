-- The table that is read of a stream is that of the batches behind its schema.
use Rattle.std.proofs.Common.{◌≡◌, ◌∙◌, ℕ, ◌<◌, ◌^◌, List, [], length, sym, ap, subst, inl, All}
use Rattle.std.specs.Prelude.{Option, Some, None, Result, Ok, Err}
use Rattle.ipc_format.specs.columnar_memory.declared.Error.{Error}
use Rattle.ipc_format.specs.columnar_memory.declared.Error.TheVariants as errors
use Rattle.ipc_format.specs.columnar_memory.declared.Schema.{Schema}
use Rattle.ipc_format.specs.columns.Tables.{rows_of_batches}
use Rattle.ipc_format.specs.Refusals.{HasFloat}
use Rattle.ipc_format.specs.Reading.{◌>>=◌}
use Rattle.ipc_format.specs.Tables.{Contents, stream, batches_behind, batches_in, batches_of, layout_of}
use Rattle.ipc_format.specs.Writable.{normalised}
use Rattle.ipc_format.specs.metadata.Reading.{Refuses}
use Rattle.ipc_format.specs.streams.Starts.{Start, start_in}
use Rattle.tables_chunks.specs.Faults.{fault_of}
use Rattle.tables_chunks.specs.declared.fault.Fault.{Fault}
use Rattle.tables_chunks.specs.declared.fault.Fault.TheVariants as faults
use Rattle.ipc_format.proofs.StreamParts.{fitting, stream_from, never_unfinished, fits, too_many}
use Rattle.ipc_format.proofs.StreamParts.{unfinished_from, many_in_stream}
use Rattle.ipc_format.proofs.StreamParts.{unread_in_stream}
use Rattle.tables_chunks.specs.Messages.{AreOfFields}
use Rattle.tables_chunks.specs.Reading.{slots_of_batches, ReadsBatches, ReadsStream}
use Rattle.tables_chunks.specs.TableSchemas.{IsTableSchema}
use Rattle.tables_chunks.specs.declared.reading.StreamBatches.{StreamBatches}
use Rattle.tables_chunks.proofs.Starting.{stream_without}

pub read_whole : (bytes : List ℕ) (start : Start) (place : ℕ) (schema : Schema) (result : Result StreamBatches Fault)
    → start_in bytes ≡ Some (start, place) → schema ≡ normalised start.schema.schema → IsTableSchema schema
    → ReadsBatches schema (layout_of start.schema) start.version bytes place result → ReadsStream result bytes
read_whole bytes start place schema (Ok read) e normal form found =
    let whole = stream_from bytes start place e in
    let batches = slots_of_batches read.chunks.items in
    let few : length (rows_of_batches batches) < 2 ^ 64 = subst (λ n. n < 2 ^ 64) found.2 found.3 in (
      whole.table ∙ ap (fitting (normalised start.schema.schema)) found.1
          ∙ ap (λ (s : Schema). fitting s (Some batches)) (sym (found.0 ∙ normal)) ∙ fits read.schema batches few,
      whole.batches ∙ found.1,
      found.2,
      subst (λ (s : Schema). All (AreOfFields s.fields) read.chunks.items) (sym found.0) found.4,
      subst IsTableSchema (sym found.0) form,
    )
read_whole bytes start place schema (Err faults.Memory) e normal form found = tt
read_whole bytes start place schema (Err (faults.Ipc (errors.OutOfSpec what))) e normal form found =
    let whole = stream_from bytes start place e in (
      whole.batches ∙ found.0,
      λ both. found.1 (unfinished_from bytes start place whole both.0, sym whole.cut ∙ both.1),
    )
read_whole bytes start place schema (Err (faults.Ipc (errors.NotYetImplemented what))) e normal form found =
    let whole = stream_from bytes start place e in (whole.batches ∙ found.0, unread_in_stream bytes start place whole found.1)
read_whole bytes start place schema (Err (faults.Ipc (errors.External from what))) e normal form found = absurd found
read_whole bytes start place schema (Err (faults.Ipc (errors.Io what))) e normal form found = absurd found
read_whole bytes start place schema (Err (faults.Ipc (errors.InvalidArgumentError what))) e normal form found = absurd found
read_whole bytes start place schema (Err (faults.Ipc (errors.ExternalFormat what))) e normal form found = absurd found
read_whole bytes start place schema (Err (faults.Ipc errors.Overflow)) e normal form found = absurd found
read_whole bytes start place schema (Err (faults.Ipc errors.OutOfMemory)) e normal form found = absurd found
read_whole bytes start place schema (Err faults.Unfinished) e normal form found =
    let whole = stream_from bytes start place e in
    (whole.batches ∙ found.0, whole.cut ∙ found.1)
read_whole bytes start place schema (Err faults.TooManyRows) e normal form found =
    let whole = stream_from bytes start place e in (
      whole.table ∙ too_many (normalised start.schema.schema)
          (batches_behind (layout_of start.schema) start.version [] (length bytes) bytes place 0) found.0,
      many_in_stream bytes start place whole found.1,
    )
read_whole bytes start place schema (Err (faults.Lower error)) e normal form found = absurd found
read_whole bytes start place schema (Err (faults.NotSealable bar)) e normal form found = absurd found
read_whole bytes start place schema (Err faults.RowWidth) e normal form found = absurd found
read_whole bytes start place schema (Err faults.NoColumns) e normal form found = absurd found
read_whole bytes start place schema (Err faults.NoSuchColumn) e normal form found = absurd found

-- ---- from the first message on

-- without a start there are no batches
no_batches : (bytes : List ℕ) → start_in bytes ≡ None → batches_in stream bytes ≡ None
unfolding batches_in
no_batches bytes none =
    ap (λ (held : Option Contents). held >>= (λ contents. batches_of (layout_of contents.schema) [] contents.entries)) (stream_without bytes none)

pub start_refused : (error : Error) (bytes : List ℕ) → Refuses (HasFloat stream bytes) error (start_in bytes)
    → ReadsStream (Err (fault_of error)) bytes
start_refused errors.OutOfMemory bytes refused = tt
start_refused (errors.OutOfSpec what) bytes refused = (no_batches bytes refused, λ both. never_unfinished bytes refused both.0)
start_refused (errors.NotYetImplemented what) bytes refused = (no_batches bytes refused.0, inl refused.1)
start_refused (errors.External from what) bytes refused = absurd refused
start_refused (errors.Io what) bytes refused = absurd refused
start_refused (errors.InvalidArgumentError what) bytes refused = absurd refused
start_refused (errors.ExternalFormat what) bytes refused = absurd refused
start_refused errors.Overflow bytes refused = absurd refused
