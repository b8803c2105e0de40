-- What is read behind the schema is read of the whole stream.
use Rattle.std.proofs.Common.{rules, ◌≡◌, sym, ap, subst}
use Rattle.std.specs.Prelude.{Some, Err}
use Rattle.ipc_format.specs.Readable.{HasArrays}
use Rattle.columnar_memory_types.specs.Error.{IsOutOfMemory}
use Rattle.ipc_format.specs.columnar_memory.declared.Schema.{Schema}
use Rattle.ipc_format.specs.Dictionaries.{Layout}
use Rattle.ipc_format.specs.Refusals.{HasFloat}
use Rattle.ipc_format.specs.Tables.{stream, layout_of}
use Rattle.ipc_format.specs.Writable.{normalised}
use Rattle.ipc_format.specs.MessageViews.{version_view}
use Rattle.ipc_format.specs.metadata.Reading.{Refuses}
use Rattle.ipc_format.specs.streams.Starts.{start_in, start_view}
use Rattle.tables_chunks.specs.Faults.{fault_of}
use Rattle.tables_chunks.specs.Messages.{layout_by}
use Rattle.tables_chunks.specs.Reading.{ReadsBatches, ReadsStream}
use Rattle.tables_chunks.specs.TableSchemas.{IsTableSchema}
use Rattle.tables_chunks.proofs.Starting.{start_has_arrays, start_form, memory_refused}
use Rattle.tables_chunks.proofs.Streams.{start_refused, read_whole}
use Rattle.tables_chunks.proofs.reading.read_stream.Goals as goal

pub returns-in_err-metadata : goal.returns-in_err-metadata
returns-in_err-metadata c =
    let error = c.in_err-metadata.field-0.0 in
    let refused : Refuses (HasFloat stream c.args.bytes.now) error (start_in c.args.bytes.now) = search rules in
    let whole : ReadsStream (Err (fault_of error)) c.args.bytes.now = start_refused error c.args.bytes.now refused in
    search (rules, whole)

pub returns-in_err-schema : goal.returns-in_err-schema
returns-in_err-schema c =
    let error = c.in_err-schema.field-0.0 in
    let refused : IsOutOfMemory error = search rules in
    let whole : ReadsStream (Err (fault_of error)) c.args.bytes.now = memory_refused error c.args.bytes.now refused in
    search (rules, whole)

pub read_batches-requires-clause-arrays : goal.read_batches-requires-clause-arrays
read_batches-requires-clause-arrays c =
    let metadata = c.in_ok-metadata.metadata in
    let place = c.in_ok-metadata.place in
    let schema = c.in_ok-schema.schema in
    let found : start_in c.args.bytes.now ≡ Some (start_view metadata, place) = search rules in
    let normal : schema ≡ normalised metadata.schema = search rules in
    subst (λ (s : Schema). HasArrays (layout_by s.fields metadata.ipc_schema)) (sym normal)
    (start_has_arrays c.args.bytes.now (start_view metadata) place c.schemas_have_arrays.ensures found)

pub returns : goal.returns
returns c =
    let metadata = c.in_ok-metadata.metadata in
    let place = c.in_ok-metadata.place in
    let schema = c.in_ok-schema.schema in
    let bytes = c.args.bytes.now in
    let found : start_in bytes ≡ Some (start_view metadata, place) = search rules in
    let normal : schema ≡ normalised metadata.schema = search rules in
    let layout : layout_by schema.fields metadata.ipc_schema ≡ layout_of (start_view metadata).schema =
    ap (λ (s : Schema). layout_by s.fields metadata.ipc_schema) normal in
    let read : ReadsBatches schema (layout_of (start_view metadata).schema) (version_view metadata.version) bytes place c.read_batches.result =
    subst (λ (l : Layout). ReadsBatches schema l (version_view metadata.version) bytes place c.read_batches.result) layout
    c.read_batches.ensures in
    let form = subst IsTableSchema (sym normal) (start_form bytes (start_view metadata) place found c.whole.ensures) in
    read_whole bytes (start_view metadata) place schema c.read_batches.result found normal form read
