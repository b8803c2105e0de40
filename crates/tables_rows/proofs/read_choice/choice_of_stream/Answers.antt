-- What is gathered behind the schema is read of the whole stream.
use Rattle.std.proofs.Common.{rules, ◌≡◌, true, length, sym, subst}
use Rattle.std.specs.Prelude.{Some, Ok, Err}
use Rattle.columnar_memory_types.specs.Error.{IsOutOfMemory}
use Rattle.tables_chunks.specs.Choices.{are_below}
use Rattle.tables_chunks.specs.Faults.{fault_of}
use Rattle.tables_chunks.specs.Messages.{layout_by}
use Rattle.tables_chunks.specs.TableSchemas.{IsTableSchema}
use Rattle.tables_chunks.specs.ipc_format.FileEntries.{entries_view}
use Rattle.tables_chunks.specs.ipc_format.MessageViews.{version_view}
use Rattle.tables_chunks.specs.ipc_format.Readable.{HasArrays}
use Rattle.tables_chunks.specs.ipc_format.Refusals.{HasFloat}
use Rattle.tables_chunks.specs.ipc_format.Writable.{normalised}
use Rattle.tables_chunks.specs.ipc_format.columnar_memory.declared.Schema.{Schema}
use Rattle.tables_chunks.specs.ipc_format.grammar.Tables.{stream}
use Rattle.tables_chunks.specs.ipc_format.metadata.Reading.{Refuses}
use Rattle.tables_chunks.specs.ipc_format.streams.Starts.{start_in, start_view}
use Rattle.tables_chunks.proofs.Starting.{start_form, start_has_arrays}
use Rattle.tables_rows.specs.Gathered.{GathersTable}
use Rattle.tables_rows.specs.StreamEntries.{FindsEntries}
use Rattle.tables_rows.proofs.ChoicesRead.{ReadsStored, held_read, memory_refused, stream_entries_found, stream_entries_refused}
use Rattle.tables_rows.proofs.ChoicesRead.{stream_start_refused}
use Rattle.tables_rows.proofs.read_choice.choice_of_stream.Goals as goal

pub returns-in_err-metadata : goal.returns-in_err-metadata
returns-in_err-metadata c =
    let bytes = c.args.bytes.now in
    let error = c.in_err-metadata.field-0.0 in
    let refused : Refuses (HasFloat stream bytes) error (start_in bytes) = search rules in
    let whole : ReadsStored stream bytes c.args.columns.now c.args.limit (Err (fault_of error)) =
    stream_start_refused error bytes c.args.columns.now c.args.limit refused in
    search (rules, whole)

pub returns-in_err-schema : goal.returns-in_err-schema
returns-in_err-schema c =
    let bytes = c.args.bytes.now in
    let error = c.in_err-schema.field-0.0 in
    let refused : IsOutOfMemory error = search rules in
    let whole : ReadsStored stream bytes c.args.columns.now c.args.limit (Err (fault_of error)) =
    memory_refused error stream bytes c.args.columns.now c.args.limit refused in
    search (rules, whole)

pub returns-in_err-entries : goal.returns-in_err-entries
returns-in_err-entries c =
    let bytes = c.args.bytes.now in
    let columns = c.args.columns.now in
    let metadata = c.in_ok-metadata.metadata in
    let place = c.in_ok-metadata.place in
    let schema = c.in_ok-schema.schema in
    let fault = c.in_err-entries.field-0.0 in
    let found : start_in bytes ≡ Some (start_view metadata, place) = search rules in
    let normal : schema ≡ normalised metadata.schema = search rules in
    let below : are_below (length schema.fields) columns ≡ true = search rules in
    let refused : FindsEntries (version_view metadata.version) bytes place (Err fault) = search rules in
    let whole : ReadsStored stream bytes columns c.args.limit (Err fault) =
    stream_entries_refused fault bytes columns c.args.limit (start_view metadata) place (version_view metadata.version) found
    (subst (λ (s : Schema). are_below (length s.fields) columns ≡ true) normal below) refused in
    search (rules, whole)

pub gather_table-requires-clause-arrays : goal.gather_table-requires-clause-arrays
gather_table-requires-clause-arrays c =
    let metadata = c.in_ok-metadata.metadata in
    let place = c.in_ok-metadata.place in
    let schema = c.in_ok-schema.schema in
    let found : start_in c.args.bytes.now ≡ Some (start_view metadata, place) = search rules in
    let normal : schema ≡ normalised metadata.schema = search rules in
    subst (λ (s : Schema). HasArrays (layout_by s.fields metadata.ipc_schema)) (sym normal)
    (start_has_arrays c.args.bytes.now (start_view metadata) place c.schemas_have_arrays.ensures found)

pub gather_table-requires-clause-form : goal.gather_table-requires-clause-form
gather_table-requires-clause-form c =
    let metadata = c.in_ok-metadata.metadata in
    let place = c.in_ok-metadata.place in
    let found : start_in c.args.bytes.now ≡ Some (start_view metadata, place) = search rules in
    let normal : c.in_ok-schema.schema ≡ normalised metadata.schema = search rules in
    subst IsTableSchema (sym normal) (start_form c.args.bytes.now (start_view metadata) place found c.whole.ensures)

pub returns : goal.returns
returns c =
    let bytes = c.args.bytes.now in
    let columns = c.args.columns.now in
    let metadata = c.in_ok-metadata.metadata in
    let place = c.in_ok-metadata.place in
    let schema = c.in_ok-schema.schema in
    let entries = c.in_ok-entries.entries in
    let found : start_in bytes ≡ Some (start_view metadata, place) = search rules in
    let normal : schema ≡ normalised metadata.schema = search rules in
    let below : are_below (length schema.fields) columns ≡ true = search rules in
    let finds : FindsEntries (version_view metadata.version) bytes place (Ok entries) = search rules in
    let gathered : GathersTable schema (layout_by schema.fields metadata.ipc_schema) columns c.args.limit (entries_view entries)
    c.gather_table.result = search rules in
    held_read stream bytes columns c.args.limit (start_view metadata).schema (entries_view entries) c.gather_table.result
    (stream_entries_found bytes (start_view metadata) place entries found finds)
    (subst (λ (s : Schema). are_below (length s.fields) columns ≡ true) normal below)
    (subst (λ (s : Schema). GathersTable s (layout_by s.fields metadata.ipc_schema) columns c.args.limit (entries_view entries)
    c.gather_table.result) normal gathered)
