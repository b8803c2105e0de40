-- What is gathered at the blocks is read of the whole file.
use Rattle.std.proofs.Common.{rules, ◌≡◌, true, length, sym, subst}
use Rattle.std.specs.Prelude.{Some, Err}
use Rattle.columnar_memory_types.specs.Error.{IsOutOfMemory}
use Rattle.tables_chunks.specs.Choices.{are_below}
use Rattle.tables_chunks.specs.Faults.{fault_of}
use Rattle.tables_chunks.specs.Messages.{layout_by}
use Rattle.tables_chunks.specs.ipc_format.FileEntries.{entries_view}
use Rattle.tables_chunks.specs.ipc_format.FileReads.{IsUnreadFile}
use Rattle.tables_chunks.specs.ipc_format.FileStarts.{start_in, start_view}
use Rattle.tables_chunks.specs.ipc_format.Readable.{HasArrays}
use Rattle.tables_chunks.specs.ipc_format.Writable.{normalised}
use Rattle.tables_chunks.specs.ipc_format.columnar_memory.declared.Schema.{Schema}
use Rattle.tables_chunks.specs.ipc_format.grammar.Files.{file_entries}
use Rattle.tables_chunks.specs.ipc_format.grammar.Tables.{file}
use Rattle.tables_chunks.specs.ipc_format.metadata.Reading.{Refuses}
use Rattle.tables_chunks.proofs.ipc_format_lemmas.WholeFiles.{HasOneForm, start_form, start_has_arrays}
use Rattle.tables_rows.specs.Gathered.{GathersTable}
use Rattle.tables_rows.proofs.ChoicesRead.{ReadsStored, file_entries_found, file_entries_refused, file_start_refused, held_read, memory_refused}
use Rattle.tables_rows.proofs.read_choice.choice_of_file.Goals as goal

pub returns-in_err-start : goal.returns-in_err-start
returns-in_err-start c =
    let bytes = c.args.bytes.now in
    let error = c.in_err-start.field-0.0 in
    let refused : Refuses (IsUnreadFile bytes) error (start_in bytes) = search rules in
    let whole : ReadsStored file bytes c.args.columns.now c.args.limit (Err (fault_of error)) =
    file_start_refused error bytes c.args.columns.now c.args.limit refused in
    search (rules, whole)

pub returns-in_err-schema : goal.returns-in_err-schema
returns-in_err-schema c =
    let bytes = c.args.bytes.now in
    let error = c.in_err-schema.field-0.0 in
    let refused : IsOutOfMemory error = search rules in
    let whole : ReadsStored file bytes c.args.columns.now c.args.limit (Err (fault_of error)) =
    memory_refused error file bytes c.args.columns.now c.args.limit refused in
    search (rules, whole)

pub returns-in_err-entries : goal.returns-in_err-entries
returns-in_err-entries c =
    let bytes = c.args.bytes.now in
    let columns = c.args.columns.now in
    let start = c.in_ok-start.start in
    let schema = c.in_ok-schema.schema in
    let error = c.in_err-entries.field-0.0 in
    let found : start_in bytes ≡ Some (start_view start) = search rules in
    let normal : schema ≡ normalised start.schema = search rules in
    let below : are_below (length schema.fields) columns ≡ true = search rules in
    let refused : Refuses ⊥ error (file_entries bytes (start_view start).dictionaries (start_view start).record_batches) = search rules in
    let whole : ReadsStored file bytes columns c.args.limit (Err (fault_of error)) =
    file_entries_refused error bytes columns c.args.limit (start_view start) found
    (subst (λ (s : Schema). are_below (length s.fields) columns ≡ true) normal below) refused in
    search (rules, whole)

pub gather_table-requires-clause-arrays : goal.gather_table-requires-clause-arrays
gather_table-requires-clause-arrays c =
    let start = c.in_ok-start.start in
    let schema = c.in_ok-schema.schema in
    let found : start_in c.args.bytes.now ≡ Some (start_view start) = search rules in
    let normal : schema ≡ normalised start.schema = search rules in
    subst (λ (s : Schema). HasArrays (layout_by s.fields start.ipc_schema)) (sym normal)
    (start_has_arrays c.args.bytes.now (start_view start) c.schemas_have_arrays.ensures found)

pub gather_table-requires-clause-form : goal.gather_table-requires-clause-form
gather_table-requires-clause-form c =
    let start = c.in_ok-start.start in
    let found : start_in c.args.bytes.now ≡ Some (start_view start) = search rules in
    let normal : c.in_ok-schema.schema ≡ normalised start.schema = search rules in
    let form = subst HasOneForm (sym normal) (start_form c.args.bytes.now (start_view start) found c.whole.ensures) in
    record { writable = form.0; normal = form.1 }

pub returns : goal.returns
returns c =
    let bytes = c.args.bytes.now in
    let columns = c.args.columns.now in
    let start = c.in_ok-start.start in
    let schema = c.in_ok-schema.schema in
    let entries = c.in_ok-entries.entries in
    let found : start_in bytes ≡ Some (start_view start) = search rules in
    let normal : schema ≡ normalised start.schema = search rules in
    let below : are_below (length schema.fields) columns ≡ true = search rules in
    let there : file_entries bytes (start_view start).dictionaries (start_view start).record_batches ≡ Some (entries_view entries) =
    search rules in
    let gathered : GathersTable schema (layout_by schema.fields start.ipc_schema) columns c.args.limit (entries_view entries)
    c.gather_table.result = search rules in
    held_read file bytes columns c.args.limit (start_view start).schema (entries_view entries) c.gather_table.result
    (file_entries_found bytes (start_view start) (entries_view entries) found there)
    (subst (λ (s : Schema). are_below (length s.fields) columns ≡ true) normal below)
    (subst (λ (s : Schema). GathersTable s (layout_by s.fields start.ipc_schema) columns c.args.limit (entries_view entries)
    c.gather_table.result) normal gathered)
