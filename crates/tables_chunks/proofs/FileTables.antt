-- The table of the batches that were read of a file.
use Rattle.std.proofs.Common.{◌≡◌, ◌∙◌, ℕ, ◌<◌, ◌≤◌, ◌^◌, List, [], length, sym, ap, subst, arith}
use Rattle.std.proofs.lemmas.List.{take_all}
use Rattle.std.specs.Prelude.{Option, Some, None, IsSomeAnd, Result, Ok, Err}
use Rattle.ipc_format.specs.Refusals.{HasTooManyRows, first_batches}
use Rattle.ipc_format.specs.columnar_memory.declared.Error.{Error}
use Rattle.ipc_format.specs.columnar_memory.declared.Error.TheVariants as errors
use Rattle.ipc_format.specs.columnar_memory.declared.Schema.{Schema}
use Rattle.ipc_format.specs.columns.Slots.{Slot}
use Rattle.ipc_format.specs.columns.Tables.{rows_of_batches}
use Rattle.ipc_format.specs.grammar.Files.{Block, Footer, file_entries, footer_in}
use Rattle.ipc_format.specs.flatbuffers.Reading.{◌>>=◌}
use Rattle.ipc_format.specs.grammar.SchemaGrammar.{schema_in}
use Rattle.ipc_format.specs.grammar.Tables.{Contents, file, batches_in, batches_of, contents_of, layout_of, table_of}
use Rattle.ipc_format.specs.Writable.{normalised}
use Rattle.ipc_format.proofs.Binding.{came_of}
use Rattle.ipc_format.proofs.StreamParts.{fitting, fits, too_many}
use Rattle.ipc_format.specs.ReadFiles.{ReadsFile}
use Rattle.ipc_format.specs.declared.whole_files.FileBatches.{FileBatches}
use Rattle.tables_chunks.specs.Faults.{fault_of}
use Rattle.tables_chunks.specs.ReadTables.{ReadsFileTable}
use Rattle.tables_chunks.specs.Reading.{slots_of_batches}
use Rattle.tables_chunks.specs.StoredTables.{MakesTable, Stored, as_table}
use Rattle.tables_chunks.specs.declared.fault.Fault.{Fault}
use Rattle.tables_chunks.specs.declared.fault.Fault.TheVariants as faults

abbrev Batches : Type 0
Batches = List (List (List Slot))

-- ---- the table of what a file holds

abbrev held : Contents → Option Batches
held contents = batches_of (layout_of contents.schema) [] contents.entries

-- where batches are held, the table has their rows under the schema, where these fit 64 bits
its_table : (schema : Schema) (batches : Batches) (given : Option Contents) → IsSomeAnd given (λ found. schema ≡ normalised found.schema.schema)
    → (given >>= held) ≡ Some batches
    → (given >>= (λ contents. fitting (normalised contents.schema.schema) (held contents))) ≡ fitting schema (Some batches)
its_table schema batches None is e = absurd is
its_table schema batches (Some contents) is e =
    ap (fitting (normalised contents.schema.schema)) e ∙ ap (λ (s : Schema). fitting s (Some batches)) (sym is)

file_table : (schema : Schema) (batches : Batches) (bytes : List ℕ)
    → IsSomeAnd (contents_of file bytes) (λ found. schema ≡ normalised found.schema.schema)
    → batches_in file bytes ≡ Some batches → table_of file bytes ≡ fitting schema (Some batches)
unfolding batches_in table_of
file_table schema batches bytes is e = its_table schema batches (contents_of file bytes) is e

-- ---- too many rows

-- a file's batches are its first ones, as many as there are
firsts_are_all : (bytes : List ℕ) (footer : Footer) → footer_in bytes ≡ Some footer
    → first_batches file (length footer.record_batches) bytes ≡ batches_in file bytes
unfolding first_batches batches_in contents_of
firsts_are_all bytes footer e =
    rw e (ap (λ (blocks : List Block). (schema_in footer.bytes footer.schema
    >>= (λ found. file_entries bytes footer.dictionaries blocks
    >>= (λ entries. Some (record { schema = found; entries = entries })))) >>= held)
    (take_all (length footer.record_batches) footer.record_batches (omega arith)))

footer_there : (bytes : List ℕ) (batches : Batches) → batches_in file bytes ≡ Some batches → (footer : Footer) × (footer_in bytes ≡ Some footer)
unfolding batches_in contents_of
footer_there bytes batches e =
    let a = came_of {A = Contents} (contents_of file bytes) held batches e in
    let b = came_of {A = Footer} (footer_in bytes) _ a.0 a.1 in
    (b.0, b.1)

many_in_file : (bytes : List ℕ) (batches : Batches) → batches_in file bytes ≡ Some batches → 2 ^ 64 ≤ length (rows_of_batches batches)
    → HasTooManyRows file bytes
many_in_file bytes batches e many =
    let footer = footer_there bytes batches e in
    (length footer.0.record_batches, rw (firsts_are_all bytes footer.0 footer.1 ∙ e) many)

-- ---- what is read

pub file_fault : (error : Error) (bytes : List ℕ) → ReadsFile (Err error) bytes → ReadsFileTable (Err (fault_of error)) bytes
file_fault errors.OutOfMemory bytes refused = tt
file_fault (errors.OutOfSpec what) bytes refused = refused
file_fault (errors.NotYetImplemented what) bytes refused = refused
file_fault (errors.External from what) bytes refused = absurd refused
file_fault (errors.Io what) bytes refused = absurd refused
file_fault (errors.InvalidArgumentError what) bytes refused = absurd refused
file_fault (errors.ExternalFormat what) bytes refused = absurd refused
file_fault errors.Overflow bytes refused = absurd refused

pub file_made : (bytes : List ℕ) (read : FileBatches) (result : Result Stored Fault) → ReadsFile (Ok read) bytes
    → MakesTable read.schema read.chunks.items result → ReadsFileTable result bytes
file_made bytes read (Ok table) is made =
    let batches = slots_of_batches read.chunks.items in
    let few : length (rows_of_batches batches) < 2 ^ 64 =
    subst (λ (t : Stored). length (as_table t).rows < 2 ^ 64) made.0 made.1 in (
      file_table read.schema batches bytes is.0 is.1 ∙ fits read.schema batches few ∙ ap (λ (t : Stored). Some (as_table t)) (sym made.0),
      is.1 ∙ ap (λ (t : Stored). Some (slots_of_batches t.batches)) (sym made.0),
    )
file_made bytes read (Err faults.TooManyRows) is many =
    let batches = slots_of_batches read.chunks.items in (
      file_table read.schema batches bytes is.0 is.1 ∙ too_many read.schema (Some batches) many,
      many_in_file bytes batches is.1 many,
    )
file_made bytes read (Err faults.Memory) is made = absurd made
file_made bytes read (Err (faults.Ipc error)) is made = absurd made
file_made bytes read (Err (faults.Lower error)) is made = absurd made
file_made bytes read (Err faults.Unfinished) is made = absurd made
file_made bytes read (Err (faults.NotSealable bar)) is made = absurd made
file_made bytes read (Err faults.RowWidth) is made = absurd made
file_made bytes read (Err faults.NoColumns) is made = absurd made
file_made bytes read (Err faults.NoSuchColumn) is made = absurd made
