-- The file that is written of a table, without its first eight bytes, reads as a stream of it.
use Rattle.std.proofs.Common.{◌≡◌, ◌∙◌, ℕ, ◌<◌, ◌^◌, List, ◌++◌, length, drop, map, refl, sym, ap, subst, append_assoc}
use Rattle.std.specs.Prelude.{IfOk, Result, Ok, Err}
use Rattle.ipc_format.specs.columnar_memory.declared.Schema.{Schema}
use Rattle.ipc_format.specs.columns.StoredColumns.{Column, slots}
use Rattle.ipc_format.specs.WrittenFiles.{file_bytes, file_end}
use Rattle.ipc_format.specs.reading_laws.laws.Schemas.{HasTexts}
use Rattle.ipc_format.specs.reading_laws.laws.Tables.{ReadsAs}
use Rattle.tables_chunks.specs.Batches.{stored_rows}
use Rattle.tables_chunks.specs.StoredTables.{IsTable, Stored, row_count}
use Rattle.tables_chunks.specs.WrittenFiles.{IsTableFile, table_file, table_footer}
use Rattle.tables_chunks.specs.WrittenTables.{ReadAsTable, table_bytes}
use Rattle.tables_chunks.proofs.StreamsRead.{table_reads_back}

-- behind the mark and two zeros stands the stream, and what ends a file
behind_mark : (schema : Schema) (batches : List (List Column))
    → drop 8 (table_file schema batches) ≡ table_bytes schema batches ++ file_end (table_footer schema batches)
unfolding file_bytes
behind_mark schema batches = refl

pub file_reads_as_stream : (schema : Schema) (batches : List (List Column)) → IsTable schema batches → IsTableFile schema batches → HasTexts schema
    → length (stored_rows batches) < 2 ^ 64 → ReadAsTable (drop 8 (table_file schema batches)) schema batches
file_reads_as_stream schema batches may its texts few behind =
    let stream = table_bytes schema batches in
    let end = file_end (table_footer schema batches) in
    let whole : drop 8 (table_file schema batches) ++ behind ≡ stream ++ (end ++ behind) =
    ap (λ (bytes : List ℕ). bytes ++ behind) (behind_mark schema batches) ∙ append_assoc stream end behind in
    subst (λ (bytes : List ℕ). ReadsAs bytes schema (map (λ (batch : List Column). map slots batch) batches)) (sym whole)
    (table_reads_back schema batches may its.within texts few (end ++ behind))

-- what is said of a schema and batches is said of the table that has them
pub told_as_stream : {E : Type 0} (result : Result (Unit {0}) E) (table : Stored) (schema : Schema) (batches : List (List Column))
    → schema ≡ table.schema → batches ≡ table.batches → HasTexts table.schema → row_count table < 2 ^ 64
    → IfOk result (λ _. HasTexts schema → length (stored_rows batches) < 2 ^ 64 → ReadAsTable (drop 8 (table_file schema batches)) schema batches)
    → IfOk result (λ _. ReadAsTable (drop 8 (table_file table.schema table.batches)) table.schema table.batches)
told_as_stream (Ok done) table schema batches same are texts few told =
    let given : Stored = record { schema = schema; batches = batches } in
    let whole : given ≡ table = λ j. record { schema = same j; batches = are j } in
    subst (λ (t : Stored). HasTexts t.schema → row_count t < 2 ^ 64 → ReadAsTable (drop 8 (table_file t.schema t.batches)) t.schema t.batches)
    whole told texts few
told_as_stream (Err error) table schema batches same are texts few told = tt
