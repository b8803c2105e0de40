-- Whether ids fit columns, one after another.
use Rattle.std.proofs.Common.{◌≡◌, ◌∙◌, ℕ, Bool, true, false, ◌&&◌, List, ◌∷◌, length, map, sym, ap}
use Rattle.std.specs.Prelude.{nat_eq}
use Rattle.ipc_format_batch_reading.proofs.BesideLists.{one_more, too_few}
use Rattle.ipc_format_batch_reading.specs.columnar_memory.declared.DataType.{DataType}
use Rattle.ipc_format_batch_reading.specs.columns.StoredColumns.{Column, column_type}
use Rattle.ipc_format_batch_reading.specs.grammar.Columns.{first_ids, other_ids}
use Rattle.ipc_format_batch_reading.specs.grammar.Ids.{Fitting, ids_fit}
use Rattle.ipc_format_batch_reading.specs.grammar.Schemas.{Ids, IdsList}
use Rattle.ipc_format_batch_reading.specs.metadata.Views.{ids_views}
use Rattle.ipc_format_batch_reading.specs.metadata.declared.ipc_schema.IpcField.{IpcField}
use Rattle.ipc_format_chunk_writing.specs.Types.{ids_fit_columns}

tests_of : List Column → List Fitting
tests_of columns = map (λ (column : Column). ids_fit (column_type column)) columns

-- no ids are left for a column
pub column_without : (columns rest : List Column) (column : Column) (beside : List IpcField) → columns ≡ column ∷ rest
    → nat_eq (length beside) 0 ≡ true → false ≡ ids_fit_columns columns (ids_views beside)
unfolding tests_of
column_without columns rest column beside is none =
    sym (ap (λ (them : List Column). ids_fit_columns them (ids_views beside)) is
    ∙ too_few (ids_fit (column_type column)) (tests_of rest) beside none)

-- the first column's ids, and the others'
pub column_with : (columns rest : List Column) (column : Column) (beside : List IpcField) (t : DataType) (here : Ids) (others : IdsList)
    (fits more : Bool) → columns ≡ column ∷ rest → nat_eq (length beside) 0 ≡ false → t ≡ column_type column → here ≡ first_ids (ids_views beside)
    → others ≡ other_ids (ids_views beside) → fits ≡ ids_fit t here → more ≡ ids_fit_columns rest others
    → (fits && more) ≡ ids_fit_columns columns (ids_views beside)
unfolding tests_of
column_with columns rest column beside t here others fits more is some type_is first other fit rest_fit =
    (λ i. (fit ∙ (λ j. ids_fit (type_is j) (first j))) i && (rest_fit ∙ ap (ids_fit_columns rest) other) i)
    ∙ sym (ap (λ (them : List Column). ids_fit_columns them (ids_views beside)) is
    ∙ one_more (ids_fit (column_type column)) (tests_of rest) beside some)
