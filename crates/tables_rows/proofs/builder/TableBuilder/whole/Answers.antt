-- The open rows are those of columns that fit.
use Rattle.std.proofs.Common.{◌≡◌, ◌∙◌, length, true, ap, sym, subst}
use Rattle.tables_chunks.specs.ipc_format.columns.Rows.{columns_fit}
use Rattle.tables_rows.specs.Building.{IsBuilding}
use Rattle.tables_rows.specs.Columns.{are_fitting}
use Rattle.tables_rows.proofs.OpenRows.{as_many, columns_are, fitting_is, rows_are_wide}
use Rattle.tables_rows.proofs.TakenColumns.{all_fitting}
use Rattle.tables_rows.proofs.builder.TableBuilder.whole.Goals as goal

pub returns : goal.returns
returns c =
    let columns = c.self.inside.columns.items in
    let held = c.self.invariant in
    let fields = c.self.inside.table.schema.fields in
    let many : length columns ≡ length fields = as_many fields columns held.are.types in
    let fit : are_fitting columns ≡ true = ap are_fitting (sym c.deref.ensures.value) ∙ c.are_whole.ensures in
    subst IsBuilding c.self.view_is (record {
      form = held.form;
      sealable = held.sealable;
      wide = rows_are_wide fields columns many;
      fitting = ap (columns_fit fields) (columns_are fields columns many held.are.long) ∙ fitting_is fields columns held.are.types
          ∙ all_fitting columns fit;
    })
