-- The first column has a slot for each open row.
use Rattle.std.proofs.Common.{◌∙◌, length, ap, sym}
use Rattle.tables_rows.specs.Building.{Building}
use Rattle.tables_rows.specs.Columns.{open_count}
use Rattle.tables_rows.proofs.OpenRows.{rows_count}
use Rattle.tables_rows.proofs.builder.TableBuilder.open_rows.Goals as goal

pub returns : goal.returns
returns c =
    c.count_of.ensures ∙ ap open_count c.deref.ensures.value ∙ sym (rows_count c.self.inside.columns.items)
    ∙ ap (λ (building : Building). length building.rows) c.self.view_is
