-- The row stands behind the others, or nothing changed.
use Rattle.std.proofs.Common.{◌≡◌, ◌∙◌, ◌<◌, length, map, subst, arith}
use Rattle.std.proofs.lemmas.List.{length-map}
use Rattle.nested_arrays_cells.specs.parts.Scalars.{cell_of, scalar_slot}
use Rattle.tables_rows.specs.Building.{Building, seen}
use Rattle.tables_rows.specs.Pushing.{PushesRow}
use Rattle.tables_rows.proofs.PushedRows.{pushes_row, slots_of_cells, still_open}
use Rattle.tables_rows.proofs.builder.TableBuilder.push_row.Goals as goal

pub invariant_of-self : goal.invariant_of-self
invariant_of-self c =
    let columns = c.self.inside.columns.items in
    let held = c.self.invariant in
    let some : 0 < length columns = omega (arith, c.len-count.ensures, c.if-count-eq0.false) in
    let many : length (map scalar_slot c.args.row.now) ≡ length columns =
    length-map c.args.row.now scalar_slot ∙ omega (arith, c.if-row-count.false, c.len-count.ensures) in
    record {
      form = held.form;
      sealable = held.sealable;
      are = still_open c.self.inside.table.schema.fields columns c.push_each.new.columns.items (map scalar_slot c.args.row.now)
          c.push_each.result some many held.are c.push_each.ensures;
    }

pub returns : goal.returns
returns c =
    let columns = c.self.inside.columns.items in
    let table = c.self.inside.table in
    let row = c.args.row.now in
    let some : 0 < length columns = omega (arith, c.len-count.ensures, c.if-count-eq0.false) in
    let many : length (map cell_of row) ≡ length columns =
    length-map row cell_of ∙ omega (arith, c.if-row-count.false, c.len-count.ensures) in
    subst (λ (old : Building). PushesRow old (map cell_of row) c.push_each.result (seen table c.push_each.new.columns.items)) c.self.view_is
    (pushes_row table columns c.push_each.new.columns.items (map scalar_slot row) (map cell_of row) c.push_each.result
    (slots_of_cells cell_of row) some many c.self.invariant.are c.push_each.ensures)
