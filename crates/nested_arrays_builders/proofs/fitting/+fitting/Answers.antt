use Rattle.std.proofs.Common.{rules, ◌≡◌, ◌∙◌, length, map, Bool, false, true, refl, ap, sym, arith}
use Rattle.std.specs.Prelude.{◌&&◌, ◌==◌, nat_eq}
use Rattle.std.specs.List.{list_all}
use Rattle.std.proofs.lemmas.Bool.{eq-eqb}
use Rattle.std.proofs.lemmas.List.{length-map}
use Rattle.nested_arrays_builder_values.specs.parts.arrays.columnar_memory.declared.Field.{Field}
use Rattle.nested_arrays_builder_values.specs.parts.arrays.columns.Cells.{fit_each, fits_cell}
use Rattle.nested_arrays_builder_values.specs.parts.arrays.columns.Slots.{in_slots}
use Rattle.nested_arrays_builder_values.specs.parts.Scalars.{scalar_slot}
use Rattle.nested_arrays_builders.proofs.CellItems.{list_fits, one_fails, record_fits, sized_list_fits, uncounted}
use Rattle.nested_arrays_builders.proofs.fitting.+fitting.Goals as goal

left_decides : (a b : Bool) → a ≡ false → a ≡ (a && b)
left_decides false b h = refl
left_decides true b h = absurd cc

pub are_cells_of-returns-then-not-is_cell_of : goal.are_cells_of-returns-then-not-is_cell_of
are_cells_of-returns-then-not-is_cell_of t c =
    let off : c.is_cell_of.result ≡ false = search rules in
    one_fails (fits_cell c.args.data_type.now) c.args.cells.now c.loop-cell.cell-index c.cell-item.result c.loop-cell-test.true c.cell-item.is
    (sym c.is_cell_of.ensures ∙ off)

pub are_fields_of-returns-then-fields-cells : goal.are_fields_of-returns-then-fields-cells
are_fields_of-returns-then-fields-cells t c =
    let tests = map (λ (field : Field). fits_cell field.data_type) c.args.fields.now in
    uncounted tests c.args.cells.now (λ e. c.if-fields-cells.true
    (sym (length-map c.args.fields.now (λ (field : Field). fits_cell field.data_type)) ∙ e))

pub is_list-returns-in-List : goal.is_list-returns-in-List
is_list-returns-in-List t c =
    let test = fits_cell c.args.item.now.data_type in
    c.are_cells_of.ensures ∙ ap (λ cells. list_all test (map scalar_slot cells)) c.as_slice.ensures
    ∙ sym (list_fits c.args.cell.now c.in-List.cells c.in-List.is test)

pub is_record-returns-in-Record : goal.is_record-returns-in-Record
is_record-returns-in-Record t c =
    let tests = map (λ (field : Field). fits_cell field.data_type) c.args.fields.now in
    c.are_fields_of.ensures
    ∙ ap (λ cells. fit_each tests (in_slots (map scalar_slot cells))) c.as_slice.ensures
    ∙ sym (record_fits c.args.cell.now c.in-Record.cells c.in-Record.is tests)

pub is_sized_list-returns-then-len-size : goal.is_sized_list-returns-then-len-size
is_sized_list-returns-then-len-size t c =
    let test = fits_cell c.args.item.now.data_type in
    let cells = c.in-List.cells in
    let all = list_all test (map scalar_slot cells) in
    let same : length cells ≡ c.args.size = omega (arith, c.len.ensures, c.if-len-size.true) in
    c.are_cells_of.ensures ∙ ap (λ cells. list_all test (map scalar_slot cells)) c.as_slice.ensures
    ∙ sym (ap (λ b. b && all) (eq-eqb (length cells) c.args.size same))
    ∙ sym (sized_list_fits c.args.cell.now cells c.in-List.is c.args.size test)

pub is_sized_list-returns-else-len-size : goal.is_sized_list-returns-else-len-size
is_sized_list-returns-else-len-size t c =
    let test = fits_cell c.args.item.now.data_type in
    let cells = c.in-List.cells in
    let off : nat_eq c.len.result c.args.size ≡ false = search rules in
    left_decides (nat_eq c.len.result c.args.size) (list_all test (map scalar_slot cells)) off
    ∙ ap (λ m. (m == c.args.size) && list_all test (map scalar_slot cells)) c.len.ensures
    ∙ sym (sized_list_fits c.args.cell.now cells c.in-List.is c.args.size test)
