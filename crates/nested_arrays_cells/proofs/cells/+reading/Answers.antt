use Rattle.std.proofs.Common.{rules, ◌≡◌, ◌∙◌, ◌+◌, ◌≤◌, [], ◌∷◌, ◌++◌, length, map, true, ap, arith, subst, sym, List}
use Rattle.nested_arrays_builder_arrays.specs.arrays.AnyColumns.{column_of}
use Rattle.nested_arrays_builder_arrays.specs.arrays.columns.Slots.{Slot, fields, in_slots, items}
use Rattle.nested_arrays_builder_arrays.specs.arrays.columns.StoredColumns.{Column, column_len, column_size, column_type, columns_size, in_columns}
use Rattle.nested_arrays_builder_arrays.specs.arrays.columns.StoredColumns.{slot_at}
use Rattle.nested_arrays_builder_arrays.specs.arrays.declared.any.Node.TheVariants as nodes
use Rattle.nested_arrays_builder_arrays.proofs.arrays_lemmas.CutNodes.{one_size}
use Rattle.nested_arrays_builder_arrays.specs.parts.Scalars.{scalar_slot}
use Rattle.nested_arrays_scalars.specs.declared.scalars.AnyScalar.{AnyScalar}
use Rattle.nested_arrays_cells.specs.ArrayCells.{has_cell, has_cell_at, IsCell}
use Rattle.nested_arrays_cells.proofs.CellForms.{list_slot, record_slot}
use Rattle.nested_arrays_cells.proofs.ReadCells.{AreRead, AreReadEach}
use Rattle.nested_arrays_cells.proofs.ReadPlaces.{null_read}
use Rattle.nested_arrays_cells.proofs.ReadSlots.{all_read_each, one_is_none, one_more_read, place_in}
use Rattle.nested_arrays_cells.proofs.cells.+reading.Goals as goal

pub cell_at-returns-in-None : goal.cell_at-returns-in-None
cell_at-returns-in-None t c =
    null_read (column_of (nodes.List c.in-List.node)) c.args.array.now c.args.place (ap column_of (sym c.in-List.is) ∙ c.array.view_is)
    c.in-None.ensures

pub cell_at-returns-in-None-fixed_items : goal.cell_at-returns-in-None-fixed_items
cell_at-returns-in-None-fixed_items t c =
    null_read c.in-FixedSizeList.array c.args.array.now c.args.place (ap column_of (sym c.in-FixedSizeList.is) ∙ c.array.view_is)
    c.in-None-fixed_items.ensures

pub cell_at-returns-in-None-record_fields : goal.cell_at-returns-in-None-record_fields
cell_at-returns-in-None-record_fields t c =
    null_read c.in-Struct.array c.args.array.now c.args.place (ap column_of (sym c.in-Struct.is) ∙ c.array.view_is)
    c.in-None-record_fields.ensures

pub cell_at-returns-in-None-named_value : goal.cell_at-returns-in-None-named_value
cell_at-returns-in-None-named_value t c =
    null_read (column_of (nodes.Dictionary c.in-Dictionary.node)) c.args.array.now c.args.place
    (ap column_of (sym c.in-Dictionary.is) ∙ c.array.view_is) c.in-None-named_value.ensures

pub list_cell-returns-in-None : goal.list_cell-returns-in-None
list_cell-returns-in-None t c =
    let column = c.args.array.now in
    let at = c.args.start + c.loop-k.k in
    one_is_none (has_cell (column_type column)) (slot_at column) c.args.start c.args.len c.loop-k.k c.loop-k-test.true
    (subst (λ found. IsCell (has_cell_at at column) (slot_at column at) found) c.in-None.is c.in_ok-cell.ensures)

pub list_cell-loop-k-preserved : goal.list_cell-loop-k-preserved
list_cell-loop-k-preserved t c =
    let column = c.args.array.now in
    let at = c.args.start + c.loop-k.k in
    let has = has_cell (column_type column) in
    let pushed : c.push.new.self ≡ c.loop-k.cells ++ c.in-Some.cell ∷ [] = c.in_ok-push-in-Some.ensures.ok in
    let one = subst (λ found. IsCell (has_cell_at at column) (slot_at column at) found) c.in-Some.is c.in_ok-cell.ensures in
    subst (λ (cells : List AnyScalar). AreRead has (slot_at column) c.args.start (c.loop-k.k + 1) (map scalar_slot cells)) (sym pushed)
    (one_more_read scalar_slot has (slot_at column) c.args.start c.loop-k.k c.loop-k.cells c.in-Some.cell c.loop-k.invariant one.0 one.1)

pub list_cell-returns : goal.list_cell-returns
list_cell-returns t c =
    let column = c.args.array.now in
    let end : c.loop-k.k ≡ c.args.len = omega (arith, c.loop-k-test.false, c.loop-k.auto.k-end) in
    let read = subst (λ n. AreRead (has_cell (column_type column)) (slot_at column) c.args.start n (map scalar_slot c.loop-k.cells)) end
    c.loop-k.invariant in
    (read.cells, list_slot c.loop-k.cells ∙ ap (λ (slots : List Slot). items (in_slots slots)) read.shown)

pub record_cell-cell_at-requires : goal.record_cell-cell_at-requires
record_cell-cell_at-requires t c =
    let columns = c.args.arrays.now in
    let one = c.index-arrays-k.result in
    let k = c.loop-k.k in
    let size : column_size one ≤ columns_size (in_columns columns) =
    omega (arith, one_size columns k one c.loop-k-test.true, ap column_size c.index-arrays-k.is) in (
      search (rules, size),
      omega (arith, place_in columns c.args.place k one c.requires c.loop-k-test.true, ap column_len c.index-arrays-k.is),
    )

pub record_cell-returns : goal.record_cell-returns
record_cell-returns t c =
    let columns = c.args.arrays.now in
    let read = map scalar_slot c.loop-k.cells in
    let end : c.loop-k.k ≡ length columns = omega (arith, c.loop-k-test.false, c.loop-k.auto.k-end) in
    let both = all_read_each scalar_slot columns c.args.place read
    (subst (λ n. AreReadEach columns c.args.place n read) end c.loop-k.invariant) in
    (both.0, record_slot c.loop-k.cells ∙ ap fields both.1)
