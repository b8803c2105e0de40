use Rattle.std.proofs.Common.{◌∙◌, ap, arith, sym}
use Rattle.nested_arrays_core.specs.columns.StoredColumns.{column_len, column_type, fixed_lists}
use Rattle.nested_arrays_core.proofs.flat_lemmas.FixedWidths.{string_within}
use Rattle.nested_arrays_core.specs.flat.ColumnMasks.{column_mask}
use Rattle.nested_arrays_iterators.proofs.ReadSlots.{fixed_list}
use Rattle.nested_arrays_iterators.proofs.lists.RefFixedSizeListArrayArrayValues.value.Goals as goal

pub returns : goal.returns
returns c =
    let items = c.values-items.result.now in
    let size = c.size-size.result in
    let is = c.values-items.ensures
    ∙ ap (λ n. fixed_lists (column_type c.args.self.now) (column_mask c.args.self.now) n items) (sym c.size-size.ensures.value) in
    fixed_list c.args.self.now _ _ size items c.new.result c.args.i is c.whole.ensures
    (string_within size (column_len items) c.args.i (omega (arith, c.requires, ap column_len is))) c.new.ensures
