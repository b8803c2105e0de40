use Rattle.std.proofs.Common.{◌≡◌, ◌∙◌, ◌-◌, ap, arith, subst, sym, true}
use Rattle.nested_arrays_access.proofs.arrays_lemmas.SlotPlaces.{map_items}
use Rattle.nested_arrays_access.specs.arrays.Places.{AreItems}
use Rattle.nested_arrays_access.specs.columns.StoredColumns.{Column, column_len, is_valid_at}
use Rattle.nested_arrays_access.specs.flat.ColumnMasks.{column_mask}
use Rattle.nested_arrays_access.proofs.parts_lemmas.OffsetLists.{spans_count}
use Rattle.nested_arrays_core.proofs.NamedSlots.{set_from}
use Rattle.nested_arrays_core.proofs.equality.items_at.Goals as goal

pub start_end-start-requires : goal.start_end-start-requires
start_end-start-requires g c =
    let len = ap column_len c.array.view_is in
    omega (arith, c.requires, len, spans_count c.array.inside.offsets)

pub returns : goal.returns
returns g c =
    let array = c.args.array.now in
    let inside = c.array.inside in
    let start = c.start_end-start.result.0 in
    let stop = c.start_end-start.result.1 in
    let set : is_valid_at (column_mask array) c.args.i ≡ true =
    set_from (is_valid_at (column_mask array) c.args.i) (sym c.is_null.ensures ∙ c.if-is_null.false) in
    let there = map_items array inside.data_type inside.validity inside.offsets inside.values.value c.args.i start stop (sym c.array.view_is)
    c.whole.ensures.0 c.requires set c.start_end-start.ensures.start c.start_end-start.ensures.stop c.start_end-start.ensures.ordered
    c.start_end-start.ensures.within in
    subst (λ (child : Column). AreItems array c.args.i child start (stop - start)) (sym c.deref.ensures) there
