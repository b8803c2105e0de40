use Rattle.std.proofs.Common.{◌∙◌, ap, arith, sym}
use Rattle.nested_arrays_arrays.proofs.SlotPlaces.{map_items}
use Rattle.nested_arrays_parts.specs.columns.StoredColumns.{column_len, column_type, lists}
use Rattle.nested_arrays_parts.specs.flat.ColumnMasks.{column_mask}
use Rattle.nested_arrays_parts.proofs.OffsetLists.{spans_count}
use Rattle.nested_arrays_arrays.proofs.places.map_items.Goals as goal

pub start_end-start-requires : goal.start_end-start-requires
start_end-start-requires c =
    let spans = c.offsets.result.now in
    let is = c.field-entries.ensures
    ∙ ap (λ o. lists (column_type c.args.array.now) (column_mask c.args.array.now) o c.field-entries.result.now) (sym c.offsets.ensures) in
    omega (arith, c.requires.within, ap column_len is, spans_count spans)

pub returns : goal.returns
returns c =
    let is = c.field-entries.ensures
    ∙ ap (λ o. lists (column_type c.args.array.now) (column_mask c.args.array.now) o c.field-entries.result.now) (sym c.offsets.ensures) in
    map_items c.args.array.now _ _ c.offsets.result.now c.field-entries.result.now c.args.i _ _ is c.whole.ensures.0 c.requires.within
    c.requires.set c.start_end-start.ensures.start c.start_end-start.ensures.stop c.start_end-start.ensures.ordered
    c.start_end-start.ensures.within
