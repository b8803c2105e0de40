use Rattle.std.proofs.Common.{◌∙◌, ◌<◌, ap, length, rules, sym}
use Rattle.nested_arrays_core.specs.columns.Slots.{pick}
use Rattle.nested_arrays_core.specs.columns.StoredColumns.{column_type}
use Rattle.nested_arrays_core.proofs.arrays_lemmas.SlotPlaces.{child_there, place_there, union_pick}
use Rattle.nested_arrays_iterators.proofs.struct_walks.RefUnionArrayArrayValues.value.Goals as goal

pub bounds-fields-number : goal.bounds-fields-number
bounds-fields-number c =
    let index = c.index-number in
    let fields = c.fields-fields in
    child_there fields.result.now index.result.0 index.result.1
    (place_there c.args.self.now fields.result.now _ _ _ c.args.i index.result.0 index.result.1 fields.ensures index.ensures.child
    index.ensures.place index.ensures.within)

pub offset_bounds-fields-number : goal.offset_bounds-fields-number
offset_bounds-fields-number c =
    let h : c.index-number.result.0 < length c.fields-fields.result.now = bounds-fields-number c in
    search rules

pub new-requires : goal.new-requires
new-requires c =
    let index = c.index-number in
    let fields = c.fields-fields in
    let room = place_there c.args.self.now fields.result.now _ _ _ c.args.i index.result.0 index.result.1 fields.ensures index.ensures.child
    index.ensures.place index.ensures.within in
    (union_pick c.args.self.now fields.result.now _ _ _ c.args.i index.result.0 index.result.1 c.index-fields-number.result fields.ensures
    index.ensures.slot room c.index-fields-number.is).within

pub returns : goal.returns
returns c =
    let index = c.index-number in
    let fields = c.fields-fields in
    let child = c.index-fields-number.result in
    let room = place_there c.args.self.now fields.result.now _ _ _ c.args.i index.result.0 index.result.1 fields.ensures index.ensures.child
    index.ensures.place index.ensures.within in
    let picked = union_pick c.args.self.now fields.result.now _ _ _ c.args.i index.result.0 index.result.1 child fields.ensures
    index.ensures.slot room c.index-fields-number.is in
    (column_type child, picked.shown ∙ ap (pick (column_type child)) (sym c.new.ensures))
