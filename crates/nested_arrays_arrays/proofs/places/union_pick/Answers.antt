use Rattle.std.proofs.Common.{arith}
use Rattle.nested_arrays_arrays.proofs.SlotPlaces.{child_there, place_there, union_pick}
use Rattle.nested_arrays_arrays.proofs.places.union_pick.Goals as goal

pub returns-in-Some : goal.returns-in-Some
returns-in-Some c =
    let room = place_there c.args.array.now c.fields-fields.result.now _ _ _ c.args.i c.index-number.result.0 c.index-number.result.1
    c.fields-fields.ensures c.index-number.ensures.child c.index-number.ensures.place c.index-number.ensures.within in
    union_pick c.args.array.now c.fields-fields.result.now _ _ _ c.args.i c.index-number.result.0 c.index-number.result.1 c.in-Some.child.now
    c.fields-fields.ensures c.index-number.ensures.slot room c.in-Some.ensures.lookup.1

pub returns-in-None : goal.returns-in-None
returns-in-None c = λ is.
    let room = place_there c.args.array.now c.fields-fields.result.now _ _ _ c.args.i c.index-number.result.0 c.index-number.result.1
    c.fields-fields.ensures c.index-number.ensures.child c.index-number.ensures.place c.index-number.ensures.within in
    omega (arith, child_there c.fields-fields.result.now c.index-number.result.0 c.index-number.result.1 room, c.in-None.ensures.lookup.3)
