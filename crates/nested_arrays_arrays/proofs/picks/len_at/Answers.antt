use Rattle.std.proofs.Common.{◌∙◌, sym}
use Rattle.nested_arrays_arrays.proofs.UnionParts.{room_there, room_nowhere}
use Rattle.nested_arrays_arrays.proofs.picks.len_at.Goals as goal

pub returns-in-Some : goal.returns-in-Some
returns-in-Some c =
    c.len.ensures
    ∙ sym (room_there c.args.arrays.now c.args.place c.in-Some.array.now c.in-Some.ensures.lookup.3.0 c.in-Some.ensures.lookup.1)

pub returns-in-None : goal.returns-in-None
returns-in-None c = sym (room_nowhere c.args.arrays.now c.args.place c.in-None.ensures.lookup.3)
