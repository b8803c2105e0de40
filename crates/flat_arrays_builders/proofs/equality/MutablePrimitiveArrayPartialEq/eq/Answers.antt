use Rattle.std.proofs.lemmas.Bool.Decides.{same_from_decides}
use Rattle.flat_arrays_builders.specs.SlotsEqual.{same_slots, same_slots-Decides}
use Rattle.flat_arrays_builders.proofs.equality.MutablePrimitiveArrayPartialEq.eq.Goals as goal

pub returns-clause-value : goal.returns-clause-value
returns-clause-value g c =
    let a = c.args.self.now in
    let b = c.args.other.now in
    same_from_decides c.has_slots_of.result (same_slots g.T.PartialEq.eq a b)
    c.has_slots_of.ensures (same_slots-Decides g.met.T.NativeType.eq_law a b)
