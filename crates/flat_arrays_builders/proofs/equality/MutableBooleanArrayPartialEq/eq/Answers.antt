use Rattle.std.proofs.lemmas.Bool.Decides.{same_from_decides}
use Rattle.std.proofs.Math.Bool.{beq}
use Rattle.std.specs.Cmp.{booleans_Decides}
use Rattle.flat_arrays_builders.specs.SlotsEqual.{same_slots, same_slots-Decides}
use Rattle.flat_arrays_builders.proofs.equality.MutableBooleanArrayPartialEq.eq.Goals as goal

pub returns-clause-value : goal.returns-clause-value
returns-clause-value c =
    let a = c.args.self.now in
    let b = c.args.other.now in
    same_from_decides c.has_slots_of.result (same_slots beq a b) c.has_slots_of.ensures (same_slots-Decides booleans_Decides a b)
