use Rattle.std.proofs.Common.{◌≡◌, ◌∙◌, ◌*◌, ℕ, List, length, ap, arith, rules, subst}
use Rattle.nested_arrays_sized_builders.specs.SizedStrings.{JoinsBytes}
use Rattle.nested_arrays_sized_builders.proofs.SizedPushes.{joined_sized}
use Rattle.nested_arrays_sized_builders.proofs.sized_strings.MutableFixedSizeBinaryArray.try_extend_from_self.Goals as goal

pub invariant_of-self : goal.invariant_of-self
invariant_of-self c =
    let own = c.self.inside in
    let other = c.other.inside in
    let join = c.join_bytes in
    let same : other.size ≡ own.size = omega (arith, c.if-other-self.false) in
    let given : c.deref.result.now ≡ other.values.items = search rules in
    let long : length other.values.items ≡ own.size * length other.marks =
    c.other.invariant.counted ∙ ap (λ (n : ℕ). n * length other.marks) same in
    joined_sized c.self.invariant other.marks other.values.items long c.other.invariant.bytes join.new.marks join.new.values.items join.result
    (subst (λ (more : List ℕ). JoinsBytes own.marks own.values.items other.marks more join.new.marks join.new.values.items join.result) given
    join.ensures)
