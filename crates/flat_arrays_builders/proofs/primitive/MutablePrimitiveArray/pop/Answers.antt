use Rattle.std.proofs.Common.{ℕ, ◌-◌, ◌∙◌, ap, sym}
use Rattle.flat_arrays_builders.proofs.Popped.{last_popped, nothing_popped}
use Rattle.flat_arrays_builders.proofs.primitive.MutablePrimitiveArray.pop.Goals as goal

pub returns-then-len-eq0 : goal.returns-then-len-eq0
returns-then-len-eq0 g c =
    let len = c.len-len.ensures in nothing_popped c.args.self.now (sym len.value ∙ c.if-len-eq0.true) len.whole.masked

pub returns : goal.returns
returns g c =
    let place = ap (λ (n : ℕ). n - 1) c.len-len.ensures.value in
    last_popped c.args.self.now c.keep_first.new.self (c.len-len.result - 1) c.get-slot.result place c.get-slot.ensures c.keep_first.ensures
