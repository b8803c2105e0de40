use Rattle.std.proofs.Common.{◌≡◌, ◌∙◌, sym, rules}
use Rattle.std.proofs.lemmas.Bool.Decides.{same_from_decides}
use Rattle.columnar_memory_core.specs.Equality.{same_type, same_type-Decides}
use Rattle.flat_arrays_values.specs.FlatEqual.{same_flat, same_flat-Decides}
use Rattle.flat_arrays_values.proofs.SameSlots.{equal_then, equal_else}
use Rattle.flat_arrays_values.proofs.equality.PrimitiveArrayPartialEq.eq.Goals as goal
use mathlib.Core.Bool.{true≢false}

pub returns-then-eq-clause-exact : goal.returns-then-eq-clause-exact
returns-then-eq-clause-exact g c =
    let a = c.args.self.now in
    let b = c.args.other.now in
    let same : c.eq.result ≡ same_type a.data_type b.data_type = search rules in
    equal_then a b ((same_type-Decides a.data_type b.data_type).0 (sym same ∙ c.if-eq.true)) c.has_slots_of.result c.has_slots_of.ensures

pub returns-then-eq-clause-value : goal.returns-then-eq-clause-value
returns-then-eq-clause-value g c =
    let a = c.args.self.now in
    let b = c.args.other.now in
    same_from_decides c.has_slots_of.result (same_flat g.T.PartialEq.eq a b) (returns-then-eq-clause-exact g c)
    (same_flat-Decides g.met.T.NativeType.eq_law a b)

pub returns-else-eq-clause-exact : goal.returns-else-eq-clause-exact
returns-else-eq-clause-exact g c =
    let a = c.args.self.now in
    let b = c.args.other.now in
    let same : c.eq.result ≡ same_type a.data_type b.data_type = search rules in
    equal_else a b (λ types. true≢false (sym (same ∙ (same_type-Decides a.data_type b.data_type).1 types) ∙ c.if-eq.false)) c.eq.result c.if-eq.false
