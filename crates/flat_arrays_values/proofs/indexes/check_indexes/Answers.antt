use Rattle.std.proofs.Common.{◌+◌, ◌≤◌, ◌<◌, ◌↔◌, ◌≡◌, ◌∙◌, ℕ, Bool, List, true, false, length, get_or, refl, subst, sym, take, arith}
use Rattle.std.proofs.lemmas.List.{get_or-take, length-take-le, take-take, take_all}
use Rattle.std.proofs.lemmas.List.Elements.{All-more, All-take}
use Rattle.std.specs.Cmp.Derive.{both_true}
use Rattle.std.specs.List.{All}
use Rattle.std.specs.Prelude.{IsTrue, ◌&&◌}
use mathlib.Core.Bool.{true≢false}
use Rattle.flat_arrays_values.specs.Results.{IsPlaceBelow}
use Rattle.flat_arrays_values.proofs.indexes.check_indexes.Goals as goal

both : (a b : Bool) → IsTrue (a && b) → IsTrue a × IsTrue b
both true b h = (refl, h)
both false b h = absurd (true≢false (sym h))

-- one more of the first elements
first_more : {X : Type 0} (P : X → Type 0) (xs : List X) (i : ℕ) (x : X) → i < length xs → x ≡ get_or xs i x → (a b : Bool)
    → IsTrue a ↔ All P (take i xs) → IsTrue b ↔ P x → IsTrue (a && b) ↔ All P (take (i + 1) xs)
first_more P xs i x within is a b first one = (
  λ h. All-more P xs i x within (first.0 (both a b h).0) (subst P is (one.0 (both a b h).1)),
  λ all. both_true
      (first.1 (subst (All P) (take-take i (i + 1) xs (omega arith)) (All-take P i (take (i + 1) xs) all)))
      (one.1 (subst P (get_or-take (i + 1) xs i x (omega arith) ∙ sym is)
      (all i x (omega (arith, within, length-take-le (i + 1) xs (omega (arith, within))))))),
)

pub loop-key-preserved : goal.loop-key-preserved
loop-key-preserved g c =
    first_more (λ key. IsPlaceBelow c.args.len (g.K.Number.value key)) c.args.keys.now c.loop-key.key-index c.key-item.result c.loop-key-test.true
    c.key-item.is c.loop-key.are_places c.is_place_below-are_places.result c.loop-key.invariant c.is_place_below-are_places.ensures

pub returns-then-are_places : goal.returns-then-are_places
returns-then-are_places g c =
    let whole : length c.args.keys.now ≤ c.loop-key.key-index = omega (arith, c.loop-key-test.false) in
    subst (All (λ key. IsPlaceBelow c.args.len (g.K.Number.value key))) (take_all c.loop-key.key-index c.args.keys.now whole)
    (c.loop-key.invariant.0 c.if-are_places.true)

pub returns-else-are_places : goal.returns-else-are_places
returns-else-are_places g c = (
  tt,
  λ all. true≢false (sym (c.loop-key.invariant.1
      (All-take (λ key. IsPlaceBelow c.args.len (g.K.Number.value key)) c.loop-key.key-index c.args.keys.now all))
      ∙ c.if-are_places.false),
)
