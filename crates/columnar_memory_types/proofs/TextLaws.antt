-- Texts are UTF-8, keys in order ascend, and a loop that has gone over some fields has gone over their texts.
use Rattle.std.proofs.Common.{◌≡◌, ◌∙◌, ℕ, zero, suc, Bool, true, List, [], ◌∷◌, refl, sym, ap, drop, get_or, map}
use Rattle.std.specs.Prelude.{◌&&◌}
use Rattle.std.specs.Map.{keys_of}
use Rattle.std.specs.List.{AllByRecursion}
use Rattle.std.specs.List.Sorted.{IsStrictlySortedBy}
use Rattle.std.specs.Ordering.{is_lt, nat_cmp}
use Rattle.std.specs.declared.cmp.Ordering.TheVariants.{Less}
use Rattle.std.specs.Cmp.Lexicographic.{slice_cmp}
use Rattle.columnar_memory_types.specs.Texts.{are_true, is_below, is_ascending}

both : (a b : Bool) → a ≡ true → b ≡ true → (a && b) ≡ true
both a b h k = ap (λ x. x && b) h ∙ k

is_below-all : (key : List ℕ) (pairs : List (List ℕ × List ℕ)) → AllByRecursion (λ other. slice_cmp nat_cmp key other ≡ Less) (keys_of pairs)
    → is_below key pairs ≡ true
is_below-all key [] h = refl
is_below-all key (p ∷ ps) h = both _ _ (ap is_lt h.0) (is_below-all key ps h.1)

pub is_ascending-sorted : (pairs : List (List ℕ × List ℕ)) → IsStrictlySortedBy (slice_cmp nat_cmp) (keys_of pairs) → is_ascending pairs ≡ true
unfolding IsStrictlySortedBy
is_ascending-sorted [] h = refl
is_ascending-sorted (p ∷ ps) h = both _ _ (is_below-all p.0 ps h.0) (is_ascending-sorted ps h.1)

-- one item more that passes a test
pub are_true-turn : {A : Type 0} (f : A → Bool) (xs : List A) (i : ℕ) (x : A) → x ≡ get_or xs i x → f x ≡ true
    → are_true (map f (drop i xs)) ≡ are_true (map f (drop (suc i) xs))
are_true-turn f [] zero x is h = refl
are_true-turn f [] (suc i) x is h = refl
are_true-turn f (y ∷ ys) zero x is h = ap (λ b. b && are_true (map f ys)) (ap f (sym is) ∙ h)
are_true-turn f (y ∷ ys) (suc i) x is h = are_true-turn f ys i x is h
