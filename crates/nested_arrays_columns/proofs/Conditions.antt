-- Tests that hold of lists and places, and their parts.
use Rattle.std.proofs.Common.{◌≡◌, ℕ, zero, suc, ◌+◌, ◌-◌, ◌<◌, List, [], ◌∷◌, take, drop, refl, ap, ◌∙◌, arith, Bool, true}
use Rattle.std.specs.Prelude.{◌&&◌}
use Rattle.std.specs.List.{list_all}
use Rattle.std.proofs.lemmas.Bool.{and_parts, and_from, cases_eq}
use mathlib.Core.Logic.{inl, inr}
use Rattle.nested_arrays_columns.specs.StoredColumns.{cut_list}
use Rattle.nested_arrays_columns.specs.SoundColumns.{holds_below}

pub parts_of_3 : (a b c : Bool) → (a && b && c) ≡ true → (a ≡ true) × (b ≡ true) × (c ≡ true)
parts_of_3 a b c h = let p = and_parts (a && b) c h in let q = and_parts a b p.0 in (q.0, q.1, p.1)

pub parts_of_4 : (a b c d : Bool) → (a && b && c && d) ≡ true → (a ≡ true) × (b ≡ true) × (c ≡ true) × (d ≡ true)
parts_of_4 a b c d h = let p = and_parts (a && b && c) d h in let q = parts_of_3 a b c p.0 in (q.0, q.1, q.2, p.1)

pub parts_of_5 : (a b c d e : Bool) → (a && b && c && d && e) ≡ true → (a ≡ true) × (b ≡ true) × (c ≡ true) × (d ≡ true) × (e ≡ true)
parts_of_5 a b c d e h = let p = and_parts (a && b && c && d) e h in let q = parts_of_4 a b c d p.0 in (q.0, q.1, q.2, q.3, p.1)

-- a test that holds below a number holds at each place below it
pub holds_at : (n : ℕ) (test : ℕ → Bool) (i : ℕ) → holds_below n test ≡ true → i < n → test i ≡ true
holds_at zero test i h lt = absurd (omega arith)
holds_at (suc n) test i h lt =
    let parts = and_parts (holds_below n test) (test n) h in
    elim (cases_eq i n) [ inl e ↦ ap test e ∙ parts.1 | inr other ↦ holds_at n test i parts.0 (omega (arith, other)) ]

pub holds_from : (n : ℕ) (test : ℕ → Bool) → ((i : ℕ) → i < n → test i ≡ true) → holds_below n test ≡ true
holds_from zero test each = refl
holds_from (suc n) test each = and_from (holds_below n test) (test n) (holds_from n test (λ i h. each i (omega arith))) (each n (omega arith))

list_all-drop : {A : Type 0} (test : A → Bool) (o : ℕ) (xs : List A) → list_all test xs ≡ true → list_all test (drop o xs) ≡ true
list_all-drop test zero xs h = h
list_all-drop test (suc o) [] h = refl
list_all-drop test (suc o) (x ∷ xs) h = list_all-drop test o xs (and_parts (test x) (list_all test xs) h).1

pub list_all-take : {A : Type 0} (test : A → Bool) (n : ℕ) (xs : List A) → list_all test xs ≡ true → list_all test (take n xs) ≡ true
list_all-take test zero xs h = refl
list_all-take test (suc n) [] h = refl
list_all-take test (suc n) (x ∷ xs) h = let parts = and_parts (test x) (list_all test xs) h in
    and_from (test x) (list_all test (take n xs)) parts.0 (list_all-take test n xs parts.1)

-- what holds of each element holds of those of a part
pub list_all-cut_list : {A : Type 0} (test : A → Bool) (xs : List A) (o n : ℕ) → list_all test xs ≡ true → list_all test (cut_list xs o n) ≡ true
list_all-cut_list test xs o n h = list_all-take test (o + n - o) (drop o xs) (list_all-drop test o xs h)
