-- The places at which the greatest of some numbers rises.
use Rattle.std.proofs.Common.{◌≡◌, ◌∙◌, ◌<◌, ◌≤◌, ◌+◌, ◌-◌, ℕ, zero, suc, List, [], ◌∷◌, ◌++◌, length, take, drop, get_or, refl, sym, ap, arith}
use Rattle.std.specs.Prelude.{◌⊎◌, max, replicate}
use Rattle.std.proofs.lemmas.List.{append_assoc, append-nil, get_or-append_right, get_or_append_left, get_or-replicate, length-append}
use Rattle.std.proofs.lemmas.List.{length-replicate, length-take-le, take-append-drop, take_at}
use mathlib.Core.Logic.{inl, inr}
use Rattle.nested_arrays_builder_values.specs.Uses.{greatest, raises_from}

less_or_not : (a b : ℕ) → (a < b) ⊎ (b ≤ a)
less_or_not a zero = inr (omega arith)
less_or_not zero (suc b) = inl (omega arith)
less_or_not (suc a) (suc b) = elim (less_or_not a b) [ inl less ↦ inl (omega (arith, less)) | inr not ↦ inr (omega (arith, not)) ]

-- as many as the greatest is above the first one
count : (place most : ℕ) (ns : List ℕ) → length (raises_from place most ns) + most ≡ max most (greatest ns)
count place most [] = omega arith
count place most (n ∷ ns) =
    omega (
      arith,
      count (place + 1) (max most n) ns,
      length-append (replicate (n - most) place) (raises_from (place + 1) (max most n) ns),
      length-replicate (n - most) place,
    )

pub raises_count : (ns raises : List ℕ) → raises ≡ raises_from 0 0 ns → length raises ≡ greatest ns
raises_count ns raises is = omega (arith, count 0 0 ns, ap length is)

-- some numbers behind others
split : (place most : ℕ) (xs ys : List ℕ)
    → raises_from place most (xs ++ ys) ≡ raises_from place most xs ++ raises_from (place + length xs) (max most (greatest xs)) ys
split place most [] ys =
    let here : place ≡ place + 0 = omega arith in
    let same : most ≡ max most 0 = omega arith in λ j. raises_from (here j) (same j) ys
split place most (x ∷ xs) ys =
    let next : (place + 1) + length xs ≡ place + length (x ∷ xs) = omega arith in
    let same : max (max most x) (greatest xs) ≡ max most (max x (greatest xs)) = omega arith in
    ap (λ rest. replicate (x - most) place ++ rest) (split (place + 1) (max most x) xs ys)
    ∙ sym (append_assoc (replicate (x - most) place) (raises_from (place + 1) (max most x) xs)
    (raises_from ((place + 1) + length xs) (max (max most x) (greatest xs)) ys))
    ∙ (λ j. raises_from place most (x ∷ xs) ++ raises_from (next j) (same j) ys)

-- each of them is one of the places
bounds : (place most : ℕ) (ns : List ℕ) (i : ℕ) → i < length (raises_from place most ns)
    → (place ≤ get_or (raises_from place most ns) i 0) × (get_or (raises_from place most ns) i 0 < place + length ns)
bounds place most [] i lt = absurd (omega (arith, lt))
bounds place most (n ∷ ns) i lt =
    let steps = n - most in
    let here = replicate steps place in
    let rest = raises_from (place + 1) (max most n) ns in
    let long = length-replicate steps place in
    elim (less_or_not i steps) [
      | inl less ↦
          let is : get_or (here ++ rest) i 0 ≡ place =
          get_or_append_left here rest 0 i (omega (arith, less, long)) ∙ get_or-replicate steps i place 0 less in
          (omega (arith, is), omega (arith, is))
      | inr not ↦
          let is = get_or-append_right here rest steps i 0 long not in
          let own = bounds (place + 1) (max most n) ns (i - steps) (omega (arith, lt, not, long, length-append here rest)) in
          (omega (arith, is, own.0), omega (arith, is, own.1))
    ]

pub no_raise : (raises : List ℕ) (need place : ℕ) → need ≤ length raises → raises ≡ raises ++ replicate (need - length raises) place
no_raise raises need place few =
    let none : need - length raises ≡ 0 = omega (arith, few) in
    sym (append-nil raises) ∙ ap (λ n. raises ++ replicate n place) (sym none)

pub one_more_raise : (ns raises : List ℕ) (k total place : ℕ) → raises ≡ raises_from 0 0 ns → total ≡ length raises → place ≡ length ns
    → raises ++ replicate (k - total) place ≡ raises_from 0 0 (ns ++ k ∷ [])
one_more_raise ns raises k total place is many at =
    let most : total ≡ max 0 (greatest ns) = omega (arith, many, raises_count ns raises is) in
    let here : place ≡ 0 + length ns = omega (arith, at) in
    (λ j. is j ++ replicate (k - most j) (here j))
    ∙ ap (λ (rs : List ℕ). raises_from 0 0 ns ++ rs) (sym (append-nil (replicate (k - max 0 (greatest ns)) (0 + length ns))))
    ∙ sym (split 0 0 ns (k ∷ []))

-- those of the first numbers: the ones before a place
pub first_raises : (len j : ℕ) (ns raises : List ℕ) → raises ≡ raises_from 0 0 ns → len ≤ length ns → j ≤ length raises
    → (0 < j → get_or raises (j - 1) 0 < len) → ((i : ℕ) → j ≤ i → i < length raises → len ≤ get_or raises i 0)
    → take j raises ≡ raises_from 0 0 (take len ns)
first_raises len j ns raises is le within before behind =
    let first = take len ns in
    let a = raises_from 0 0 first in
    let most = max 0 (greatest first) in
    let b = raises_from (0 + length first) most (drop len ns) in
    let long : length first ≡ len = length-take-le len ns le in
    let parts : raises ≡ a ++ b = is ∙ ap (raises_from 0 0) (sym (take-append-drop len ns)) ∙ split 0 0 first (drop len ns) in
    let many : length raises ≡ length a + length b = ap length parts ∙ length-append a b in
    let least : length a ≤ j = elim (less_or_not j (length a)) [
      | inl less ↦
          let at : get_or raises j 0 ≡ get_or a j 0 = ap (λ (rs : List ℕ). get_or rs j 0) parts ∙ get_or_append_left a b 0 j less in
          absurd (omega (arith, at, behind j (omega arith) (omega (arith, less, many)), (bounds 0 0 first j less).1, long))
      | inr not ↦ not
    ] in
    let most : j ≤ length a = elim (less_or_not (length a) j) [
      | inl less ↦
          let at : get_or raises (j - 1) 0 ≡ get_or b (j - 1 - length a) 0 =
          ap (λ (rs : List ℕ). get_or rs (j - 1) 0) parts ∙ get_or-append_right a b (length a) (j - 1) 0 refl (omega (arith, less)) in
          let own = bounds (0 + length first) most (drop len ns) (j - 1 - length a) (omega (arith, less, within, many)) in
          absurd (omega (arith, at, before (omega (arith, less)), own.0, long))
      | inr not ↦ not
    ] in
    ap (take j) parts ∙ take_at a b j (omega (arith, least, most))
