-- Slots compared place by place.
use Rattle.std.proofs.Common.{◌≡◌, ◌∙◌, ℕ, zero, suc, ◌+◌, ◌≤◌, Bool, false, List, [], ◌∷◌, length, take, drop, refl, ap, ap₂, sym, rules, arith}
use Rattle.std.specs.Prelude.{slice_get, option_to_list}
use Rattle.std.specs.Bool.{Decides}
use Rattle.flat_arrays_values.specs.Flat.{Flat, slots_of}
use Rattle.flat_arrays_values.specs.FlatEqual.{AreEqual}
use mathlib.Core.Bool.{true≢false}
use Rattle.std.proofs.lemmas.List.{take_all}

-- the first element, or another where there is none
abbrev head_or : {A : Type 0} → A → List A → A
head_or other [] = other
head_or other (x ∷ xs) = x

-- lists that agree up to a place and at it
pub same_next : {A : Type 0} (xs ys : List A) (i : ℕ) → take i xs ≡ take i ys → slice_get xs i ≡ slice_get ys i → take (i + 1) xs ≡ take (i + 1) ys
same_next [] [] i before here = refl
same_next [] (y ∷ ys) zero before here = search rules
same_next [] (y ∷ ys) (suc i) before here = search rules
same_next (x ∷ xs) [] zero before here = search rules
same_next (x ∷ xs) [] (suc i) before here = search rules
same_next (x ∷ xs) (y ∷ ys) zero before here = ap (λ o. option_to_list o) here
same_next {A} (x ∷ xs) (y ∷ ys) (suc i) before here =
    let heads : x ≡ y = ap (λ zs. head_or x zs) before in
    let tails : take i xs ≡ take i ys = ap (λ zs. drop 1 zs) before in
    let count : suc i + 1 ≡ suc (i + 1) = omega arith in
    ap (λ n. take n (x ∷ xs)) count ∙ ap₂ (λ (z : A) zs. z ∷ zs) heads (same_next xs ys i tails here) ∙ ap (λ n. take n (y ∷ ys)) (sym count)

-- lists of one length that agree as far as they go
pub same_whole : {A : Type 0} (xs ys : List A) (n : ℕ) → length xs ≤ n → length ys ≤ n → take n xs ≡ take n ys → xs ≡ ys
same_whole xs ys n long as_long same = sym (take_all n xs long) ∙ same ∙ take_all n ys as_long

-- whether two arrays of one type are equal, by their slots
pub equal_then : {V : Type 0} (a b : Flat V) → a.data_type ≡ b.data_type → (r : Bool) → Decides r (slots_of a ≡ slots_of b) → Decides r (AreEqual a b)
equal_then a b types r decides = (λ h. record { types = types; slots = decides.0 h }, λ equal. decides.1 equal.slots)

-- arrays of two types are not equal
pub equal_else : {V : Type 0} (a b : Flat V) → (a.data_type ≡ b.data_type → ⊥) → (r : Bool) → r ≡ false → Decides r (AreEqual a b)
equal_else a b types r differ = (λ h. absurd (true≢false (sym h ∙ differ)), λ equal. absurd (types equal.types))

pub ruleset same_slots = (same_next)
