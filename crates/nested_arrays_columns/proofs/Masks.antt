-- The mask of slots with one more, and of the first ones.
use Rattle.std.proofs.Common.{◌≡◌, ◌∙◌, ℕ, zero, suc, ◌+◌, ◌<◌, List, [], ◌∷◌, ◌++◌, length, map, take, replicate, Bool, true, false, refl}
use Rattle.std.proofs.Common.{sym, ap, arith, cond, ◌==◌}
use Rattle.std.specs.Prelude.{Option, Some, None, ◌||◌, not, is_some, unwrap_or, if◌then◌else◌}
use Rattle.std.specs.List.{list_any}
use Rattle.std.proofs.lemmas.Bool.{cases_Bool, eqb-true, eq-eqb, false≢true, or_left}
use Rattle.std.proofs.lemmas.List.{map-append, take-map}
use Rattle.std.proofs.lemmas.List.Folds.{list_any-append}
use Rattle.std.proofs.lemmas.List.Sums.{sum_by-cons}
use mathlib.Core.Logic.{inl, inr}
use Rattle.nested_arrays_columns.specs.columnar_memory.Bits.{unset_count}
use Rattle.nested_arrays_columns.specs.Cells.{is_null}
use Rattle.nested_arrays_columns.specs.FreshColumns.{is_valid, mask_of}
use Rattle.nested_arrays_columns.specs.Slots.{Slot}
use Rattle.nested_arrays_columns.specs.OpenParts.{marks_of, mask_from}

twice : (b : Bool) → b ≡ not (not b)
twice true = refl
twice false = refl

any_null : (xs : List Slot) → list_any is_null xs ≡ list_any not (marks_of xs)
any_null [] = refl
any_null (x ∷ xs) = λ j. twice (is_null x) j || any_null xs j

-- the mask of slots is that of their marks
pub mask_is : (xs : List Slot) → mask_of xs ≡ mask_from (marks_of xs)
mask_is xs = ap (λ b. if b then Some (map is_valid xs) else None) (any_null xs)

pub marks_one_more : (xs : List Slot) (s : Slot) → marks_of (xs ++ s ∷ []) ≡ marks_of xs ++ is_valid s ∷ []
marks_one_more xs s = map-append is_valid xs (s ∷ [])

pub mask_one_more : (xs : List Slot) (s : Slot) → mask_of (xs ++ s ∷ []) ≡ mask_from (marks_of xs ++ is_valid s ∷ [])
mask_one_more xs s = mask_is (xs ++ s ∷ []) ∙ ap mask_from (marks_one_more xs s)

pub marks_cut : (n : ℕ) (xs : List Slot) → marks_of (take n xs) ≡ take n (marks_of xs)
marks_cut n xs = sym (take-map is_valid n xs)

pub mask_cut : (n : ℕ) (xs : List Slot) → mask_of (take n xs) ≡ mask_from (take n (marks_of xs))
mask_cut n xs = mask_is (take n xs) ∙ ap mask_from (marks_cut n xs)

-- ---- masks by what they were

-- where one is null the mask has all marks; where none is there is none
pub mask_there : (marks : List Bool) → list_any not marks ≡ true → mask_from marks ≡ Some marks
mask_there marks some = ap (λ b. if b then Some marks else None) some

pub mask_away : (marks : List Bool) → list_any not marks ≡ false → mask_from marks ≡ None
mask_away marks none = ap (λ b. if b then Some marks else None) none

-- the same by how many marks are false
none_unset : (marks : List Bool) → list_any not marks ≡ false → unset_count marks ≡ 0
none_unset [] none = refl
none_unset (true ∷ marks) none = none_unset marks none
none_unset (false ∷ marks) none = absurd (false≢true (sym none))

some_unset : (marks : List Bool) → list_any not marks ≡ true → 0 < unset_count marks
some_unset [] some = absurd (false≢true some)
some_unset (true ∷ marks) some = some_unset marks some
some_unset (false ∷ marks) some =
    let first : unset_count (false ∷ marks) ≡ 1 + unset_count marks = sum_by-cons (λ b. cond (not b) 1 0) false marks in
    omega (arith, first)

pub mask_by_count : (marks : List Bool) → mask_from marks ≡ (if unset_count marks == 0 then None else Some marks)
mask_by_count marks =
    let choose : Bool → Option (List Bool) = λ b. if b then None else Some marks in
    elim (cases_Bool (list_any not marks)) [
      | inl some ↦ mask_there marks some ∙ ap choose (sym (positive (unset_count marks) (some_unset marks some)))
      | inr none ↦ mask_away marks none ∙ ap choose (sym (eq-eqb (unset_count marks) 0 (none_unset marks none)))
    ]
  where
    positive : (n : ℕ) → 0 < n → (n == 0) ≡ false
    positive n some = elim (cases_Bool (n == 0)) [ inl same ↦ absurd (omega (arith, some, eqb-true n 0 same)) | inr other ↦ other ]

-- what a mask says of its marks
pub marks_there : (marks mask : List Bool) → mask_from marks ≡ Some mask → (list_any not marks ≡ true) × (mask ≡ marks)
marks_there marks mask is =
    elim (cases_Bool (list_any not marks)) [
      | inl some ↦ (some, sym (ap (λ m. unwrap_or m marks) (sym (mask_there marks some) ∙ is)))
      | inr none ↦ absurd (false≢true (ap is_some (sym (mask_away marks none) ∙ is)))
    ]

pub marks_away : (marks : List Bool) → mask_from marks ≡ None → list_any not marks ≡ false
marks_away marks is =
    elim (cases_Bool (list_any not marks)) [
      | inl some ↦ absurd (false≢true (sym (ap is_some (sym (mask_there marks some) ∙ is))))
      | inr none ↦ none
    ]

-- marks of which none is false
pub all_valid : (marks : List Bool) → list_any not marks ≡ false → marks ≡ replicate (length marks) true
all_valid [] none = refl
all_valid (true ∷ marks) none = ap (λ rest. true ∷ rest) (all_valid marks none)
all_valid (false ∷ marks) none = absurd (false≢true (sym none))

-- a mask that is there takes one more mark
pub mask_grows : (marks : List Bool) (mark : Bool) → list_any not marks ≡ true → mask_from (marks ++ mark ∷ []) ≡ Some (marks ++ mark ∷ [])
mask_grows marks mark some =
    mask_there (marks ++ mark ∷ [])
    (list_any-append not marks (mark ∷ []) ∙ or_left (list_any not marks) (list_any not (mark ∷ [])) some)

-- where there is none, a valid slot brings none, and the first null one brings all marks
pub mask_stays_away : (marks : List Bool) → list_any not marks ≡ false → mask_from (marks ++ true ∷ []) ≡ None
mask_stays_away marks none = mask_away (marks ++ true ∷ []) (list_any-append not marks (true ∷ []) ∙ ap (λ b. b || false) none)

pub mask_comes : (marks : List Bool) → list_any not marks ≡ false
    → mask_from (marks ++ false ∷ []) ≡ Some (replicate (length marks) true ++ false ∷ [])
mask_comes marks none =
    mask_there (marks ++ false ∷ []) (list_any-append not marks (false ∷ []) ∙ ap (λ b. b || true) none)
    ∙ ap (λ ms. Some (ms ++ false ∷ [])) (all_valid marks none)

-- the first ones of valid slots are valid
pub cut_stays_away : (n : ℕ) (marks : List Bool) → list_any not marks ≡ false → mask_from (take n marks) ≡ None
cut_stays_away n marks none = mask_away (take n marks) (first_valid n marks none)
  where
    first_valid : (n : ℕ) (marks : List Bool) → list_any not marks ≡ false → list_any not (take n marks) ≡ false
    first_valid zero marks none = refl
    first_valid (suc n) [] none = refl
    first_valid (suc n) (true ∷ marks) none = first_valid n marks none
    first_valid (suc n) (false ∷ marks) none = none
