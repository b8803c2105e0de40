-- Loops over the builders of fields: what stands once the first of them were changed.
use Rattle.std.proofs.Common.{◌≡◌, ◌∙◌, ◌<◌, ◌≤◌, ◌+◌, ◌-◌, ℕ, zero, suc, List, [], ◌∷◌, ◌++◌, drop, length, map, take, get_or, true, false, refl}
use Rattle.std.proofs.Common.{sym, ap, subst, arith, length-append}
use Rattle.std.specs.Prelude.{Result, Ok, Err, ◌⊎◌, All, slice_set}
use Rattle.std.specs.List.{list_all}
use Rattle.std.proofs.lemmas.Bool.{and_from, false≢true}
use Rattle.std.proofs.lemmas.List.{append-nil, drop_all, get_or-take, length-take-le, map_more, set-get_or, take_all, take_at, take_more}
use Rattle.std.proofs.lemmas.List.Edits.{map_over_more}
use Rattle.std.proofs.lemmas.List.Folds.{list_all_at, list_all-append}
use mathlib.Core.Logic.{inl, inr}
use Rattle.nested_arrays_nulls.specs.columnar_memory.declared.Error.{Error}
use Rattle.nested_arrays_nulls.specs.columnar_memory.Error.{IsOutOfMemory, IsOverflow}
use Rattle.nested_arrays_nulls.specs.columns.Slots.{null}
use Rattle.nested_arrays_nulls.specs.columns.StoredColumns.{Column}
use Rattle.nested_arrays_cells.specs.parts.Open.{Open, column_of, first_slots, opened, IsPushed, IsRefusal}
use Rattle.nested_arrays_cells.proofs.columns_lemmas.Fitting.{null_fits}
use Rattle.nested_arrays_cells.proofs.taken_lemmas.builders_lemmas.CutParts.{length_over}
use Rattle.nested_arrays_generic_builders.specs.StructBuilders.{emptied, takes_null, with_null, TakesNull}
use Rattle.nested_arrays_generic_builders.specs.TakenBack.{without_last, HaveOneMore}

-- ---- one builder

pub null_taken : {U : Type 0} (old new : Open) (r : Result U Error) → IsPushed old null new r → TakesNull old new r
null_taken old new (Ok u) h = h
null_taken old new (Err e) h = (h.0, why h.1)
  where
    why : IsRefusal old null e → IsOutOfMemory e ⊎ (IsOverflow e × (takes_null old ≡ false))
    why (inl memory) = inl memory
    why (inr (inl other)) = absurd (false≢true (sym other.1 ∙ null_fits old.data_type))
    why (inr (inr full)) = inr (full.0, full.2)

-- where there are no more slots, the first ones are all
pub all_first : (o : Open) (n : ℕ) → length o.slots ≤ n → o ≡ first_slots o n
all_first o n le = ap (opened o.data_type) (sym (take_all n o.slots le))

-- ---- several

abbrev pub Over : (Open → Open) → List Open → ℕ → List Open → Type 0
Over f os k now = now ≡ map f (take k os) ++ drop k os

later_same : (f : Open → Open) (os : List Open) (k : ℕ) (d : Open) → k < length os → get_or (map f (take k os) ++ drop k os) k d ≡ get_or os k d
later_same f [] k d lt = absurd (omega arith)
later_same f (o ∷ os) zero d lt = refl
later_same f (o ∷ os) (suc k) d lt = later_same f os k d (omega (arith, lt))

-- the builder at the place that a loop has come to is as it was
pub next_same : (f : Open → Open) (os now : List Open) (k : ℕ) (d : Open) → k < length os → Over f os k now → get_or now k d ≡ get_or os k d
next_same f os now k d lt is = ap (λ (zs : List Open). get_or zs k d) is ∙ later_same f os k d lt

pub next_over : (f : Open → Open) (os now : List Open) (k : ℕ) (child new : Open) → k < length os → Over f os k now → child ≡ get_or now k child
    → new ≡ f child → Over f os (k + 1) (slice_set now k new)
next_over f os now k child new lt is own made = ap (slice_set now k) made ∙ map_over_more f os now k child lt is own

-- a builder that has not changed
pub next_kept : (os : List Open) (k : ℕ) (child new : Open) → k < length os → child ≡ get_or os k child → new ≡ child → slice_set os k new ≡ os
next_kept os k child new lt own same = ap (slice_set os k) (same ∙ own) ∙ set-get_or os k child

pub all_over : (f : Open → Open) (os now : List Open) (k : ℕ) → length os ≤ k → Over f os k now → now ≡ map f os
all_over f os now k le is =
    is ∙ (λ j. map f (take_all k os le j) ++ drop_all k os le j) ∙ append-nil (map f os)

-- ---- nulls that are pushed and taken back

pub taking_more : (os : List Open) (k : ℕ) (child : Open) → k < length os → child ≡ get_or os k child → takes_null child ≡ true
    → list_all takes_null (take k os) ≡ true → list_all takes_null (take (k + 1) os) ≡ true
taking_more os k child lt own room before =
    ap (list_all takes_null) (take_more os k child lt) ∙ list_all-append takes_null (take k os) (get_or os k child ∷ [])
    ∙ and_from (list_all takes_null (take k os)) (list_all takes_null (get_or os k child ∷ [])) before
    (and_from (takes_null (get_or os k child)) true (ap takes_null (sym own) ∙ room) refl)

pub taking_not : (os : List Open) (k : ℕ) (child : Open) → k < length os → child ≡ get_or os k child → takes_null child ≡ false
    → list_all takes_null os ≡ false
taking_not os k child lt own full = list_all_at takes_null os k child lt (ap takes_null (sym own) ∙ full)

undone : (o : Open) → without_last (with_null o) ≡ o
undone o =
    let count : length (o.slots ++ null ∷ []) - 1 ≡ length o.slots = omega (arith, length-append o.slots (null ∷ [])) in
    ap (opened o.data_type) (take_at o.slots (null ∷ []) (length (o.slots ++ null ∷ []) - 1) (sym count))

back_again : (os : List Open) (k : ℕ)
    → map without_last (take k (map with_null (take k os) ++ drop k os)) ++ drop k (map with_null (take k os) ++ drop k os) ≡ os
back_again [] zero = refl
back_again [] (suc k) = refl
back_again (o ∷ os) zero = refl
back_again (o ∷ os) (suc k) = λ j. undone o j ∷ back_again os k j

pub taken_back : (os now new : List Open) (k : ℕ) → Over with_null os k now → Over without_last now k new → new ≡ os
taken_back os now new k is back =
    back ∙ ap (λ (zs : List Open). map without_last (take k zs) ++ drop k zs) is ∙ back_again os k

all_cons : (P : Open → Type 0) (x : Open) (xs : List Open) → P x → All P xs → All P (x ∷ xs)
all_cons P x xs here later zero d lt = here
all_cons P x xs here later (suc k) d lt = later k d (omega (arith, lt))

each_has_one : (os : List Open) (k : ℕ) → All (λ (o : Open). 0 < length o.slots) (take k (map with_null (take k os) ++ drop k os))
each_has_one [] zero = λ i d lt. absurd (omega arith)
each_has_one [] (suc k) = λ i d lt. absurd (omega arith)
each_has_one (o ∷ os) zero = λ i d lt. absurd (omega arith)
each_has_one (o ∷ os) (suc k) =
    all_cons (λ (o : Open). 0 < length o.slots) (with_null o) (take k (map with_null (take k os) ++ drop k os))
    (omega (arith, length-append o.slots (null ∷ []))) (each_has_one os k)

pub one_more_each : (os now : List Open) (k : ℕ) → k ≤ length os → Over with_null os k now → HaveOneMore k now
one_more_each os now k le is = (
  omega (arith, le, length_over with_null os now k is),
  subst (λ (zs : List Open). All (λ (o : Open). 0 < length o.slots) (take k zs)) (sym is) (each_has_one os k),
)

-- the next of them has a slot
pub has_one : (os now : List Open) (n k : ℕ) (child : Open) → HaveOneMore n os → k < n → Over without_last os k now → child ≡ get_or now k child
    → 0 < length child.slots
has_one os now n k child each lt is own =
    let first : length (take n os) ≡ n = length-take-le n os each.0 in
    let same : get_or (take n os) k child ≡ child =
    get_or-take n os k child lt ∙ sym (next_same without_last os now k child (omega (arith, lt, each.0)) is) ∙ sym own in
    subst (λ (o : Open). 0 < length o.slots) same (each.1 k child (omega (arith, lt, first)))

-- ---- slots that are taken out

emptied_again : (os : List Open) (k : ℕ) → map emptied (map emptied (take k os) ++ drop k os) ≡ map emptied os
emptied_again [] zero = refl
emptied_again [] (suc k) = refl
emptied_again (o ∷ os) zero = refl
emptied_again (o ∷ os) (suc k) = ap (λ (rest : List Open). emptied o ∷ rest) (emptied_again os k)

pub emptied_over : (os now : List Open) (k : ℕ) → Over emptied os k now → map emptied now ≡ map emptied os
emptied_over os now k is = ap (map emptied) is ∙ emptied_again os k

pub columns_more : (os : List Open) (k : ℕ) (child : Open) (before : List Column) → k < length os → child ≡ get_or os k child
    → (before ++ map column_of (take k os)) ++ column_of child ∷ [] ≡ before ++ map column_of (take (k + 1) os)
columns_more os k child before lt own =
    joined before (map column_of (take k os)) (column_of child)
    ∙ ap (λ (cs : List Column). before ++ cs)
    (ap (λ (o : Open). map column_of (take k os) ++ column_of o ∷ []) own ∙ sym (map_more column_of os k child lt))
  where
    joined : (some bs : List Column) (c : Column) → (some ++ bs) ++ c ∷ [] ≡ some ++ (bs ++ c ∷ [])
    joined [] bs c = refl
    joined (a ∷ some) bs c = ap (λ (rest : List Column). a ∷ rest) (joined some bs c)

pub columns_all : (os : List Open) (k : ℕ) (before after : List Column) → length os ≤ k → after ≡ before ++ map column_of (take k os)
    → after ≡ before ++ map column_of os
columns_all os k before after le is = is ∙ ap (λ (zs : List Open). before ++ map column_of zs) (take_all k os le)
