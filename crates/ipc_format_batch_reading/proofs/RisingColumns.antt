-- Columns of which none is named twice rise when they are sorted.
use Rattle.std.proofs.Common.{◌≡◌, ◌∙◌, inl, inr, ℕ, ◌+◌, ◌<◌, ◌≤◌, ◌==◌, true, false, not, ◌&&◌, List, [], ◌∷◌, length, get_or, refl, sym, arith}
use Rattle.std.specs.Prelude.{Some, All, nat_eq, nat_lt, slice_get, Ok, Err}
use Rattle.std.specs.List.{AllByRecursion, Contains, IsDistinct, list_all, list_any}
use Rattle.std.specs.List.Sorted.{IsBinarySearchResult, IsNonDecreasing, IsPermutation, IsStrictlySortedBy}
use Rattle.std.proofs.Common.{Less}
use Rattle.std.specs.Ordering.{nat_cmp}
use Rattle.std.proofs.lemmas.Bool.{and_from, and_parts, cases_lt, cond-true, eqb-false, lt-ltb, ltb-true, ne_eqb, not-true, or_parts}
use Rattle.std.proofs.lemmas.Bool.Decides.{Decides-eqb, Decides-like, same_from_decides}
use Rattle.std.proofs.lemmas.Cmp.{nat_cmp_total, ranked}
use Rattle.std.proofs.lemmas.List.{get_or_default}
use Rattle.std.proofs.lemmas.List.Elements.{All-contains_itself, All-from_recursion, recursion_from_All}
use Rattle.std.proofs.lemmas.List.Sorted.{All-permutation, searched}
use Rattle.std.proofs.lemmas.Map.Keys.{IsDistinct-IsPermutation, IsStrictlyIncreasing-from_distinct, sorted_from_all_adjacent}
use Rattle.std.proofs.lemmas.Option.{slice_get-get_or}
use Rattle.ipc_format_batch_reading.specs.BatchReads.{rise_below}
use Rattle.ipc_format_batch_reading.specs.Projections.{are_below, are_distinct, is_choice}

-- ---- none is named twice

apart_from : (k : ℕ) (ks : List ℕ) → list_any (λ other. nat_eq other k) ks ≡ false → AllByRecursion (λ y. nat_eq k y ≡ false) ks
apart_from k [] none = tt
apart_from k (other ∷ ks) none =
    let parts = or_parts (nat_eq other k) (list_any (λ x. nat_eq x k) ks) none in
    (ne_eqb k other (λ same. eqb-false other k parts.0 (sym same)), apart_from k ks parts.1)

distinct_from : (ks : List ℕ) → are_distinct ks ≡ true → IsDistinct nat_eq ks
unfolding IsDistinct
distinct_from [] distinct = tt
distinct_from (k ∷ ks) distinct =
    let parts = and_parts (not (list_any (λ other. nat_eq other k) ks)) (are_distinct ks) distinct in
    (apart_from k ks (not-true (list_any (λ other. nat_eq other k) ks) parts.0), distinct_from ks parts.1)

flips : (x y : ℕ) → nat_eq x y ≡ nat_eq y x
flips x y = same_from_decides (x == y) (y == x) (Decides-eqb x y) (Decides-like (y == x) (λ same. sym same) (λ same. sym same) (Decides-eqb y x))

-- ---- all are below a width

below_from : (width : ℕ) (ks : List ℕ) → are_below width ks ≡ true → AllByRecursion (λ k. k < width) ks
below_from width [] below = tt
below_from width (k ∷ ks) below =
    let parts = and_parts (nat_lt k width) (are_below width ks) below in
    (ltb-true k width parts.0, below_from width ks parts.1)

-- ---- they rise

less_is : (x y : ℕ) → x < y → nat_cmp x y ≡ Less
less_is x y below = cond-true (nat_lt x y) Less _ (lt-ltb x y below)

less_from : (x y : ℕ) → nat_cmp x y ≡ Less → nat_lt x y ≡ true
less_from x y less = lt-ltb x y (ranked x y Less (sym less))

each_above : (k : ℕ) (ks : List ℕ) → AllByRecursion (λ y. nat_cmp k y ≡ Less) ks → list_all (λ other. nat_lt k other) ks ≡ true
each_above k [] all = refl
each_above k (other ∷ ks) all =
    and_from (nat_lt k other) (list_all (λ x. nat_lt k x) ks) (less_from k other all.0) (each_above k ks all.1)

rise_from : (width : ℕ) (ks : List ℕ) → IsStrictlySortedBy nat_cmp ks → AllByRecursion (λ k. k < width) ks → rise_below width ks ≡ true
unfolding IsStrictlySortedBy
rise_from width [] sorted below = refl
rise_from width (k ∷ ks) sorted below =
    and_from (nat_lt k width && list_all (λ other. nat_lt k other) ks) (rise_below width ks)
    (and_from (nat_lt k width) (list_all (λ other. nat_lt k other) ks) (lt-ltb k width below.0) (each_above k ks sorted.0))
    (rise_from width ks sorted.1 below.1)

-- columns that may be asked for rise when they are sorted
pub sorted_rise : (width : ℕ) (columns rising : List ℕ) → is_choice width columns ≡ true → IsPermutation columns rising
    → IsNonDecreasing rising → rise_below width rising ≡ true
sorted_rise width columns rising choice same sorted =
    let parts = and_parts (are_distinct columns) (are_below width columns) choice in
    let distinct = IsDistinct-IsPermutation nat_eq flips columns rising same (distinct_from columns parts.0) in
    let increasing = IsStrictlyIncreasing-from_distinct rising sorted distinct in
    let below = All-permutation (λ (k : ℕ). k < width) columns rising same
    (All-from_recursion (λ (k : ℕ). k < width) columns (below_from width columns parts.1)) in
    rise_from width rising
    (sorted_from_all_adjacent nat_cmp_total rising 0 (λ k inside. less_is (get_or rising k 0) (get_or rising (k + 1) 0) (increasing k inside)))
    (recursion_from_All (λ (k : ℕ). k < width) rising below)

-- each of them is one that is asked for
pub sorted_wanted : (columns rising : List ℕ) → IsPermutation columns rising → All (Contains columns) rising
sorted_wanted columns rising same = All-permutation (Contains columns) columns rising same (All-contains_itself columns)

-- ---- a column is found

pub found_there : (rising : List ℕ) (column place : ℕ) → IsNonDecreasing rising → IsBinarySearchResult (λ y. nat_cmp y column) rising (Ok place)
    → slice_get rising place ≡ Some column
found_there rising column place sorted found =
    let is = searched rising column (Ok place) found (λ i j from inside. sorted i j 0 from inside) in
    slice_get-get_or rising place 0 is.0 ∙ (λ i. Some (is.1 i))

pub found_somewhere : (rising : List ℕ) (column place : ℕ) → IsNonDecreasing rising → Contains rising column
    → IsBinarySearchResult (λ y. nat_cmp y column) rising (Err place) → ⊥
found_somewhere rising column place sorted there found =
    let is = searched rising column (Err place) found (λ i j from inside. sorted i j 0 from inside) in
    missing there.0 (get_or rising there.0 0) is.1 is.2 there.1 (same_default rising there.0 column there.1 there.2)
  where
    same_default : (xs : List ℕ) (k x : ℕ) → k < length xs → get_or xs k x ≡ x → get_or xs k 0 ≡ x
    same_default xs k x inside is = get_or_default xs k 0 x inside ∙ is

    missing : (k x : ℕ) → ((j : ℕ) → j < place → get_or rising j 0 < column)
        → ((j : ℕ) → place ≤ j → j < length rising → column < get_or rising j 0) → k < length rising → get_or rising k 0 ≡ column → ⊥
    missing k x below above inside is = elim (cases_lt k place) [
      | inl before ↦ let less = below k before in omega arith
      | inr behind ↦ let more = above k behind inside in omega arith
    ]
