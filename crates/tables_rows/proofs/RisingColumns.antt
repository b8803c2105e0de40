-- Columns that are put in the order in which they stand, and where each of them is found.
use Rattle.std.proofs.Common.{◌≡◌, ◌∙◌, ℕ, suc, ◌+◌, ◌<◌, ◌≤◌, Bool, true, false, not, ◌&&◌, nat_lt, nat_eq, List, [], ◌∷◌, ◌++◌, length, take}
use Rattle.std.proofs.Common.{get_or, refl, sym, ap, subst, arith, nat_cmp}
use Rattle.std.specs.Prelude.{Option, Some, Contains, slice_get}
use Rattle.std.specs.List.{list_all, list_any, cons_option, AllByRecursion, IsDistinct}
use Rattle.std.specs.List.Sorted.{IsPermutation, IsSorted, IsStrictlySortedBy}
use Rattle.std.proofs.lemmas.Bool.{and_parts, and_from, or_parts, not-true, ne_eqb, eqb-false, eq-eqb, lt-ltb}
use Rattle.std.proofs.lemmas.List.{get_or_default, take_all, take_more}
use Rattle.std.proofs.lemmas.List.Elements.{filter_map-append}
use Rattle.std.proofs.lemmas.List.Folds.{list_any_at, list_all-append}
use Rattle.std.proofs.lemmas.List.Sorted.{All-permutation, Contains-permutation, IsNonDecreasingBy-from_sort}
use Rattle.std.proofs.lemmas.List.Sums.{AllPass-from_list_all, list_all-from_AllPass}
use Rattle.std.proofs.lemmas.Map.Keys.{IsDistinct-IsPermutation, IsStrictlyIncreasing-from_distinct, below_from_sorted}
use Rattle.std.proofs.lemmas.Map.Keys.{sorted_from_strictly_increasing, sorted_tail}
use Rattle.std.proofs.lemmas.Option.{slice_get_within}
use Rattle.tables_chunks.specs.Choices.{are_below, are_distinct}
use Rattle.tables_chunks.specs.ipc_format.BatchReads.{rise_below}
use Rattle.tables_chunks.specs.ipc_format.columns.Tables.{chosen}
use Rattle.tables_rows.specs.Orders.{IsOrder, asked}
use Rattle.tables_rows.specs.SortedColumns.{AreSorted}
use Rattle.tables_rows.specs.declared.order.Order.{Order}

-- ---- numbers that are sorted

-- a copy that is sorted
pub copied : (columns none copy rising : List ℕ) → none ≡ [] → copy ≡ none ++ columns → IsPermutation copy rising → IsSorted nat_cmp rising
    → AreSorted columns rising
copied columns none copy rising empty made same rise =
    let is : copy ≡ columns = made ∙ ap (λ before. before ++ columns) empty in
    record { same = subst (λ xs. IsPermutation xs rising) is same; rise = IsNonDecreasingBy-from_sort (λ x. x) rising rise }

-- ---- numbers that rise

none_equal : (k : ℕ) (ks : List ℕ) → list_any (λ other. nat_eq other k) ks ≡ false → AllByRecursion (λ other. nat_eq k other ≡ false) ks
none_equal k [] none = tt
none_equal k (other ∷ ks) none =
    let parts = or_parts (nat_eq other k) (list_any (λ other. nat_eq other k) ks) none in
    (ne_eqb k other (λ same. eqb-false other k parts.0 (sym same)), none_equal k ks parts.1)

-- no number stands at two places
apart : (ks : List ℕ) → are_distinct ks ≡ true → IsDistinct nat_eq ks
unfolding IsDistinct
apart [] distinct = tt
apart (k ∷ ks) distinct =
    let parts = and_parts (not (list_any (λ other. nat_eq other k) ks)) (are_distinct ks) distinct in
    (none_equal k ks (not-true (list_any (λ other. nat_eq other k) ks) parts.0), apart ks parts.1)

flips : (x y : ℕ) → nat_eq x y ≡ nat_eq y x
flips x y = grind arith

rising_below : (width : ℕ) (ks : List ℕ) → IsStrictlySortedBy nat_cmp ks → list_all (λ k. nat_lt k width) ks ≡ true
    → rise_below width ks ≡ true
rising_below width [] rise below = refl
rising_below width (k ∷ ks) rise below =
    let parts = and_parts (nat_lt k width) (list_all (λ k. nat_lt k width) ks) below in
    let above : list_all (λ other. nat_lt k other) ks ≡ true =
    list_all-from_AllPass (λ other. nat_lt k other) ks (λ i d inside.
    lt-ltb k (get_or ks i d) (below_from_sorted (k ∷ ks) 0 (suc i) d rise (omega arith) (omega arith))) in
    and_from (nat_lt k width && list_all (λ other. nat_lt k other) ks) (rise_below width ks)
    (and_from (nat_lt k width) (list_all (λ other. nat_lt k other) ks) parts.0 above)
    (rising_below width ks (sorted_tail nat_cmp k ks rise) parts.1)

sorted_rise : (width : ℕ) (columns rising : List ℕ) → are_distinct columns ≡ true → are_below width columns ≡ true → AreSorted columns rising
    → rise_below width rising ≡ true
sorted_rise width columns rising distinct below sorted =
    rising_below width rising (sorted_from_strictly_increasing rising (IsStrictlyIncreasing-from_distinct rising sorted.rise
    (IsDistinct-IsPermutation nat_eq flips columns rising sorted.same (apart columns distinct))))
    (list_all-from_AllPass (λ k. nat_lt k width) rising (All-permutation (λ k. nat_lt k width ≡ true) columns rising sorted.same
    (AllPass-from_list_all (λ k. nat_lt k width) columns below)))

-- whether a number is one of some others
abbrev is_one_of : List ℕ → ℕ → Bool
is_one_of columns k = list_any (λ other. nat_eq other k) columns

all_wanted : (columns rising : List ℕ) → IsPermutation columns rising → list_all (is_one_of columns) rising ≡ true
all_wanted columns rising same =
    list_all-from_AllPass (is_one_of columns) rising (All-permutation (λ k. is_one_of columns k ≡ true) columns rising same (λ i d inside.
    list_any_at (λ other. nat_eq other (get_or columns i d)) columns i d inside (eq-eqb (get_or columns i d) (get_or columns i d) refl)))

-- ---- where a number is found

pub one_of_rising : (columns rising : List ℕ) (i : ℕ) → AreSorted columns rising → i < length columns → Contains rising (get_or columns i 0)
one_of_rising columns rising i sorted inside =
    Contains-permutation columns rising (get_or columns i 0) sorted.same (i, inside, get_or_default columns i (get_or columns i 0) 0 inside)

-- ---- one place more

-- the places of the first columns among those that rise
pub record ArePlaced (columns rising : List ℕ) (i : ℕ) (places : List ℕ) : Type 0 where
  pub placed : chosen places rising ≡ take i columns
  pub inside : are_below (length rising) places ≡ true

pub none_placed : (columns rising places : List ℕ) → places ≡ [] → ArePlaced columns rising 0 places
none_placed columns rising places none = rw none (record { placed = refl; inside = refl })

pub one_placed : (columns rising places more : List ℕ) (i place : ℕ) → ArePlaced columns rising i places → i < length columns
    → slice_get rising place ≡ Some (get_or columns i 0) → more ≡ places ++ place ∷ [] → ArePlaced columns rising (i + 1) more
one_placed columns rising places more i place before within found pushed = rw pushed (record {
  placed = filter_map-append (λ k. slice_get rising k) places (place ∷ [])
      ∙ ap (λ (option : Option ℕ). chosen places rising ++ cons_option option []) found
      ∙ ap (λ ks. ks ++ get_or columns i 0 ∷ []) before.placed
      ∙ sym (take_more columns i 0 within);
  inside = list_all-append (λ k. nat_lt k (length rising)) places (place ∷ [])
      ∙ and_from (are_below (length rising) places) (are_below (length rising) (place ∷ [])) before.inside
      (and_from (nat_lt place (length rising)) true (lt-ltb place (length rising) (slice_get_within rising place (get_or columns i 0) found)) refl);
})

-- ---- all columns

pub all_placed : (columns : List ℕ) (i : ℕ) (order : Order) → length columns ≤ i
    → ArePlaced columns order.rising.items i order.places.items → asked order ≡ columns
all_placed columns i order past are = are.placed ∙ take_all i columns past

pub is_order : (width : ℕ) (columns : List ℕ) (i : ℕ) (order : Order) → are_distinct columns ≡ true → are_below width columns ≡ true
    → AreSorted columns order.rising.items → length columns ≤ i → ArePlaced columns order.rising.items i order.places.items
    → IsOrder width order
is_order width columns i order distinct below sorted past are = record {
  rise = sorted_rise width columns order.rising.items distinct below sorted;
  inside = are.inside;
  wanted = ap (λ ks. list_all (is_one_of ks) order.rising.items) (all_placed columns i order past are)
      ∙ all_wanted columns order.rising.items sorted.same;
}
