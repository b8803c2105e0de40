-- For each place among columns that rise, the place at which its column was asked for: in a map, from column to column.
use Rattle.std.proofs.Common.{◌≡◌, ◌∙◌, ◌⊎◌, inl, inr, ℕ, zero, suc, ◌+◌, ◌<◌, ◌≤◌, Bool, true, false, not, ◌&&◌, ◌||◌, List, [], ◌∷◌, length, refl, sym, ap, subst, arith}
use Rattle.std.specs.Prelude.{Some, nat_eq, nat_lt, slice_get}
use Rattle.std.specs.BTreeMap.{insert_entry}
use Rattle.std.specs.List.{AllByRecursion, list_any}
use Rattle.std.specs.List.Sorted.{IsPermutation}
use Rattle.std.proofs.Common.{Ordering, Less, Equal, Greater}
use Rattle.std.specs.Ordering.{match_ordering, nat_cmp}
use Rattle.std.proofs.lemmas.Bool.{and_from, and_parts, both_ways, cases_lt, eq-eqb, lt-ltb, not-true, or_left, or_parts, or_right}
use Rattle.std.proofs.lemmas.Cmp.{ranked}
use Rattle.std.proofs.lemmas.List.Sorted.{length_permutation}
use Rattle.std.proofs.lemmas.Option.{none-some, same_Some, slice_get_within}
use Rattle.ipc_format_batch_reading.specs.Projections.{are_distinct, fits_map, put_back}
use Rattle.ipc_format_batch_reading.proofs.PutBack.{Right, back_is, inside_some, is_for}

-- ---- what stands in a map after an entry more

by_order : (P : ℕ × ℕ → Type 0) (entry : ℕ × ℕ) (entries more : List (ℕ × ℕ)) (key value : ℕ) (order : Ordering) → nat_cmp key entry.0 ≡ order
    → P (key, value) → AllByRecursion P (entry ∷ entries) → AllByRecursion P more
    → AllByRecursion P (match_ordering order ((key, value) ∷ entry ∷ entries) ((entry.0, value) ∷ entries) (entry ∷ more))
by_order P entry entries more key value Less is new all rest = (new, all)
by_order P entry entries more key value Equal is new all rest =
    (subst (λ (k : ℕ). P (k, value)) (ranked key entry.0 Equal (sym is)) new, all.1)
by_order P entry entries more key value Greater is new all rest = (all.0, rest)

-- it has what all entries have
all_inserted : (P : ℕ × ℕ → Type 0) (entries : List (ℕ × ℕ)) (key value : ℕ) → P (key, value) → AllByRecursion P entries
    → AllByRecursion P (insert_entry nat_cmp entries key value)
all_inserted P [] key value new all = (new, tt)
all_inserted P (entry ∷ entries) key value new all =
    by_order P entry entries (insert_entry nat_cmp entries key value) key value (nat_cmp key entry.0) refl new all
    (all_inserted P entries key value new all.1)

-- no entry has a key
abbrev pub Lacks : ℕ → List (ℕ × ℕ) → Type 0
Lacks key entries = AllByRecursion (λ (entry : ℕ × ℕ). key ≡ entry.0 → ⊥) entries

swapped : (a b c : Bool) → (a || (b || c)) ≡ (b || (a || c))
swapped true true c = refl
swapped true false c = refl
swapped false b c = refl

any_by_order : (test : ℕ × ℕ → Bool) (entry : ℕ × ℕ) (entries more : List (ℕ × ℕ)) (key value : ℕ) (order : Ordering)
    → nat_cmp key entry.0 ≡ order → (key ≡ entry.0 → ⊥) → list_any test more ≡ (test (key, value) || list_any test entries)
    → list_any test (match_ordering order ((key, value) ∷ entry ∷ entries) ((entry.0, value) ∷ entries) (entry ∷ more))
    ≡ (test (key, value) || (test entry || list_any test entries))
any_by_order test entry entries more key value Less is apart rest = refl
any_by_order test entry entries more key value Equal is apart rest = absurd (apart (ranked key entry.0 Equal (sym is)))
any_by_order test entry entries more key value Greater is apart rest =
    ap (λ (some : Bool). test entry || some) rest ∙ swapped (test entry) (test (key, value)) (list_any test entries)

-- a test that some entry passes, where the key is new
any_inserted : (test : ℕ × ℕ → Bool) (entries : List (ℕ × ℕ)) (key value : ℕ) → Lacks key entries
    → list_any test (insert_entry nat_cmp entries key value) ≡ (test (key, value) || list_any test entries)
any_inserted test [] key value lacks = refl
any_inserted test (entry ∷ entries) key value lacks =
    any_by_order test entry entries (insert_entry nat_cmp entries key value) key value (nat_cmp key entry.0) refl lacks.0
    (any_inserted test entries key value lacks.1)

-- ---- one column stands at one place

named_before : (ks : List ℕ) (k : ℕ) (j : ℕ) → list_any (λ other. nat_eq other k) ks ≡ false → slice_get ks j ≡ Some k → ⊥
named_before [] k j none is = none-some k is
named_before (other ∷ ks) k zero none is =
    let parts = or_parts (nat_eq other k) (list_any (λ x. nat_eq x k) ks) none in
    both_ways (nat_eq other k) parts.0 (eq-eqb other k (same_Some other k is))
named_before (other ∷ ks) k (suc j) none is =
    named_before ks k j (or_parts (nat_eq other k) (list_any (λ x. nat_eq x k) ks) none).1 is

one_place : (ks : List ℕ) (i j k : ℕ) → are_distinct ks ≡ true → i < j → slice_get ks i ≡ Some k → slice_get ks j ≡ Some k → ⊥
one_place [] i j k distinct before first second = none-some k first
one_place (other ∷ ks) i zero k distinct before first second = omega arith
one_place (other ∷ ks) zero (suc j) k distinct before first second =
    let parts = and_parts (not (list_any (λ x. nat_eq x other) ks)) (are_distinct ks) distinct in
    named_before ks other j (not-true (list_any (λ x. nat_eq x other) ks) parts.0) (second ∙ sym first)
one_place (other ∷ ks) (suc i) (suc j) k distinct before first second =
    one_place ks i j k (and_parts (not (list_any (λ x. nat_eq x other) ks)) (are_distinct ks) distinct).1 (omega arith) first second

-- ---- the map, column by column

-- The entries move the first columns that are asked for, and there is one for each of them.
pub record IsPlaced (rising columns : List ℕ) (count : ℕ) (entries : List (ℕ × ℕ)) : Type 0 where
  pub right : AllByRecursion (λ (entry : ℕ × ℕ). (entry.1 < count) × Right rising columns entry) entries
  pub all : (k : ℕ) → k < count → list_any (is_for k) entries ≡ true

pub placed_none : (rising columns : List ℕ) → IsPlaced rising columns 0 []
placed_none rising columns = record { right = tt; all = λ k below. absurd (omega arith) }

further : (rising columns : List ℕ) (count : ℕ) (entries : List (ℕ × ℕ))
    → AllByRecursion (λ (entry : ℕ × ℕ). (entry.1 < count) × Right rising columns entry) entries
    → AllByRecursion (λ (entry : ℕ × ℕ). (entry.1 < count + 1) × Right rising columns entry) entries
further rising columns count [] right = tt
further rising columns count (entry ∷ entries) right =
    let below = right.0.0 in ((omega arith, right.0.1), further rising columns count entries right.1)

lacks_place : (rising columns : List ℕ) (count old column : ℕ) (entries : List (ℕ × ℕ)) → are_distinct columns ≡ true
    → slice_get rising old ≡ Some column → slice_get columns count ≡ Some column
    → AllByRecursion (λ (entry : ℕ × ℕ). (entry.1 < count) × Right rising columns entry) entries → Lacks old entries
lacks_place rising columns count old column [] distinct there asked right = tt
lacks_place rising columns count old column (entry ∷ entries) distinct there asked right = (
  (λ same. one_place columns entry.1 count column distinct right.0.0
      (sym right.0.1 ∙ ap (slice_get rising) (sym same) ∙ there) asked),
  lacks_place rising columns count old column entries distinct there asked right.1,
)

pub placed_more : (rising columns : List ℕ) (count old column : ℕ) (entries : List (ℕ × ℕ)) → are_distinct columns ≡ true
    → slice_get rising old ≡ Some column → slice_get columns count ≡ Some column → IsPlaced rising columns count entries
    → IsPlaced rising columns (count + 1) (insert_entry nat_cmp entries old count)
placed_more rising columns count old column entries distinct there asked placed =
    let lacks = lacks_place rising columns count old column entries distinct there asked placed.right in
    record {
      right = all_inserted (λ (entry : ℕ × ℕ). (entry.1 < count + 1) × Right rising columns entry) entries old count
          (omega arith, there ∙ sym asked) (further rising columns count entries placed.right);
      all = λ k below. any_inserted (is_for k) entries old count lacks ∙ some k below (cases_lt k count);
    }
  where
    some : (k : ℕ) → k < count + 1 → (k < count) ⊎ (count ≤ k) → (nat_eq count k || list_any (is_for k) entries) ≡ true
    some k below (inl before) = or_right (nat_eq count k) (list_any (is_for k) entries) (placed.all k before)
    some k below (inr last) = or_left (nat_eq count k) (list_any (is_for k) entries) (eq-eqb count k (omega arith))

-- ---- the whole map

right_alone : (rising columns : List ℕ) (count : ℕ) (entries : List (ℕ × ℕ))
    → AllByRecursion (λ (entry : ℕ × ℕ). (entry.1 < count) × Right rising columns entry) entries
    → AllByRecursion (Right rising columns) entries
right_alone rising columns count [] right = tt
right_alone rising columns count (entry ∷ entries) right = (right.0.1, right_alone rising columns count entries right.1)

pub placed_back : (rising columns : List ℕ) (count : ℕ) (entries : List (ℕ × ℕ)) → IsPermutation columns rising → length columns ≤ count
    → IsPlaced rising columns count entries → put_back entries rising ≡ columns
placed_back rising columns count entries same past placed =
    back_is rising columns entries (length_permutation columns rising same) (right_alone rising columns count entries placed.right)
    (λ k inside. placed.all k (omega arith))

fit_from : (rising columns : List ℕ) (entries : List (ℕ × ℕ)) → length rising ≡ length columns
    → AllByRecursion (λ (entry : ℕ × ℕ). (entry.1 < length columns) × Right rising columns entry) entries
    → fits_map (length columns) entries ≡ true
fit_from rising columns [] long right = refl
fit_from rising columns (entry ∷ entries) long right =
    let there = inside_some columns entry.1 right.0.0 in
    let inside = slice_get_within rising entry.0 there.0 (right.0.1 ∙ there.1) in
    and_from (nat_lt entry.0 (length columns) && nat_lt entry.1 (length columns)) (fits_map (length columns) entries)
    (and_from (nat_lt entry.0 (length columns)) (nat_lt entry.1 (length columns))
    (lt-ltb entry.0 (length columns) (omega arith)) (lt-ltb entry.1 (length columns) right.0.0))
    (fit_from rising columns entries long right.1)

pub placed_fit : (rising columns : List ℕ) (count : ℕ) (entries : List (ℕ × ℕ)) → IsPermutation columns rising → count ≡ length columns
    → IsPlaced rising columns count entries → fits_map (length columns) entries ≡ true
placed_fit rising columns count entries same is placed =
    fit_from rising columns entries (length_permutation columns rising same)
    (subst (λ n. AllByRecursion (λ (entry : ℕ × ℕ). (entry.1 < n) × Right rising columns entry) entries) is placed.right)
