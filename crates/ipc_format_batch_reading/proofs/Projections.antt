-- Columns that rise, tested one after another from the first on.
use Rattle.std.proofs.Common.{◌≡◌, ◌∙◌, ◌<◌, ◌≤◌, ℕ, suc, Bool, true, false, ◌&&◌, List, [], ◌∷◌, length, drop, get_or, refl, sym, ap, arith}
use Rattle.std.specs.Prelude.{nat_le, nat_lt}
use Rattle.std.specs.List.{list_all}
use Rattle.std.proofs.Math.Seq.{drop-cons}
use Rattle.std.proofs.lemmas.Bool.{and_from, and_parts, le-leb, leb-true, lt-ltb, ltb-true}
use Rattle.ipc_format_batch_reading.specs.BatchReads.{rise_below}

-- columns rise from a least place on, each of them below a width
abbrev pub rises_from : ℕ → ℕ → List ℕ → Bool
rises_from width least [] = true
rises_from width least (k ∷ ks) = (nat_le least k && nat_lt k width) && rises_from width (suc k) ks

abbrev all_above : ℕ → List ℕ → Bool
all_above k ks = list_all (λ other. nat_lt k other) ks

above : (k other : ℕ) → nat_lt k other ≡ true → suc k ≤ other
above k other is =
    let less = ltb-true k other is in
    omega (arith, less)

-- ---- columns that rise are found so

rises_behind : (width least : ℕ) (ks : List ℕ) → ((k : ℕ) (others : List ℕ) → ks ≡ k ∷ others → least ≤ k) → rise_below width ks ≡ true
    → rises_from width least ks ≡ true
rises_behind width least [] first is = refl
rises_behind width least (k ∷ ks) first is =
    let parts = and_parts (nat_lt k width && all_above k ks) (rise_below width ks) is in
    let both = and_parts (nat_lt k width) (all_above k ks) parts.0 in
    and_from (nat_le least k && nat_lt k width) (rises_from width (suc k) ks)
    (and_from (nat_le least k) (nat_lt k width) (le-leb least k (first k ks refl)) both.0)
    (rises_behind width (suc k) ks (λ other others same. next ks both.1 other others same) parts.1)
  where
    next : (ks : List ℕ) → all_above k ks ≡ true → (other : ℕ) (others : List ℕ) → ks ≡ other ∷ others → suc k ≤ other
    next [] all other others same = absurd cc
    next (j ∷ js) all other others same =
        let here = above k j (and_parts (nat_lt k j) (all_above k js) all).0 in
        let first : j ≡ other = ap (λ (xs : List ℕ). get_or xs 0 0) same in
        omega (arith, here, first)

-- ---- and those that are found so rise

all_further : (k j : ℕ) (ks : List ℕ) → k < j → all_above j ks ≡ true → all_above k ks ≡ true
all_further k j [] less all = refl
all_further k j (i ∷ ks) less all =
    let parts = and_parts (nat_lt j i) (all_above j ks) all in
    let far = above j i parts.0 in
    let near : k < i = omega (arith, less, far) in
    and_from (nat_lt k i) (all_above k ks) (lt-ltb k i near) (all_further k j ks less parts.1)

-- they are above each place before the least
all_from_least : (width k : ℕ) (ks : List ℕ) → rises_from width (suc k) ks ≡ true → all_above k ks ≡ true
all_from_least width k [] is = refl
all_from_least width k (j ∷ ks) is =
    let parts = and_parts (nat_le (suc k) j && nat_lt j width) (rises_from width (suc j) ks) is in
    let first = leb-true (suc k) j (and_parts (nat_le (suc k) j) (nat_lt j width) parts.0).0 in
    let less : k < j = omega (arith, first) in
    and_from (nat_lt k j) (all_above k ks) (lt-ltb k j less) (all_further k j ks less (all_from_least width j ks parts.1))

rise_of : (width least : ℕ) (ks : List ℕ) → rises_from width least ks ≡ true → rise_below width ks ≡ true
rise_of width least [] is = refl
rise_of width least (k ∷ ks) is =
    let parts = and_parts (nat_le least k && nat_lt k width) (rises_from width (suc k) ks) is in
    let both = and_parts (nat_le least k) (nat_lt k width) parts.0 in
    and_from (nat_lt k width && all_above k ks) (rise_below width ks)
    (and_from (nat_lt k width) (all_above k ks) both.1 (all_from_least width k ks parts.1))
    (rise_of width (suc k) ks parts.1)

-- tests that follow from one another are the same
same_test : (a b : Bool) → (a ≡ true → b ≡ true) → (b ≡ true → a ≡ true) → a ≡ b
same_test true true to from = refl
same_test true false to from = sym (to refl)
same_test false true to from = from refl
same_test false false to from = refl

pub rises_are : (width : ℕ) (ks : List ℕ) → rise_below width ks ≡ rises_from width 0 ks
rises_are width ks =
    same_test (rise_below width ks) (rises_from width 0 ks) (rises_behind width 0 ks (λ k others same. omega arith)) (rise_of width 0 ks)

-- ---- one after another

-- the next column
next_rises : (width least : ℕ) (ks : List ℕ) (i k : ℕ) → i < length ks → k ≡ get_or ks i k
    → rises_from width least (drop i ks) ≡ ((nat_le least k && nat_lt k width) && rises_from width (suc k) (drop (suc i) ks))
next_rises width least ks i k lt is =
    ap (rises_from width least) (drop-cons ks i k lt ∙ ap (λ j. j ∷ drop (suc i) ks) (sym is))

pub rises_at : (width least : ℕ) (ks : List ℕ) (i k : ℕ) → i < length ks → k ≡ get_or ks i k → rises_from width least (drop i ks) ≡ true
    → (least ≤ k) × (k < width) × (rises_from width (suc k) (drop (suc i) ks) ≡ true)
rises_at width least ks i k lt is rises =
    let parts = and_parts (nat_le least k && nat_lt k width) (rises_from width (suc k) (drop (suc i) ks))
    (sym (next_rises width least ks i k lt is) ∙ rises) in
    let both = and_parts (nat_le least k) (nat_lt k width) parts.0 in
    (leb-true least k both.0, ltb-true k width both.1, parts.1)
