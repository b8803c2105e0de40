-- Items by their places: what stands of a projection after an item.
use Rattle.std.proofs.Common.{◌≡◌, ◌∙◌, ℕ, ◌+◌, ◌-◌, ◌<◌, ◌≤◌, true, false, List, [], ◌∷◌, drop, get_or, length, map, min, refl, sym, ap, take, length-drop, arith}
use Rattle.std.specs.Prelude.{nat_eq, nat_le, nat_lt}
use Rattle.std.specs.List.{filter, list_any}
use Rattle.std.proofs.lemmas.Bool.{and_from, and_parts, cond-false, cond-true, eq-eqb, le-leb, le-ltb, leb-true, lt-ltb, ne_eqb, or_from, or_left}
use Rattle.std.proofs.lemmas.List.{take_all}
use Rattle.ipc_format_batch_reading.specs.Projections.{IsBehind, behind_one, counted_from, rise_from}

-- rising numbers rise from any lower place
lower : (place other : ℕ) (ks : List ℕ) → other ≤ place → rise_from place ks ≡ true → rise_from other ks ≡ true
lower place other [] below rise = refl
lower place other (k ∷ ks) below rise =
    let parts = and_parts (nat_le place k) (rise_from (k + 1) ks) rise in
    let from = leb-true place k parts.0 in
    and_from (nat_le other k) (rise_from (k + 1) ks) (le-leb other k (omega arith)) parts.1

-- each of the numbers that rise from behind a place is counted once less behind it
counted_on : (place next : ℕ) (ks : List ℕ) → next ≡ place + 1 → rise_from (place + 1) ks ≡ true
    → counted_from next ks ≡ behind_one (counted_from place ks)
counted_on place next [] is rise = refl
counted_on place next (k ∷ ks) is rise =
    let parts = and_parts (nat_le (place + 1) k) (rise_from (k + 1) ks) rise in
    let from = leb-true (place + 1) k parts.0 in
    let stays : nat_lt 0 (k - place) ≡ true = lt-ltb 0 (k - place) (omega arith) in
    let first : k - next ≡ (k - place) - 1 = omega arith in
    let others = counted_on place next ks is (lower (k + 1) (place + 1) ks (omega arith) parts.1) in
    (λ i. first i ∷ others i)
    ∙ sym (ap (map (λ k. k - 1)) (cond-true (nat_lt 0 (k - place)) ((k - place) ∷ filter (λ k. nat_lt 0 k) (counted_from place ks))
    (filter (λ k. nat_lt 0 k) (counted_from place ks)) stays))

-- none of them is at the place
none_at : (place : ℕ) (ks : List ℕ) → rise_from (place + 1) ks ≡ true → list_any (nat_eq 0) (counted_from place ks) ≡ false
none_at place [] rise = refl
none_at place (k ∷ ks) rise =
    let parts = and_parts (nat_le (place + 1) k) (rise_from (k + 1) ks) rise in
    let from = leb-true (place + 1) k parts.0 in
    let other : 0 ≡ k - place → ⊥ = λ same. omega arith in
    or_from (nat_eq 0 (k - place)) (list_any (nat_eq 0) (counted_from place ks)) (ne_eqb 0 (k - place) other)
    (none_at place ks (lower (k + 1) (place + 1) ks (omega arith) parts.1))

-- the place behind, where a later one is no more than the most
next_is : (place next most other : ℕ) → next ≡ min (place + 1) most → place + 1 ≤ other → other ≤ most → next ≡ place + 1
next_is place next most other is behind inside = omega arith

next_below : (place next most : ℕ) → next ≡ min (place + 1) most → next ≤ place + 1
next_below place next most is = omega arith

-- a place that is its own item's is left out
left_out : (place first : ℕ) (others : List ℕ) → first ≡ place
    → behind_one (counted_from place (first ∷ others)) ≡ behind_one (counted_from place others)
left_out place first others is =
    let here : first - place ≡ 0 = omega arith in
    ap (map (λ k. k - 1)) (cond-false (nat_lt 0 (first - place)) ((first - place) ∷ filter (λ k. nat_lt 0 k) (counted_from place others))
    (filter (λ k. nat_lt 0 k) (counted_from place others)) (le-ltb 0 (first - place) (omega arith)))

-- the first was at the place
behind_selected : (place next most first : ℕ) (others : List ℕ) → rise_from place (first ∷ others) ≡ true
    → next ≡ min (place + 1) most → get_or others 0 0 ≤ most → first ≡ place → IsBehind place (first ∷ others) true others next
behind_selected place next most first others rise is inside same =
    let behind = (and_parts (nat_le place first) (rise_from (first + 1) others) rise).1 in
    let below = next_below place next most is in
    let here : 0 ≡ first - place = omega arith in
    record {
      rise = lower (first + 1) next others (omega arith) behind;
      left = left_behind others inside (lower (first + 1) (place + 1) others (omega arith) behind) ∙ sym (left_out place first others same);
      is = or_left (nat_eq 0 (first - place)) (list_any (nat_eq 0) (counted_from place others)) (eq-eqb 0 (first - place) here);
    }
  where
    left_behind : (others : List ℕ) → get_or others 0 0 ≤ most → rise_from (place + 1) others ≡ true
        → counted_from next others ≡ behind_one (counted_from place others)
    left_behind [] inside rise = refl
    left_behind (other ∷ others) inside rise =
        let from = leb-true (place + 1) other (and_parts (nat_le (place + 1) other) (rise_from (other + 1) others) rise).0 in
        counted_on place next (other ∷ others) (next_is place next most other is from inside) rise

-- the first was not
behind_passed : (place next most first : ℕ) (others : List ℕ) → rise_from place (first ∷ others) ≡ true
    → next ≡ min (place + 1) most → first ≤ most → (first ≡ place → ⊥) → IsBehind place (first ∷ others) false (first ∷ others) next
behind_passed place next most first others rise is inside apart =
    let parts = and_parts (nat_le place first) (rise_from (first + 1) others) rise in
    let from = leb-true place first parts.0 in
    let behind : place + 1 ≤ first = above place first from apart in
    let on = and_from (nat_le (place + 1) first) (rise_from (first + 1) others) (le-leb (place + 1) first behind) parts.1 in
    let same = next_is place next most first is behind inside in
    record {
      rise = lower (place + 1) next (first ∷ others) (next_below place next most is) on;
      left = counted_on place next (first ∷ others) same on;
      is = none_at place (first ∷ others) on;
    }
  where
    above : (place first : ℕ) → place ≤ first → (first ≡ place → ⊥) → place + 1 ≤ first
    above place first from apart = omega arith

-- ---- on whole lists

pub selected_behind : (place next most : ℕ) (projection : List ℕ) → rise_from place projection ≡ true → next ≡ min (place + 1) most
    → get_or projection 1 0 ≤ most → 1 ≤ length projection → get_or projection 0 0 ≡ place
    → IsBehind place projection true (drop 1 projection) next
selected_behind place next most [] rise is inside long same = absurd (omega arith)
selected_behind place next most (first ∷ others) rise is inside long same = behind_selected place next most first others rise is inside same

-- what follows the first
pub rest_is : (ks : List ℕ) → take (length ks - 1) (drop 1 ks) ≡ drop 1 ks
rest_is ks = take_all (length ks - 1) (drop 1 ks) (omega (arith, length-drop 1 ks))

pub passed_behind : (place next most : ℕ) (projection : List ℕ) → rise_from place projection ≡ true → next ≡ min (place + 1) most
    → get_or projection 0 0 ≤ most → (get_or projection 0 0 ≡ place → ⊥) → IsBehind place projection false projection next
passed_behind place next most [] rise is inside apart = record { rise = refl; left = refl; is = refl }
passed_behind place next most (first ∷ others) rise is inside apart = behind_passed place next most first others rise is inside apart

pub none_behind : (place next : ℕ) (projection : List ℕ) → length projection < 1 → IsBehind place projection false projection next
none_behind place next [] short = record { rise = refl; left = refl; is = refl }
none_behind place next (first ∷ others) short = absurd (omega arith)

-- from the first item on, a place has as many items before it as it says
pub counted_all : (ks : List ℕ) → counted_from 0 ks ≡ ks
counted_all [] = refl
counted_all (k ∷ ks) = let same : k - 0 ≡ k = omega arith in λ i. same i ∷ counted_all ks i
