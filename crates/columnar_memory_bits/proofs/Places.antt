-- The places of the set bits of a number.
use Rattle.std.proofs.Common.{◌≡◌, ◌∙◌, refl, sym, ap, ℕ, zero, suc, ◌+◌, ◌-◌, ◌/◌, ◌^◌, ◌≤◌, ◌<◌, arith}
use Rattle.std.proofs.Common.{Bool, true, false, cond, List, [], ◌∷◌, ◌++◌, filter}
use Rattle.std.specs.Int as number
use Rattle.std.specs.Int.{w64, trailing_zeros}
use Rattle.std.proofs.lemmas.List.Elements.{filter-append}
use Rattle.std.proofs.lemmas.Nat.{shr_le}
use Rattle.std.proofs.lemmas.Nat.Bits.{bit_at-trailing_zeros, bit_at-zero}
use Rattle.columnar_memory_bits.specs.Windows.{window}
use Rattle.columnar_memory_bits.specs.Bits.{bit}
use Rattle.columnar_memory_bits.specs.Words.{set_places}
use Rattle.columnar_memory_bits.proofs.Windows.{window_append}
use Rattle.columnar_memory_bits.proofs.Bits.{digit_shr, bit_true, bit_false}

-- places of bits that are not set
pub places_none : (x first n : ℕ) → ((i : ℕ) → i < n → bit x (first + i) ≡ false) → set_places x first n ≡ []
places_none x first zero none = refl
places_none x first (suc n) none =
    let here : bit x first ≡ false = let place : first ≡ first + 0 = omega arith in ap (bit x) place ∙ none 0 (omega arith) in
    let rest = places_none x (first + 1) n (λ i h. let place : first + 1 + i ≡ first + suc i = omega arith in ap (bit x) place
    ∙ none (suc i) (omega arith)) in
    ap (λ (b : Bool). cond b (first ∷ set_places x (first + 1) n) (set_places x (first + 1) n)) here ∙ rest

-- the first set bit, and those behind it
pub places_step : (x first skipped more : ℕ) → bit x (first + skipped) ≡ true → ((i : ℕ) → i < skipped → bit x (first + i) ≡ false) →
    set_places x first (skipped + suc more) ≡ (first + skipped) ∷ set_places x (first + skipped + 1) more
places_step x first skipped more some none =
    let there = first + skipped in
    ap (filter (bit x)) (window_append (λ (i : ℕ). i) first skipped (suc more))
    ∙ filter-append (bit x) (window (λ (i : ℕ). i) first skipped) (window (λ (i : ℕ). i) there (suc more))
    ∙ ap (λ (xs : List ℕ). xs ++ set_places x there (suc more)) (places_none x first skipped none)
    ∙ ap (λ (b : Bool). cond b (there ∷ set_places x (there + 1) more) (set_places x (there + 1) more)) some

-- the lowest set bit of a shifted number
lowest : (x first : ℕ) → x < 2 ^ 64 → 0 < x / 2 ^ first →
    (bit x (first + trailing_zeros w64 (x / 2 ^ first)) ≡ true) × ((i : ℕ) → i < trailing_zeros w64 (x / 2 ^ first) → bit x (first + i) ≡ false)
lowest x first small some =
    let found = bit_at-trailing_zeros w64 (x / 2 ^ first) some (omega (arith, shr_le x first)) in (
      bit_true x _ (sym (digit_shr x first (trailing_zeros w64 (x / 2 ^ first))) ∙ found.1),
      λ i h. bit_false x (first + i) (sym (digit_shr x first i) ∙ found.2 i h),
    )

pub places_next : (x first end : ℕ) → x < 2 ^ 64 → 0 < x / 2 ^ first → first + trailing_zeros w64 (x / 2 ^ first) < end →
    set_places x first (end - first) ≡
    (first + trailing_zeros w64 (x / 2 ^ first)) ∷ set_places x (first + trailing_zeros w64 (x / 2 ^ first) + 1) (end -
    (first + trailing_zeros w64 (x / 2 ^ first) + 1))
places_next x first end small some within =
    let skipped = trailing_zeros w64 (x / 2 ^ first) in
    let more = end - (first + skipped + 1) in
    let count : end - first ≡ skipped + suc more = omega arith in
    let found = lowest x first small some in
    ap (set_places x first) count ∙ places_step x first skipped more found.0 found.1

pub places_end : (x first end : ℕ) → x < 2 ^ 64 → 0 < x / 2 ^ first → end ≤ first + trailing_zeros w64 (x / 2 ^ first) →
    set_places x first (end - first) ≡ []
places_end x first end small some beyond = places_none x first (end - first) (λ i h. (lowest x first small some).1 i (omega arith))

pub places_zero : (x first n : ℕ) → x / 2 ^ first ≡ 0 → set_places x first n ≡ []
places_zero x first n e =
    places_none x first n (λ i h. bit_false x (first + i) (sym (digit_shr x first i) ∙ ap (λ m. number.bit_at m i) e ∙ bit_at-zero i))
