-- Places passed by words.
use Rattle.std.proofs.Common.{◌≡◌, ◌∙◌, ℕ, ◌+◌, ◌-◌, ◌/◌, ◌^◌, ◌≤◌, ◌<◌, Bool, List, ap, sym, arith, ⊎_elim}
use Rattle.std.specs.Prelude.{Some, slice_get}
use Rattle.std.proofs.lemmas.Bool.{cases_lt}
use Rattle.columnar_memory_bits.specs.Bits.{bit}
use Rattle.columnar_memory_bits.proofs.Bits.{bit_same, digit_shr}
use Rattle.columnar_memory_bitmap.specs.Runs.{HoldsBits}

-- the bits of a word behind its first ones
pub holds_behind : (bits : List Bool) (place word n count : ℕ) → HoldsBits bits place word n → count ≤ n →
    HoldsBits bits (place + count) (word / 2 ^ count) (n - count)
holds_behind bits place word n count holds within = record {
  few = omega (arith, holds.few);
  within = omega (arith, holds.within);
  same = λ (k : ℕ) (inside : k < n - count).
      let at : place + count + k ≡ place + (count + k) = omega arith in
      ap (λ i. slice_get bits i) at ∙ holds.same (count + k) (omega arith)
      ∙ ap Some (bit_same word (word / 2 ^ count) (count + k) k (sym (digit_shr word count k)));
}

-- places of one value, and then those of a word's first bits
pub same_more : (bits : List Bool) (value : Bool) (from place word n count : ℕ) →
    ((k : ℕ) → from + k < place → slice_get bits (from + k) ≡ Some value) → HoldsBits bits place word n → count ≤ n →
    ((k : ℕ) → k < count → bit word k ≡ value) → (k : ℕ) → from + k < place + count → slice_get bits (from + k) ≡ Some value
same_more bits value from place word n count before holds within equals k inside =
    ⊎_elim (λ (near : from + k < place). before k near)
    (λ (far : place ≤ from + k).
    let at : from + k ≡ place + (from + k - place) = omega arith in
    ap (λ i. slice_get bits i) at ∙ holds.same (from + k - place) (omega arith) ∙ ap Some (equals (from + k - place) (omega arith)))
    (cases_lt (from + k) place)
