-- Changes of the byte at which bits end.
use Rattle.std.proofs.Common.{◌≡◌, ◌≢◌, ◌∙◌, refl, sym, ap, ap₂}
use Rattle.std.proofs.Common.{ℕ, ◌+◌, ◌-◌, ◌*◌, ◌/◌, ◌%◌, ◌^◌, ◌≤◌, ◌<◌, bit_and, bit_or, arith}
use Rattle.std.proofs.Common.{Bool, true, false, ◌==◌, ◌⊎◌, inl, inr}
use Rattle.std.proofs.Common.{List, ◌++◌, length, take, drop, get_or, set, replicate, get_or-set_same, get_or-set_other}
use Rattle.std.specs.Int as number
use Rattle.std.proofs.lemmas.List.{get_or-drop, get_or-take, length-take-le, length-set, get_or-replicate}
use Rattle.std.proofs.lemmas.Bool.{cases_eq, eqb-false}
use Rattle.std.proofs.lemmas.Nat.{and_mask, mod_below, pow_pos}
use Rattle.std.proofs.lemmas.Nat.Bits.{bit_at_or, bit_at_ones, bit_at-lt, ones_shr}
use Rattle.columnar_memory_bits.specs.Bits.{bit, bit_at, bytes_for, IsPacked}
use Rattle.columnar_memory_bits.specs.Appends.{AppendsBits, KeepsBits}
use Rattle.columnar_memory_bits.proofs.Bits.{digit, digit_mod, digit_shl_low, digit_shl_high, bit_at_byte, bit_at_digit, bit_same}
use Rattle.columnar_memory_bits.proofs.Bits.{bit_true, bit_above}
use Rattle.columnar_memory_bits.proofs.Appends.{bit_at_beyond, bit_at_front, bit_at_behind}

-- a byte that is written, and the others
here : (old new : List ℕ) (p v i : ℕ) → new ≡ set old p v → p < length old → i / 8 ≡ p → bit_at new i ≡ bit v (i % 8)
here old new p v i e within same =
    bit_at_byte new i ∙ ap (λ bs. bit (get_or bs (i / 8) 0) (i % 8)) e ∙ ap (λ k. bit (get_or (set old p v) k 0) (i % 8)) same
    ∙ ap (λ b. bit b (i % 8)) (get_or-set_same old p v 0 within)

elsewhere : (old new : List ℕ) (p v i : ℕ) → new ≡ set old p v → (i / 8 ≢ p) → bit_at new i ≡ bit_at old i
elsewhere old new p v i e apart =
    bit_at_byte new i ∙ ap (λ bs. bit (get_or bs (i / 8) 0) (i % 8)) e ∙ ap (λ b. bit b (i % 8)) (get_or-set_other old p (i / 8) v 0 apart)
    ∙ sym (bit_at_byte old i)

digit_zero : (d : ℕ) → d < 2 → (d == 1) ≡ false → d ≡ 0
digit_zero d h e = let no : d ≢ 1 = eqb-false d 1 e in omega arith

-- a bit that is not set is the digit 0
pub unset_digit : (bytes : List ℕ) (i : ℕ) → bit_at bytes i ≡ false → digit bytes i ≡ 0
unset_digit bytes i e = digit_zero (digit bytes i) (bit_at-lt (get_or bytes (i / 8) 0) (i % 8)) (sym (bit_at_digit bytes i) ∙ e)

-- ---- bits that are cut off

cut_byte : (b s r : ℕ) → s ≤ 8 → (r < s) ⊎ (s ≤ r) → (cut : Bool) → ((r < s) → cut ≡ bit b r) → (s ≤ r → cut ≡ false) →
    bit (bit_and b (255 / 2 ^ (8 - s))) r ≡ cut
cut_byte b s r few place cut low high = ap (λ n. bit n r) masked ∙ by_place place where
  masked : bit_and b (255 / 2 ^ (8 - s)) ≡ b % 2 ^ s
  masked =
      let count : 8 - (8 - s) ≡ s = omega arith in
      ap (bit_and b) (ones_shr 8 (8 - s) (omega arith) ∙ ap (λ k. 2 ^ k - 1) count) ∙ and_mask b s

  by_place : (r < s) ⊎ (s ≤ r) → bit (b % 2 ^ s) r ≡ cut
  by_place (inl h) = bit_same (b % 2 ^ s) b r r (digit_mod b s r h) ∙ sym (low h)
  by_place (inr h) = bit_above (b % 2 ^ s) s r (mod_below b (2 ^ s) (pow_pos s)) h ∙ sym (high h)

bit_of_take : (bytes : List ℕ) (k i : ℕ) → i < 8 * k → bit_at (take k bytes) i ≡ bit_at bytes i
bit_of_take bytes k i h =
    bit_at_byte (take k bytes) i ∙ ap (λ b. bit b (i % 8)) (get_or-take k bytes (i / 8) 0 (omega arith)) ∙ sym (bit_at_byte bytes i)

pub keeps_whole : (old new : List ℕ) (n : ℕ) → n ≤ 8 * length old → n % 8 ≤ 0 → new ≡ take (bytes_for n) old → KeepsBits old new n
keeps_whole old new n h whole e =
    let count : length new ≡ bytes_for n = ap length e ∙ length-take-le (bytes_for n) old (omega arith) in
    record {
      counted = count;
      before = λ i less. ap (λ bs. bit_at bs i) e ∙ bit_of_take old (bytes_for n) i (omega arith);
      zeros = λ i more. bit_at_beyond new i (omega arith);
    }

module _ (old new : List ℕ) (n : ℕ) (h : n ≤ 8 * length old) (part : 0 < n % 8)
    (e : new ≡ set (take (bytes_for n) old) (n / 8) (bit_and (get_or (take (bytes_for n) old) (n / 8) 0) (255 / 2 ^ (8 - n % 8)))) where
  taken_count : length (take (bytes_for n) old) ≡ bytes_for n
  taken_count = length-take-le (bytes_for n) old (omega arith)

  cut_before : (i : ℕ) → i < n → (i / 8 ≡ n / 8) ⊎ (i / 8 ≢ n / 8) → bit_at new i ≡ bit_at old i
  cut_before i less (inl same) =
      here (take (bytes_for n) old) new (n / 8) _ i e (omega (arith, taken_count)) same
      ∙ cut_byte (get_or (take (bytes_for n) old) (n / 8) 0) (n % 8) (i % 8) (omega arith) (inl (omega arith)) (bit (get_or (take
      (bytes_for n) old) (n / 8) 0) (i % 8))
      (λ _. refl) (λ more. absurd (omega arith))
      ∙ ap (λ k. bit (get_or (take (bytes_for n) old) k 0) (i % 8)) (sym same) ∙ sym (bit_at_byte (take (bytes_for n) old) i)
      ∙ bit_of_take old (bytes_for n) i (omega arith)
  cut_before i less (inr apart) = elsewhere (take (bytes_for n) old) new (n / 8) _ i e apart ∙ bit_of_take old (bytes_for n) i (omega arith)

  cut_count : length new ≡ bytes_for n
  cut_count = ap length e ∙ length-set (take (bytes_for n) old) (n / 8) _ ∙ taken_count

  cut_zeros : (i : ℕ) → n ≤ i → (i / 8 ≡ n / 8) ⊎ (i / 8 ≢ n / 8) → bit_at new i ≡ false
  cut_zeros i more (inl same) =
      here (take (bytes_for n) old) new (n / 8) _ i e (omega (arith, taken_count)) same
      ∙ cut_byte (get_or (take (bytes_for n) old) (n / 8) 0) (n % 8) (i % 8) (omega arith) (inr (omega arith)) false (λ less. absurd
      (omega arith)) (λ _. refl)
  cut_zeros i more (inr apart) = bit_at_beyond new i (omega (arith, cut_count))

  pub keeps_part : KeepsBits old new n
  keeps_part = record {
    counted = cut_count;
    before = λ i less. cut_before i less (cases_eq (i / 8) (n / 8));
    zeros = λ i more. cut_zeros i more (cases_eq (i / 8) (n / 8));
  }

-- ---- bits that are written in the spare bits

module _ (old new : List ℕ) (held n x : ℕ) (packed : IsPacked old held) (begun : 0 < held % 8) (room : held % 8 + n ≤ 8) (small : x < 2 ^ n)
    (e : new ≡ set old (held / 8) (bit_or (get_or old (held / 8) 0) (x * 2 ^ (held % 8) % 256))) where
  fill_within : held / 8 < length old
  fill_within = omega (arith, packed.counted)

  fill_count : length new ≡ bytes_for (held + n)
  fill_count =
      let count : bytes_for held ≡ bytes_for (held + n) = omega arith in
      ap length e ∙ length-set old (held / 8) _ ∙ packed.counted ∙ count

  -- the digits of the byte that is written
  fill_low : (r : ℕ) → r < held % 8 → bit (bit_or (get_or old (held / 8) 0) (x * 2 ^ (held % 8) % 256)) r ≡ bit (get_or old (held / 8) 0) r
  fill_low r h =
      let none : number.bit_at (x * 2 ^ (held % 8) % 256) r ≡ 0 = digit_mod (x * 2 ^ (held % 8)) 8 r (omega arith) ∙ digit_shl_low x (held % 8) r h in
      bit_same _ (get_or old (held / 8) 0) r r (bit_at_or (get_or old (held / 8) 0) (x * 2 ^ (held % 8) % 256) r ∙ omega (arith, none))

  fill_high : (i r : ℕ) → i < 8 → r ≡ held % 8 + i → r < 8 → bit (bit_or (get_or old (held / 8) 0) (x * 2 ^ (held % 8) % 256)) r ≡ bit x i
  fill_high i r h place low =
      let back : r - held % 8 ≡ i = omega arith in
      let some : number.bit_at (x * 2 ^ (held % 8) % 256) r ≡ number.bit_at x i =
      digit_mod (x * 2 ^ (held % 8)) 8 r low ∙ digit_shl_high x (held % 8) r (pow_pos (held % 8)) (omega arith) ∙ ap (number.bit_at x) back in
      let byte : (held + i) / 8 ≡ held / 8 = omega arith in
      let within : (held + i) % 8 ≡ r = omega arith in
      let none : number.bit_at (get_or old (held / 8) 0) r ≡ 0 =
      ap₂ (λ (k : ℕ) (s : ℕ). number.bit_at (get_or old k 0) s) (sym byte) (sym within)
      ∙ unset_digit old (held + i) (packed.zeros (held + i) (omega arith)) in
      bit_same _ x r i (bit_at_or (get_or old (held / 8) 0) (x * 2 ^ (held % 8) % 256) r ∙ omega (arith, none, some))

  fill_before : (i : ℕ) → i < held → (i / 8 ≡ held / 8) ⊎ (i / 8 ≢ held / 8) → bit_at new i ≡ bit_at old i
  fill_before i less (inl same) =
      here old new (held / 8) _ i e fill_within same ∙ fill_low (i % 8) (omega arith)
      ∙ ap (λ k. bit (get_or old k 0) (i % 8)) (sym same) ∙ sym (bit_at_byte old i)
  fill_before i less (inr apart) = elsewhere old new (held / 8) _ i e apart

  fill_zeros : (i : ℕ) → held + n ≤ i → (i / 8 ≡ held / 8) ⊎ (i / 8 ≢ held / 8) → bit_at new i ≡ false
  fill_zeros i more (inl same) =
      here old new (held / 8) _ i e fill_within same ∙ fill_high (i - held) (i % 8) (omega arith) (omega arith) (omega arith)
      ∙ bit_above x n (i - held) small (omega arith)
  fill_zeros i more (inr apart) = bit_at_beyond new i (omega (arith, fill_count))

  pub fills : AppendsBits old new held (bit x) n
  fills = record {
    counted = fill_count;
    before = λ i less. fill_before i less (cases_eq (i / 8) (held / 8));
    added = λ i less. here old new (held / 8) _ (held + i) e fill_within (omega arith)
        ∙ fill_high i ((held + i) % 8) (omega arith) (omega arith) (omega arith);
    zeros = λ i more. fill_zeros i more (cases_eq (i / 8) (held / 8));
  }

-- ---- whole bytes that are added, and then cut

pub extends_cut : (old mid new part bytes : List ℕ) (offset n : ℕ) → mid ≡ old ++ part → part ≡ take (bytes_for n) (drop (offset / 8) bytes) →
    offset % 8 ≡ 0 → KeepsBits mid new (8 * length old + n) → AppendsBits old new (8 * length old) (λ i. bit_at bytes (offset + i)) n
extends_cut old mid new part bytes offset n e cut whole kept = record {
  counted = kept.counted;
  before = λ i h. kept.before i (omega arith) ∙ ap (λ bs. bit_at bs i) e ∙ bit_at_front old part i h;
  added = λ i h.
      let place : (offset + i) / 8 ≡ offset / 8 + i / 8 = omega arith in
      let within : i % 8 ≡ (offset + i) % 8 = omega arith in
      kept.before (8 * length old + i) (omega arith) ∙ ap (λ bs. bit_at bs (8 * length old + i)) e ∙ bit_at_behind old part i
      ∙ ap (λ bs. bit_at bs i) cut ∙ bit_of_take (drop (offset / 8) bytes) (bytes_for n) i (omega arith) ∙ bit_at_byte (drop (offset / 8) bytes) i
      ∙ ap (λ b. bit b (i % 8)) (get_or-drop (offset / 8) bytes (i / 8) 0)
      ∙ ap₂ (λ (k : ℕ) (r : ℕ). bit (get_or bytes k 0) r) (sym place) within ∙ sym (bit_at_byte bytes (offset + i));
  zeros = kept.zeros;
}

-- whole bytes of one value that are added, and then cut
pub extends_constant : (old mid new : List ℕ) (b n : ℕ) (value : Bool) → mid ≡ old ++ replicate (bytes_for n) b → ((r : ℕ) → r < 8 →
    bit b r ≡ value) →
    KeepsBits mid new (8 * length old + n) → AppendsBits old new (8 * length old) (λ _. value) n
extends_constant old mid new b n value e same kept = record {
  counted = kept.counted;
  before = λ i h. kept.before i (omega arith) ∙ ap (λ bs. bit_at bs i) e ∙ bit_at_front old (replicate (bytes_for n) b) i h;
  added = λ i h.
      kept.before (8 * length old + i) (omega arith) ∙ ap (λ bs. bit_at bs (8 * length old + i)) e ∙ bit_at_behind old (replicate (bytes_for n) b) i
      ∙ bit_at_byte (replicate (bytes_for n) b) i ∙ ap (λ x. bit x (i % 8)) (get_or-replicate (bytes_for n) (i / 8) b 0 (omega arith))
      ∙ same (i % 8) (omega arith);
  zeros = kept.zeros;
}

pub ones_set : (k i : ℕ) → i < k → bit (2 ^ k - 1) i ≡ true
ones_set k i h = bit_true (2 ^ k - 1) i (bit_at_ones k i h)

pub zero_unset : (i : ℕ) → bit 0 i ≡ false
zero_unset i = bit_above 0 0 i (omega arith) (omega arith)
