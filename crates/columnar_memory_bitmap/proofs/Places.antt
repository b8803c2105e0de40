-- Bits of parts of some bytes.
use Rattle.std.proofs.Common.{◌≡◌, ◌∙◌, ℕ, ◌+◌, ◌-◌, ◌*◌, ◌/◌, ◌%◌, ◌^◌, ◌≤◌, ◌<◌, Bool, true, false, List, [], ◌∷◌, ◌++◌, length, take, drop, set}
use Rattle.std.proofs.Common.{get_or, ◌≢◌, eq-eqb, ⊎_elim, if◌then◌else◌, refl, ap, ap₂, sym, arith, zero-add, ◌==◌, slice_index}
use Rattle.std.specs.Prelude.{slice_range}
use Rattle.std.proofs.lemmas.List.{get_or-take, get_or-drop, get_or_past, get_or_append_left, get_or_at, length_push, same_lists, length-set}
use Rattle.std.proofs.lemmas.List.{get_or-set_same, get_or-set_other}
use Rattle.std.proofs.lemmas.Nat.Bits.{bit_at-zero, bit_at-pow_other}
use Rattle.std.proofs.lemmas.Bool.{cases_eq, cases_lt, ne_eqb}
use Rattle.columnar_memory_bits.specs.Bits.{IsPacked, bit_at, bits_of}
use Rattle.columnar_memory_bitmap.specs.Edits.{Writes}
use Rattle.columnar_memory_bitmap.proofs.Lists.{window_same, window_next, length-window, get_or-window}

-- a bit of a part
bit_at-part : (bytes : List ℕ) (from count i : ℕ) → i < 8 * count → bit_at (take count (drop from bytes)) i ≡ bit_at bytes (8 * from + i)
unfolding bit_at
bit_at-part bytes from count i inside =
    let within : i / 8 < count = omega arith in
    let byte : (8 * from + i) / 8 ≡ from + i / 8 = omega arith in
    let place : (8 * from + i) % 8 ≡ i % 8 = omega arith in
    let same : slice_index (take count (drop from bytes)) (i / 8) ≡ slice_index bytes (from + i / 8) =
    get_or-take count (drop from bytes) (i / 8) 0 within ∙ get_or-drop from bytes (i / 8) 0 in
    ap (λ b. b / 2 ^ (i % 8) % 2 == 1) same ∙ sym (ap₂ (λ j k. slice_index bytes j / 2 ^ k % 2 == 1) byte place)

-- the bits in the bytes that hold them
pub bits_of-range : (bytes : List ℕ) (first n end : ℕ) → first + n ≤ 8 * end →
    bits_of (slice_range bytes (first / 8) end) (first % 8) n ≡ bits_of bytes first n
bits_of-range bytes first n end within =
    window_same (bit_at (slice_range bytes (first / 8) end)) (bit_at bytes) (first % 8) first n (λ (k : ℕ) (inside : k < n).
    let place : 8 * (first / 8) + (first % 8 + k) ≡ first + k = omega arith in
    bit_at-part bytes (first / 8) (end - first / 8) (first % 8 + k) (omega arith) ∙ ap (bit_at bytes) place)

-- a bit of the first bytes
bit_at-take : (bytes : List ℕ) (count i : ℕ) → i < 8 * count → bit_at (take count bytes) i ≡ bit_at bytes i
unfolding bit_at
bit_at-take bytes count i inside =
    let within : i / 8 < count = omega arith in
    ap (λ b. b / 2 ^ (i % 8) % 2 == 1) (get_or-take count bytes (i / 8) 0 within)

-- the first bits of the first bytes
pub bits_of-take : (bytes : List ℕ) (count n : ℕ) → n ≤ 8 * count → bits_of (take count bytes) 0 n ≡ bits_of bytes 0 n
bits_of-take bytes count n within =
    window_same (bit_at (take count bytes)) (bit_at bytes) 0 0 n (λ (k : ℕ) (inside : k < n).
    bit_at-take bytes count (0 + k) (omega arith))

-- no bit is set where there are no bytes
bit_at-past : (bytes : List ℕ) (i : ℕ) → length bytes ≤ i / 8 → bit_at bytes i ≡ false
unfolding bit_at
bit_at-past bytes i past =
    let none : 0 / 2 ^ (i % 8) % 2 ≡ 0 = bit_at-zero (i % 8) in
    ap (λ b. b / 2 ^ (i % 8) % 2 == 1) (get_or_past bytes (i / 8) 0 past) ∙ ap (λ b. b == 1) none

pub packed_none : (bytes : List ℕ) → bytes ≡ [] → IsPacked bytes 0
packed_none bytes none =
    record { counted = ap length none; zeros = λ (i : ℕ) (past : 0 ≤ i). ap (λ xs. bit_at xs i) none ∙ bit_at-past [] i (omega arith) }

-- a bit that was written
written_here : (i j : ℕ) (a b : Bool) → j ≡ i → (if j == i then a else b) ≡ a
written_here i j a b same = ap (λ t. if t then a else b) (eq-eqb j i same)

written_elsewhere : (i j : ℕ) (a b : Bool) → j ≢ i → (if j == i then a else b) ≡ b
written_elsewhere i j a b other = ap (λ t. if t then a else b) (ne_eqb j i other)

pub bits_of-written : (old new : List ℕ) (n i : ℕ) (value : Bool) → Writes old new i value → i < n →
    bits_of new 0 n ≡ set (bits_of old 0 n) i value
bits_of-written old new n i value writes inside =
    same_lists (bits_of new 0 n) (set (bits_of old 0 n) i value)
    (length-window (bit_at new) 0 n ∙ sym (length-set (bits_of old 0 n) i value ∙ length-window (bit_at old) 0 n))
    (λ (k : ℕ) (d : Bool) (within : k < length (bits_of new 0 n)).
    let below : k < n = omega (arith, length-window (bit_at new) 0 n) in
    let read : get_or (bits_of new 0 n) k d ≡ (if k == i then value else bit_at old k) = get_or-window (bit_at new) 0 n k d below
    ∙ ap (bit_at new) (zero-add k) ∙ writes k in
    ⊎_elim (λ (same : k ≡ i).
    let in_list : i < length (bits_of old 0 n) = omega (arith, length-window (bit_at old) 0 n) in
    read ∙ written_here i k value (bit_at old k) same ∙ sym (ap (λ j. get_or (set (bits_of old 0 n) i value) j d) same
    ∙ get_or-set_same (bits_of old 0 n) i value d in_list))
    (λ (other : k ≢ i).
    read ∙ written_elsewhere i k value (bit_at old k) other
    ∙ sym (get_or-set_other (bits_of old 0 n) i k value d other ∙ get_or-window (bit_at old) 0 n k d below ∙ ap (bit_at old) (zero-add k)))
    (cases_eq k i))

pub packed_written : (old new : List ℕ) (n i : ℕ) (value : Bool) → Writes old new i value → i < n → length new ≡ length old → IsPacked old n →
    IsPacked new n
packed_written old new n i value writes inside long packed =
    record {
      counted = long ∙ packed.counted;
      zeros = λ (j : ℕ) (past : n ≤ j).
          writes j ∙ written_elsewhere i j value (bit_at old j) (omega arith) ∙ packed.zeros j past;
    }

-- one more bit
pub bits_of-more : (old new : List ℕ) (n : ℕ) (value : Bool) → ((j : ℕ) → j < n → bit_at new j ≡ bit_at old j) → bit_at new n ≡ value →
    bits_of new 0 (n + 1) ≡ bits_of old 0 n ++ value ∷ []
bits_of-more old new n value same last =
    window_next (bit_at new) 0 n
    ∙ ap₂ (λ (xs : List Bool) (x : Bool). xs ++ x ∷ [])
    (window_same (bit_at new) (bit_at old) 0 0 n (λ (k : ℕ) (inside : k < n). same (0 + k) (omega arith)))
    (ap (bit_at new) (zero-add n) ∙ last)

-- one more bit where none of the last byte is used
bit_at-before : (old : List ℕ) (byte i : ℕ) → i / 8 < length old → bit_at (old ++ byte ∷ []) i ≡ bit_at old i
unfolding bit_at
bit_at-before old byte i before = ap (λ b. b / 2 ^ (i % 8) % 2 == 1) (get_or_append_left old (byte ∷ []) 0 (i / 8) before)

bit_at-last : (old : List ℕ) (byte i : ℕ) → length old ≡ i / 8 → bit_at (old ++ byte ∷ []) i ≡ (byte / 2 ^ (i % 8) % 2 == 1)
unfolding bit_at
bit_at-last old byte i place = ap (λ b. b / 2 ^ (i % 8) % 2 == 1) (get_or_at old byte [] 0 (i / 8) place)

-- the bits of a byte whose lowest bit alone may be set
one_bit : (value : Bool) → ((if value then 1 else 0) / 2 ^ 0 % 2 == 1) ≡ value
one_bit true = refl
one_bit false = refl

no_bit : (value : Bool) (i : ℕ) → 0 < i → ((if value then 1 else 0) / 2 ^ i % 2 == 1) ≡ false
no_bit true i above = ap (λ b. b == 1) (bit_at-pow_other 0 i (omega arith))
no_bit false i above = ap (λ b. b == 1) (bit_at-zero i)

pub bits_of-next_byte : (old : List ℕ) (n byte : ℕ) (value : Bool) → IsPacked old n → n % 8 ≡ 0 → byte ≡ (if value then 1 else 0) →
    bits_of (old ++ byte ∷ []) 0 (n + 1) ≡ bits_of old 0 n ++ value ∷ []
bits_of-next_byte old n byte value packed whole is =
    let long : length old ≡ n / 8 = omega (arith, packed.counted) in
    bits_of-more old (old ++ byte ∷ []) n value (λ (j : ℕ) (before : j < n). bit_at-before old byte j (omega arith))
    (bit_at-last old byte n long ∙ ap₂ (λ b k. b / 2 ^ k % 2 == 1) is whole ∙ one_bit value)

pub packed_next_byte : (old : List ℕ) (n byte : ℕ) (value : Bool) → IsPacked old n → n % 8 ≡ 0 → byte ≡ (if value then 1 else 0) →
    IsPacked (old ++ byte ∷ []) (n + 1)
packed_next_byte old n byte value packed whole is =
    let long : length old ≡ n / 8 = omega (arith, packed.counted) in
    let more : length (old ++ byte ∷ []) ≡ length old + 1 = length_push old byte in
    record {
      counted = omega arith;
      zeros = λ (j : ℕ) (past : n + 1 ≤ j).
          ⊎_elim (λ (here : j < n + 8).
          let place : length old ≡ j / 8 = omega arith in
          let above : 0 < j % 8 = omega arith in
          bit_at-last old byte j place ∙ ap (λ b. b / 2 ^ (j % 8) % 2 == 1) is ∙ no_bit value (j % 8) above)
          (λ (behind : n + 8 ≤ j). bit_at-past (old ++ byte ∷ []) j (omega arith))
          (cases_lt j (n + 8));
    }

-- one more bit in a byte that has room for it
pub bits_of-next_set : (old new : List ℕ) (n : ℕ) → Writes old new n true → bits_of new 0 (n + 1) ≡ bits_of old 0 n ++ true ∷ []
bits_of-next_set old new n writes =
    bits_of-more old new n true
    (λ (j : ℕ) (before : j < n). writes j ∙ written_elsewhere n j true (bit_at old j) (omega arith))
    (writes n ∙ written_here n n true (bit_at old n) refl)

pub packed_next : (old : List ℕ) (n : ℕ) → IsPacked old n → 0 < n % 8 → IsPacked old (n + 1)
packed_next old n packed room =
    record { counted = omega (arith, packed.counted); zeros = λ (j : ℕ) (past : n + 1 ≤ j). packed.zeros j (omega arith) }

pub bits_of-next_unset : (old : List ℕ) (n : ℕ) → IsPacked old n → bits_of old 0 (n + 1) ≡ bits_of old 0 n ++ false ∷ []
bits_of-next_unset old n packed = bits_of-more old old n false (λ (j : ℕ) (before : j < n). refl) (packed.zeros n (omega arith))

pub ruleset firsts = (bits_of-take)

pub ruleset empty = (packed_none)

pub ruleset pushes = (bits_of-next_byte, bits_of-next_set, bits_of-next_unset, packed_next_byte, packed_next, packed_written)

pub ruleset writes = (bits_of-written, packed_written, length-window)
