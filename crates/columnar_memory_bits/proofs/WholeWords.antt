-- Words of eight bytes that are read whole.
use Rattle.std.proofs.Common.{◌≡◌, ◌∙◌, ℕ, zero, suc, ◌+◌, ◌*◌, ◌/◌, ◌%◌, ◌^◌, ◌≤◌}
use Rattle.std.proofs.Common.{◌<◌, List, length, take, drop, get_or, refl, ap, ap₂, sym}
use Rattle.std.proofs.Common.{arith, ⊎_elim, length-take, length-drop}
use Rattle.std.specs.Int as number
use Rattle.std.specs.Int.{from_le_bytes, w64}
use Rattle.std.specs.Simd.{first_chunks}
use Rattle.std.proofs.lemmas.Bool.{cases_lt}
use Rattle.std.proofs.lemmas.List.{get_or-take, get_or-drop, get_or_past, drop-drop}
use Rattle.columnar_memory_bits.specs.Windows.{window}
use Rattle.columnar_memory_bits.specs.Bits.{bits_of}
use Rattle.columnar_memory_bits.specs.Words.{word}
use Rattle.columnar_memory_bits.proofs.Bits.{digit}
use Rattle.columnar_memory_bits.proofs.Windows.{window_of_list}
use Rattle.columnar_memory_bits.proofs.Words.{digit_eight, word_of_bytes}

-- chunk k of eight elements
get_or-chunks : {X : Type 0} (n k : ℕ) (xs d : List X) → k < n → get_or (first_chunks 8 n xs) k d ≡ take 8 (drop (8 * k) xs)
get_or-chunks zero k xs d h = absurd (omega arith)
get_or-chunks (suc n) zero xs d h = refl
get_or-chunks (suc n) (suc k) xs d h =
    let place : 8 + 8 * k ≡ 8 * suc k = omega arith in
    get_or-chunks n k (drop 8 xs) d (omega arith) ∙ ap (λ ys. take 8 ys) (drop-drop (8 * k) 8 xs ∙ ap (λ m. drop m xs) place)

-- a digit of a part
digit_taken : (bytes : List ℕ) (from count i : ℕ) → i < 8 * count → digit (take count (drop from bytes)) i ≡ digit bytes (8 * from + i)
digit_taken bytes from count i inside =
    let within : i / 8 < count = omega arith in
    let byte : from + i / 8 ≡ (8 * from + i) / 8 = omega arith in
    let place : i % 8 ≡ (8 * from + i) % 8 = omega arith in
    ap (λ b. number.bit_at b (i % 8)) (get_or-take count (drop from bytes) (i / 8) 0 within ∙ get_or-drop from bytes (i / 8) 0)
    ∙ ap₂ (λ (k : ℕ) (r : ℕ). number.bit_at (get_or bytes k 0) r) byte place

-- a part of bytes is bytes
small_part : (bytes : List ℕ) (from count : ℕ) → ((k : ℕ) → get_or bytes k 0 < 256) → (k : ℕ) → get_or (take count (drop from bytes)) k 0 < 256
small_part bytes from count small k =
    ⊎_elim (λ (near : k < count). rw (get_or-take count (drop from bytes) k 0 near, get_or-drop from bytes k 0) (small (from + k)))
    (λ (far : count ≤ k).
    let past : length (take count (drop from bytes)) ≤ k = omega (arith, length-take count (drop from bytes)) in
    rw (get_or_past (take count (drop from bytes)) k 0 past) (omega arith))
    (cases_lt k count)

-- eight bytes as a number
digit_of_eight : (bytes : List ℕ) (i : ℕ) → ((k : ℕ) → get_or bytes k 0 < 256) → length bytes ≡ 8 → i < 64 →
    number.bit_at (from_le_bytes w64 bytes) i ≡ digit bytes i
digit_of_eight bytes i small eight h =
    let f : ℕ → ℕ = λ k. get_or bytes k 0 in
    digit_eight bytes bytes i small h (sym (window_of_list bytes 0) ∙ ap (λ n. window f 0 n) eight)

-- The number of a chunk of eight bytes, among the n that a part of some bytes has, is the word of their bits.
pub chunk_word : (bytes : List ℕ) (first m n k x : ℕ) (d : List ℕ) → ((j : ℕ) → get_or bytes j 0 < 256) → first + m ≤ length bytes → 8 * n ≤ m →
    k < n → x < 2 ^ 64 → x ≡ from_le_bytes w64 (get_or (first_chunks 8 n (take m (drop first bytes))) k d) →
    x ≡ word (bits_of bytes (8 * first + 64 * k) 64)
chunk_word bytes first m n k x d small within whole inside fits e =
    let part : List ℕ = take m (drop first bytes) in
    let chunk : List ℕ = take 8 (drop (8 * k) part) in
    let long : length part ≡ m = omega (arith, length-take m (drop first bytes), length-drop first bytes) in
    let eight : length chunk ≡ 8 = omega (arith, length-take 8 (drop (8 * k) part), length-drop (8 * k) part, long) in
    let is : x ≡ from_le_bytes w64 chunk = e ∙ ap (λ bs. from_le_bytes w64 bs) (get_or-chunks n k part d inside) in
    word_of_bytes bytes (8 * first + 64 * k) 64 x fits (λ (i : ℕ) (h : i < 64).
    let place : 8 * first + (8 * (8 * k) + i) ≡ 8 * first + 64 * k + i = omega arith in
    ap (λ v. number.bit_at v i) is ∙ digit_of_eight chunk i (small_part part (8 * k) 8 (small_part bytes first m small)) eight h
    ∙ digit_taken part (8 * k) 8 i (omega arith) ∙ digit_taken bytes first m (8 * (8 * k) + i) (omega arith) ∙ ap (digit bytes) place)
