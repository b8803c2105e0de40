-- Chunks of bits.
use Rattle.std.proofs.Math.Nat.{div-mul-le_self}
use Rattle.std.proofs.Common.{◌≡◌, ◌∙◌, ℕ, zero, suc, ◌+◌, ◌-◌, ◌*◌, ◌/◌, ◌%◌, ◌^◌, ◌≤◌, ◌<◌, List, ◌∷◌, drop, refl, ap, ap₂, sym, arith}
use Rattle.std.proofs.Math.Nat.{mul-le-mul_left, pow-le-pow_right}
use Rattle.columnar_memory_bitmap.specs.bits.Windows.{window}
use Rattle.columnar_memory_bitmap.specs.bits.Bits.{bit_at, bits_of}
use Rattle.columnar_memory_bitmap.specs.bits.Words.{word, word_at, whole_words, rest_bits, words_from}
use Rattle.columnar_memory_bitmap.proofs.bits_lemmas.Windows.{length_window, window_same, part_of_window, drop_window, window_first}
use Rattle.columnar_memory_bitmap.proofs.bits_lemmas.Words.{word_small}

-- a word of some bits of a list is that of their bytes
word_of_part : (w : ℕ) (bytes : List ℕ) (offset len k : ℕ) → 0 < w → k < len / w →
    word (bits_of bytes (offset + w * k) w) ≡ word_at w (bits_of bytes offset len) k
word_of_part w bytes offset len k some h =
    let more : k + 1 ≤ len / w = omega arith in
    let within : w * k + w ≤ len = omega (arith, mul-le-mul_left w more) in
    ap word (sym (part_of_window (bit_at bytes) offset (w * k) w len within))

pub whole_words_are : (w : ℕ) (bytes : List ℕ) (offset len : ℕ) → 0 < w →
    words_from w bytes offset (len / w) ≡ whole_words w (bits_of bytes offset len)
whole_words_are w bytes offset len some =
    window_same (λ k. word (bits_of bytes (offset + w * k) w)) (word_at w (bits_of bytes offset len)) 0 0 (len / w)
    (λ i h. let same : 0 + i ≡ i = omega arith in
    ap (λ k. word (bits_of bytes (offset + w * k) w)) same ∙ word_of_part w bytes offset len i some h
    ∙ ap (word_at w (bits_of bytes offset len)) (sym same))
    ∙ ap (λ n. window (word_at w (bits_of bytes offset len)) 0 (n / w)) (sym (length_window (bit_at bytes) offset len))

pub rest_bits_are : (w : ℕ) (bytes : List ℕ) (offset len : ℕ) → 0 < w →
    bits_of bytes (offset + w * (len / w)) (len % w) ≡ rest_bits w (bits_of bytes offset len)
rest_bits_are w bytes offset len some =
    let parts : len ≡ w * (len / w) + len % w = omega arith in
    sym (ap (λ n. drop (w * (n / w)) (bits_of bytes offset len)) (length_window (bit_at bytes) offset len)
    ∙ drop_window (bit_at bytes) offset (w * (len / w)) (len % w) len parts)

-- one chunk comes off the front
pub chunk_step : (w b : ℕ) (bytes : List ℕ) (start chunks x : ℕ) → b ≡ w → (chunks ≡ 0 → ⊥) → x ≡ word (bits_of bytes start b) →
    words_from w bytes start chunks ≡ x ∷ words_from w bytes (start + b) (chunks - 1)
chunk_step w b bytes start chunks x e some here =
    let more : chunks ≡ suc (chunks - 1) = omega arith in
    let f : ℕ → ℕ = λ k. word (bits_of bytes (start + w * k) w) in
    let g : ℕ → ℕ = λ k. word (bits_of bytes (start + b + w * k) w) in
    let place : start + w * 0 ≡ start = omega arith in
    let first : f 0 ≡ x = ap₂ (λ k n. word (bits_of bytes k n)) place (sym e) ∙ sym here in
    window_first f 0 chunks (chunks - 1) more
    ∙ ap₂ (λ (y : ℕ) ys. y ∷ ys) first (window_same f g (0 + 1) 0 (chunks - 1) (λ i h.
    let next : start + w * (0 + 1 + i) ≡ start + b + w * (0 + i) = omega (arith, e) in
    ap (λ k. word (bits_of bytes k w)) next))

pub chunk_rest : (w b : ℕ) (bytes : List ℕ) (start chunks rest : ℕ) → b ≡ w → (chunks ≡ 0 → ⊥) →
    bits_of bytes (start + b + w * (chunks - 1)) rest ≡ bits_of bytes (start + w * chunks) rest
chunk_rest w b bytes start zero rest e some = absurd (some refl)
chunk_rest w b bytes start (suc m) rest e some =
    let less : suc m - 1 ≡ m = omega arith in
    let place : start + b + w * (suc m - 1) ≡ start + w * suc m = ap (λ k. start + b + w * k) less ∙ omega (arith, e) in
    ap (λ k. bits_of bytes k rest) place

-- a word of fewer bits fits
pub word_fits : (bytes : List ℕ) (first n w x : ℕ) → n ≤ w → x ≡ word (bits_of bytes first n) → x < 2 ^ w
word_fits bytes first n w x few e =
    let two : 0 < 2 = omega arith in
    let wider : 2 ^ n ≤ 2 ^ w = pow-le-pow_right two few in
    omega (arith, wider, word_small bytes first n x e)

eight_times : (q s : ℕ) → q * (8 * s) ≡ 8 * (q * s)
eight_times q s = omega arith

-- whole chunks stand in the bytes that the bits need
pub chunks_within : (w s n : ℕ) → w ≡ 8 * s → n / w * s ≤ (n + 7) / 8
chunks_within w s n e =
    let whole : n / w * w ≤ n = div-mul-le_self n w in
    let bytes : n / w * w ≡ 8 * (n / w * s) = ap (λ m. n / w * m) e ∙ eight_times (n / w) s in
    omega (arith, whole, bytes)
