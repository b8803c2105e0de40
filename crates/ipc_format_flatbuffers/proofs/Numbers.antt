-- Numbers as bytes, and the zeros that fill up to a multiple.
use Rattle.std.proofs.Common.{◌≡◌, ℕ, zero, suc, ◌-◌, ◌≤◌, List, [], ◌∷◌, ◌++◌, length, take, replicate, refl, sym, ap, arith, length-append}
use Rattle.std.specs.Int.{Width, byte_len, to_le_bytes, bytes_low_first, next_multiple_of}
use Rattle.std.proofs.lemmas.List.{take-replicate, length-replicate}
use Rattle.ipc_format_flatbuffers.specs.Laying.{padded}

length-bytes_low_first : (i k n : ℕ) → length (bytes_low_first i k n) ≡ k
length-bytes_low_first i zero n = refl
length-bytes_low_first i (suc k) n = omega (arith, length-bytes_low_first (suc i) k n)

-- a number has the bytes of its width
pub length-to_le_bytes : (w : Width) (n : ℕ) → length (to_le_bytes w n) ≡ byte_len w
length-to_le_bytes w n = length-bytes_low_first 0 (byte_len w) n

-- the front of eight zeros
pub few_zeros : (n : ℕ) → n ≤ 8 → take {A = ℕ} n (0 ∷ 0 ∷ 0 ∷ 0 ∷ 0 ∷ 0 ∷ 0 ∷ 0 ∷ []) ≡ replicate n 0
few_zeros n h = take-replicate n 8 0 h

-- bytes of a known number, filled up with zeros
pub padded_is : (bytes : List ℕ) (n : ℕ) → length bytes ≡ n → bytes ++ replicate (next_multiple_of n 8 - n) 0 ≡ padded bytes
padded_is bytes n e = ap (λ (k : ℕ). bytes ++ replicate (next_multiple_of k 8 - k) 0) (sym e)

-- filled up with zeros, bytes end at a multiple of 8
pub length-padded : (bytes : List ℕ) → length (padded bytes) ≡ next_multiple_of (length bytes) 8
length-padded bytes = omega (
  arith,
  length-append bytes (replicate {A = ℕ} (next_multiple_of (length bytes) 8 - length bytes) 0),
  length-replicate {A = ℕ} (next_multiple_of (length bytes) 8 - length bytes) 0,
)
