-- Numbers of 256 bits as two words: the higher one a number of 128 bits with its sign, the lower one without.
use Rattle.std.specs.Prelude.{◌≡◌, ◌+◌, ◌-◌, ◌*◌, ◌/◌, ◌%◌, ◌^◌, ◌<◌, ◌<ℤ◌, ◌+ℤ◌, ◌*ℤ◌, ℕ}
use Rattle.std.specs.Prelude.{ℤ, pos, negsuc, true, false, List, take, drop, ◌++◌, FitsSigned}
use Rattle.std.specs.Int.{w128, cast_signed, cast_unsigned, to_le_bytes, to_be_bytes, from_le_bytes, from_be_bytes}
use Rattle.std.proofs.Common.{sym, ap, ◌∙◌, arith}
use Rattle.std.proofs.lemmas.Int.{ints}
use Rattle.std.proofs.lemmas.Bool.Decides.{nat_tests}
use Rattle.columnar_memory_native.specs.Numbers.{FitsWide, wide_bits, wide_number, wide_bytes, wide_in}

-- the number of two words
abbrev pub of_halves : ℤ → ℕ → ℤ
of_halves (pos high) low = pos (high * 2 ^ 128 + low)
of_halves (negsuc high) low = negsuc (high * 2 ^ 128 + (2 ^ 128 - 1 - low))

-- the two words of a number
abbrev pub high_half : ℤ → ℤ
high_half (pos n) = pos (n / 2 ^ 128)
high_half (negsuc n) = negsuc (n / 2 ^ 128)

abbrev pub low_half : ℤ → ℕ
low_half (pos n) = n % 2 ^ 128
low_half (negsuc n) = 2 ^ 128 - 1 - n % 2 ^ 128

pub high_half-of_halves : (high : ℤ) (low : ℕ) → low < 2 ^ 128 → high_half (of_halves high low) ≡ high
high_half-of_halves (pos high) low small = ap pos (omega arith)
high_half-of_halves (negsuc high) low small = ap negsuc (omega arith)

pub low_half-of_halves : (high : ℤ) (low : ℕ) → low < 2 ^ 128 → low_half (of_halves high low) ≡ low
low_half-of_halves (pos high) low small = omega arith
low_half-of_halves (negsuc high) low small = omega arith

-- the number as a sum
pub of_halves-sum : (high : ℤ) (low : ℕ) → low < 2 ^ 128 → of_halves high low ≡ high *ℤ pos (2 ^ 128) +ℤ pos low
of_halves-sum (pos high) low small = omega (arith, ints)
of_halves-sum (negsuc high) low small = omega (arith, ints)

pub FitsWide-of_halves : (high : ℤ) (low : ℕ) → FitsSigned w128 high → low < 2 ^ 128 → FitsWide (of_halves high low)
FitsWide-of_halves (pos high) low fits small = (omega (arith, ints), omega (arith, ints))
FitsWide-of_halves (negsuc high) low fits small = (omega (arith, ints), omega (arith, ints))

-- the higher word decides the order, and then the lower one
pub of_halves-above : (a b : ℤ) (m n : ℕ) → a <ℤ b → m < 2 ^ 128 → n < 2 ^ 128 → of_halves a m <ℤ of_halves b n
of_halves-above (pos a) (pos b) m n above small_m small_n = omega (arith, ints)
of_halves-above (pos a) (negsuc b) m n above small_m small_n = omega (arith, ints)
of_halves-above (negsuc a) (pos b) m n above small_m small_n = omega (arith, ints)
of_halves-above (negsuc a) (negsuc b) m n above small_m small_n = omega (arith, ints)

pub of_halves-beside : (a : ℤ) (m n : ℕ) → m < n → n < 2 ^ 128 → of_halves a m <ℤ of_halves a n
of_halves-beside (pos a) m n below small = omega (arith, ints)
of_halves-beside (negsuc a) m n below small = omega (arith, ints)

-- the bits of a number are those of its words
pub wide_bits-low : (high : ℤ) (low : ℕ) → FitsSigned w128 high → low < 2 ^ 128 → wide_bits (of_halves high low) % 2 ^ 128 ≡ low
wide_bits-low (pos high) low fits small = omega arith
wide_bits-low (negsuc high) low fits small = omega (arith, ints)

pub wide_bits-high : (high : ℤ) (low : ℕ) → FitsSigned w128 high → low < 2 ^ 128 → wide_bits (of_halves high low) / 2 ^ 128 ≡ cast_unsigned w128 high
wide_bits-high (pos high) low fits small = omega arith
wide_bits-high (negsuc high) low fits small = omega (arith, ints)

pub wide_number-halves : (high low : ℕ) → high < 2 ^ 128 → low < 2 ^ 128 → wide_number (low + 2 ^ 128 * high) ≡ of_halves (cast_signed w128 high) low
wide_number-halves high low fits small = grind (arith, nat_tests, ints)

-- the number of the two words that some bytes spell
pub wide_in-little : (bytes : List ℕ) (high low : ℕ) → high ≡ from_le_bytes w128 (drop 16 bytes) → low ≡ from_le_bytes w128 (take 16 bytes)
    → high < 2 ^ 128 → low < 2 ^ 128 → of_halves (cast_signed w128 high) low ≡ wide_number (wide_in true bytes)
wide_in-little bytes high low is_high is_low fits small =
    sym (wide_number-halves high low fits small) ∙ (λ i. wide_number (is_low i + 2 ^ 128 * is_high i))

pub wide_in-big : (bytes : List ℕ) (high low : ℕ) → high ≡ from_be_bytes w128 (take 16 bytes) → low ≡ from_be_bytes w128 (drop 16 bytes)
    → high < 2 ^ 128 → low < 2 ^ 128 → of_halves (cast_signed w128 high) low ≡ wide_number (wide_in false bytes)
wide_in-big bytes high low is_high is_low fits small =
    sym (wide_number-halves high low fits small) ∙ (λ i. wide_number (is_low i + 2 ^ 128 * is_high i))

-- the bytes of a number are those of its words
pub wide_bytes-little : (z high : ℤ) (low : ℕ) → of_halves high low ≡ z → FitsSigned w128 high → low < 2 ^ 128
    → to_le_bytes w128 low ++ to_le_bytes w128 (cast_unsigned w128 high) ≡ wide_bytes true (wide_bits z)
wide_bytes-little z high low is fits small =
    let lower : low ≡ wide_bits z % 2 ^ 128 = sym (wide_bits-low high low fits small) ∙ (λ i. wide_bits (is i) % 2 ^ 128) in
    let higher : cast_unsigned w128 high ≡ wide_bits z / 2 ^ 128 = sym (wide_bits-high high low fits small) ∙ (λ i. wide_bits (is i) / 2 ^ 128) in
    λ i. to_le_bytes w128 (lower i) ++ to_le_bytes w128 (higher i)

pub wide_bytes-big : (z high : ℤ) (low : ℕ) → of_halves high low ≡ z → FitsSigned w128 high → low < 2 ^ 128
    → to_be_bytes w128 (cast_unsigned w128 high) ++ to_be_bytes w128 low ≡ wide_bytes false (wide_bits z)
wide_bytes-big z high low is fits small =
    let lower : low ≡ wide_bits z % 2 ^ 128 = sym (wide_bits-low high low fits small) ∙ (λ i. wide_bits (is i) % 2 ^ 128) in
    let higher : cast_unsigned w128 high ≡ wide_bits z / 2 ^ 128 = sym (wide_bits-high high low fits small) ∙ (λ i. wide_bits (is i) / 2 ^ 128) in
    λ i. to_be_bytes w128 (higher i) ++ to_be_bytes w128 (lower i)
