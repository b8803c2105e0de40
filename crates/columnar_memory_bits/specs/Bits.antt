-- Booleans packed in bytes, the least significant bit of a byte first (Arrow columnar format, "Validity bitmaps").
use Rattle.std.specs.Prelude.{◌≡◌, ℕ, ◌+◌, ◌/◌, ◌%◌, ◌^◌, ◌≤◌, Bool, false, not, List, length, count_by, slice_index, ◌==◌}
use Rattle.columnar_memory_bits.specs.Windows.{window}

-- bit i of a number, the least significant first
unfoldable pub bit : ℕ → ℕ → Bool
bit n i = n / 2 ^ i % 2 == 1

-- bit i of some bytes, the least significant bit of a byte first; none is set behind the last byte
unfoldable pub bit_at : List ℕ → ℕ → Bool
bit_at bytes i = (slice_index bytes (i / 8) / 2 ^ (i % 8)) % 2 == 1

-- n bits of some bytes, from a first one on
abbrev pub bits_of : List ℕ → ℕ → ℕ → List Bool
bits_of bytes first n = window (bit_at bytes) first n

-- how many of some booleans are false
abbrev pub unset_count : List Bool → ℕ
unset_count bits = count_by not bits

-- how many bytes so many bits need
abbrev pub bytes_for : ℕ → ℕ
bytes_for n = (n + 7) / 8

-- These bytes are the n bits that they begin with and no more: as many bytes as these bits need, and the spare bits of the last byte
-- are zeros.
pub record IsPacked (bytes : List ℕ) (n : ℕ) : Type 0 where
  pub counted : length bytes ≡ bytes_for n
  pub zeros : (i : ℕ) → n ≤ i → bit_at bytes i ≡ false
