-- Bits that are added behind packed bits (Arrow columnar format, "Validity bitmaps").
use Rattle.std.specs.Prelude.{◌≡◌, ℕ, ◌+◌, ◌<◌, ◌≤◌, Bool, false, List, length}
use Rattle.columnar_memory_bits.specs.Bits.{bit_at, bytes_for}

-- The new bytes have the first bits that the old ones held, then n values of a function, then zeros to the end of the last byte.
pub record AppendsBits (old new : List ℕ) (held : ℕ) (more : ℕ → Bool) (n : ℕ) : Type 0 where
  pub counted : length new ≡ bytes_for (held + n)
  pub before : (i : ℕ) → i < held → bit_at new i ≡ bit_at old i
  pub added : (i : ℕ) → i < n → bit_at new (held + i) ≡ more i
  pub zeros : (i : ℕ) → held + n ≤ i → bit_at new i ≡ false

-- The new bytes have the first n bits of the old ones, and zeros to the end of the last byte.
pub record KeepsBits (old new : List ℕ) (n : ℕ) : Type 0 where
  pub counted : length new ≡ bytes_for n
  pub before : (i : ℕ) → i < n → bit_at new i ≡ bit_at old i
  pub zeros : (i : ℕ) → n ≤ i → bit_at new i ≡ false
