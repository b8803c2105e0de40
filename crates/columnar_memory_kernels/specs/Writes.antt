-- Bits of a word that are written over bits of bytes.
use Rattle.std.specs.Prelude.{◌≡◌, ℕ, ◌+◌, ◌<◌, ◌≤◌, List}
use Rattle.columnar_memory_bitmap.specs.bits.Bits.{bit, bit_at}

-- The new bytes have the first n bits of a word from a place on, and the old bits before and behind them.
pub record WritesWord (old new : List ℕ) (first word n : ℕ) : Type 0 where
  pub before : (i : ℕ) → i < first → bit_at new i ≡ bit_at old i
  pub written : (i : ℕ) → i < n → bit_at new (first + i) ≡ bit word i
  pub behind : (i : ℕ) → first + n ≤ i → bit_at new i ≡ bit_at old i
