-- Changes of bits.
use Rattle.std.specs.Prelude.{◌≡◌, ℕ, Bool, List, ◌==◌, if◌then◌else◌}
use Rattle.columnar_memory_bits.specs.Bits.{bit_at}

-- bit i is written, and the others are as they were
abbrev pub Writes : List ℕ → List ℕ → ℕ → Bool → Type 0
Writes old new i value = (j : ℕ) → bit_at new j ≡ (if j == i then value else bit_at old j)
