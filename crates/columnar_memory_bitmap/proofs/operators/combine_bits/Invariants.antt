use Rattle.std.proofs.Common.{◌≡◌, ℕ, ◌+◌, ◌*◌, ◌<◌, ◌≤◌, length, false, if◌then◌else◌, nat_lt}
use Rattle.columnar_memory_bits.specs.Bits.{bit_at}
use Rattle.columnar_memory_bitmap.specs.Operators.{table}
use Rattle.columnar_memory_bitmap.proofs.operators.combine_bits.Given as goal

abbrev pub invariant-loop-i : goal.invariant-loop-i
invariant-loop-i l =
    (length l.to.items ≡ length l.initial.to.items)
    × ((k : ℕ) → k < 8 * l.i →
    bit_at l.to.items k ≡ table l.operator (bit_at l.initial.to.items k) (if nat_lt k l.len then bit_at l.bytes (l.offset + k) else false))
    × ((k : ℕ) → 8 * l.i ≤ k → bit_at l.to.items k ≡ bit_at l.initial.to.items k)
