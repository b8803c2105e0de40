use Rattle.std.proofs.Common.{◌≡◌, ℕ, ◌*◌, ◌<◌, ◌≤◌, not}
use Rattle.columnar_memory_bits.specs.Bits.{bit_at}
use Rattle.columnar_memory_bitmap.proofs.operators.invert_bytes.Given as goal

abbrev pub invariant-loop-i : goal.invariant-loop-i
invariant-loop-i l =
    ((k : ℕ) → k < 8 * l.i → bit_at l.bytes k ≡ not (bit_at l.initial.bytes k)) × ((k : ℕ) → 8 * l.i ≤ k →
    bit_at l.bytes k ≡ bit_at l.initial.bytes k)
