use Rattle.std.proofs.Common.{◌≡◌, ◌+◌, ◌*◌}
use Rattle.columnar_memory_bits.specs.Bits.{bits_of}
use Rattle.columnar_memory_bits.proofs.Counts.{set_count}
use Rattle.columnar_memory_bits.proofs.count.count_zeros.Given as goal

abbrev pub invariant-loop-word : goal.invariant-loop-word
invariant-loop-word l = l.ones ≡ set_count (bits_of l.bytes l.offset (l.before + 64 * l.word-index))
