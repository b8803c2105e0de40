use Rattle.std.proofs.Common.{◌+◌, ◌*◌, ◌≤◌, vec_len, vec_capacity}
use Rattle.columnar_memory_bits.specs.Bits.{bit_at, bytes_for}
use Rattle.columnar_memory_bits.specs.Appends.{AppendsBits}
use Rattle.columnar_memory_bits.proofs.append.extend_words.Given as goal

abbrev pub invariant-loop-k : goal.invariant-loop-k
invariant-loop-k l = record {
  added : AppendsBits l.initial.to.items l.to.items (8 * vec_len l.initial.to) (λ i. bit_at l.bytes (l.offset + i)) (64 * l.k);
  room : vec_len l.initial.to + bytes_for l.len ≤ vec_capacity l.to;
}
