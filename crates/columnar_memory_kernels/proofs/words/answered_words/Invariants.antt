use Rattle.std.proofs.Common.{◌*◌, ◌-◌, ◌≤◌, min}
use Rattle.std.specs.Vec.{vec_capacity}
use Rattle.columnar_memory_bitmap.specs.bits.Bits.{bits_of, bytes_for, IsPacked}
use Rattle.columnar_memory_kernels.proofs.Wordwise.{IsAnswered}
use Rattle.columnar_memory_kernels.proofs.words.answered_words.Given as goal

abbrev pub invariant-loop-k : goal.invariant-loop-k
invariant-loop-k g l = record {
  room : bytes_for l.len ≤ vec_capacity l.out;
  packed : IsPacked l.out.items (64 * l.k);
  answered : IsAnswered (λ k y. g.F.Fn.post l.answer (64 * k, (min 64 (l.len - 64 * k), tt)) y) l.k (bits_of l.out.items 0 (64 * l.k));
}
