use Rattle.std.proofs.Common.{◌*◌}
use Rattle.columnar_memory_kernels.specs.Writes.{WritesWord}
use Rattle.columnar_memory_kernels.proofs.write.write_word.Given as goal

abbrev pub invariant-loop-k : goal.invariant-loop-k
invariant-loop-k l = WritesWord l.fn.to l.to l.first l.word (8 * l.k)

abbrev pub invariant-loop-i : goal.invariant-loop-i
invariant-loop-i l = WritesWord l.fn.to l.to l.first l.word l.i
