use Rattle.ipc_format_metadata.proofs.Numbers.{NumbersLeft}
use Rattle.ipc_format_metadata.proofs.layers.numbers_in.Given as goal

abbrev pub invariant-loop-k : goal.invariant-loop-k
invariant-loop-k l = NumbersLeft l.bytes l.vector.place l.vector.count l.numbers l.k
