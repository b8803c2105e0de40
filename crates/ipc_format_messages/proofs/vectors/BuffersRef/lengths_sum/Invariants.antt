use Rattle.ipc_format_metadata.specs.flatbuffers.Views.{vector_of}
use Rattle.ipc_format_messages.proofs.Lengths.{IsLeft}
use Rattle.ipc_format_messages.proofs.vectors.BuffersRef.lengths_sum.Given as goal

abbrev pub invariant-loop-k : goal.invariant-loop-k
invariant-loop-k l = IsLeft l.self.bytes.now (vector_of l.self.vector) l.sum l.k
