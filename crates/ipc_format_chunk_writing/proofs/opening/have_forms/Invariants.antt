-- The arrays that are left decide.
use Rattle.std.proofs.Common.{◌≡◌, drop}
use Rattle.ipc_format_chunk_writing.specs.Streams.{have_forms}
use Rattle.ipc_format_chunk_writing.proofs.opening.have_forms.Given as goal

abbrev pub invariant-loop-k : goal.invariant-loop-k
invariant-loop-k l = have_forms l.fields l.arrays ≡ have_forms (drop l.k l.fields) (drop l.k l.arrays)
