use Rattle.std.proofs.Common.{◌≡◌, ◌+◌}
use Rattle.columnar_memory_tests.proofs.indices.step_through.Given as goal

abbrev pub invariant-loop-byte : goal.invariant-loop-byte
invariant-loop-byte l = l.steps.count ≡ l.initial.steps.count + l._byte-index
