-- A step for each number before.
use Rattle.std.proofs.Common.{◌≡◌, ◌+◌}
use Rattle.ipc_format_batch_reading.proofs.counted.count_taken.Given as goal

abbrev pub invariant-loop-k : goal.invariant-loop-k
invariant-loop-k l = l.steps.count ≡ l.initial.steps.count + l._k
