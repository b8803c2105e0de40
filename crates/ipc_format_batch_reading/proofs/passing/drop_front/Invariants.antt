-- So many as there were turns are off the front.
use Rattle.std.proofs.Common.{◌≡◌, drop}
use Rattle.ipc_format_batch_reading.proofs.passing.drop_front.Given as goal

abbrev pub invariant-loop-k : goal.invariant-loop-k
invariant-loop-k g l = l.queue.items ≡ drop l._k l.initial.queue.items
