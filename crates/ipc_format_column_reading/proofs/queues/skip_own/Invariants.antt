-- So many buffers as there were turns are off the front.
use Rattle.std.proofs.Common.{◌≡◌, ◌≤◌, length, drop}
use Rattle.ipc_format_column_reading.proofs.queues.skip_own.Given as goal

abbrev pub invariant-loop-k : goal.invariant-loop-k
invariant-loop-k l =
    (l._k ≤ length l.initial.buffers.items) × (l.buffers.items ≡ drop l._k l.initial.buffers.items)
