-- So many zeros are written as are no more left.
use Rattle.std.proofs.Common.{◌-◌, ◌≤◌, replicate}
use Rattle.std.specs.Io.KnownBytes.{Appends}
use Rattle.ipc_format.proofs.sending.put_zeros.Given as goal

abbrev pub invariant-loop-left : goal.invariant-loop-left
invariant-loop-left g l =
    (l.left ≤ l.fn.count)
    × Appends (g.W.Write.contents l.initial.writer) (g.W.Write.contents l.writer) (replicate (l.fn.count - l.left) 0)

abbrev pub decreases-loop-left : goal.decreases-loop-left
decreases-loop-left g l = l.left
