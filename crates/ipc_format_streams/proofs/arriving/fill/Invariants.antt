-- What came stands behind what was there, and before room for the next piece.
use Rattle.std.proofs.Common.{◌-◌}
use Rattle.ipc_format_streams.proofs.Pieces.{Filled}
use Rattle.ipc_format_streams.proofs.arriving.fill.Given as goal

abbrev pub invariant-loop-filled : goal.invariant-loop-filled
invariant-loop-filled g l =
    Filled (g.R.Read.remaining l.initial.reader) (g.R.Read.remaining l.reader) l.initial.into.items l.into.items l.filled l.count

abbrev pub decreases-loop-filled : goal.decreases-loop-filled
decreases-loop-filled g l = l.count - l.filled
