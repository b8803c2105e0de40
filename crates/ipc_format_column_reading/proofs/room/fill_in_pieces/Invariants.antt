-- No more bytes are there than are asked for.
use Rattle.std.proofs.Common.{◌-◌, ◌≤◌, length}
use Rattle.ipc_format_column_reading.proofs.room.fill_in_pieces.Given as goal

abbrev pub invariant-loop-device : goal.invariant-loop-device
invariant-loop-device g l = length l.into.items ≤ l.count

abbrev pub decreases-loop-device : goal.decreases-loop-device
decreases-loop-device g l = l.count - length l.into.items
