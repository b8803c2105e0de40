-- The tables so far are joined.
use Rattle.std.proofs.Common.{take}
use Rattle.tables.proofs.JoinedRows.{AreJoined}
use Rattle.tables.proofs.carried.join_of.Given as goal

abbrev pub invariant-loop-table : goal.invariant-loop-table
invariant-loop-table l = AreJoined l.first (take l.table-index l.others) l.joined
