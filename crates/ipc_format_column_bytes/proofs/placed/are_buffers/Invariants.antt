-- The numbers of the buffers that were looked at are signed.
use Rattle.std.proofs.Common.{take}
use Rattle.std.specs.List.{AllByRecursion}
use Rattle.ipc_format_column_bytes.specs.Placing.{IsSignedBuffer}
use Rattle.ipc_format_column_bytes.proofs.placed.are_buffers.Given as goal

abbrev pub invariant-loop-k : goal.invariant-loop-k
invariant-loop-k l = AllByRecursion IsSignedBuffer (take l.k l.buffers)
