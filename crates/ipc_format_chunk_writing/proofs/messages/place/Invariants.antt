-- The columns before a place are placed.
use Rattle.std.proofs.Common.{◌≡◌}
use Rattle.ipc_format_chunk_writing.specs.Bodies.{placed_in}
use Rattle.ipc_format_chunk_writing.proofs.PlacedBodies.{placed_before}
use Rattle.ipc_format_chunk_writing.proofs.messages.place.Given as goal

abbrev pub invariant-loop-array : goal.invariant-loop-array
invariant-loop-array l = placed_in l.placed l.body.items ≡ placed_before l.arrays l.array-index
