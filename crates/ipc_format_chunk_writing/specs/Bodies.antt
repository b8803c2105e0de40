-- Columns that stand in a body of their own.
use Rattle.std.specs.Prelude.{ℕ, List, length, pos}
use Rattle.ipc_format_batch_reading.specs.Bodies.{Parts, parts}
use Rattle.ipc_format_batch_reading.specs.reading.array_reading.column_writing.column_reading.column_bytes.declared.Placed.{Placed}

-- their nodes and buffers, and the body, behind which the next buffer begins
abbrev pub placed_in : Placed → List ℕ → Parts
placed_in placed body = parts placed.nodes.items placed.buffers.items body (pos (length body))
