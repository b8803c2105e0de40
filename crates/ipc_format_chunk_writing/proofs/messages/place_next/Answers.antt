use Rattle.std.proofs.Common.{rules}
use Rattle.ipc_format_chunk_writing.proofs.PlacedBodies.{settles_placed}
use Rattle.ipc_format_chunk_writing.proofs.messages.place_next.Goals as goal

pub returns : goal.returns
returns c = settles_placed c.write.result _ _ _ _ _ _ _ _ _ (search rules) c.write.ensures
