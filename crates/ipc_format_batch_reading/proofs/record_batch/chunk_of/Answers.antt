-- Arrays of one length, and others.
use Rattle.ipc_format_batch_reading.proofs.ChunkReads.{as_long, unequal}
use Rattle.ipc_format_batch_reading.proofs.record_batch.chunk_of.Goals as goal

pub returns-in-Ok : goal.returns-in-Ok
returns-in-Ok c = (c.in-Ok.ensures.0, as_long c.args.arrays.items c.in-Ok.ensures.1)

pub returns : goal.returns
returns c = (tt, unequal c.args.arrays.items c.in-Err.ensures.1)
