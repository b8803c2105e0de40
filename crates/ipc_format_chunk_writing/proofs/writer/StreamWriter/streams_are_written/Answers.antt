-- The law, for a writer's device.
use Rattle.ipc_format_chunk_writing.proofs.Runs.{streams_are_written}
use Rattle.ipc_format_chunk_writing.proofs.writer.StreamWriter.streams_are_written.Goals as goal

pub returns : goal.returns
returns g c = streams_are_written g.W.Write.contents g.W.Faults.failures g.W.Faults.in_memory
