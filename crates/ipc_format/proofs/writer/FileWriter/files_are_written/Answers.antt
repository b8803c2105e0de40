-- The law, for a writer's device.
use Rattle.ipc_format.proofs.Runs.{files_are_written}
use Rattle.ipc_format.proofs.writer.FileWriter.files_are_written.Goals as goal

pub returns : goal.returns
returns g c = files_are_written g.W.Write.contents g.W.Faults.failures g.W.Faults.in_memory
