-- The law, for a writer's device.
use Rattle.ipc_format.proofs.WholeRuns.{runs_are_files}
use Rattle.ipc_format.proofs.writer.FileWriter.runs_are_files.Goals as goal

pub returns : goal.returns
returns g c = runs_are_files g.W.Write.contents g.W.Faults.failures g.W.Faults.in_memory
