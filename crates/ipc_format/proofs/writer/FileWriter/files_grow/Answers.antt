-- The law, for a writer's device.
use Rattle.ipc_format.proofs.GrowthRuns.{files_grow}
use Rattle.ipc_format.proofs.writer.FileWriter.files_grow.Goals as goal

pub returns : goal.returns
returns g c = files_grow g.W.Write.contents g.W.Faults.failures g.W.Faults.in_memory
