use Rattle.ipc_format_laws.proofs.spelling.laid_reads_back.Goals as goal
use Rattle.ipc_format_laws.proofs.Objects as objects

pub returns : goal.returns
returns c = objects.laid_reads_back
