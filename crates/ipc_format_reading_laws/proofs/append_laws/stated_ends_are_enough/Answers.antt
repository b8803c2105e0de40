use Rattle.ipc_format_reading_laws.proofs.append_laws.stated_ends_are_enough.Goals as goal
use Rattle.ipc_format_reading_laws.proofs.GrownFiles as files

pub returns : goal.returns
returns c = files.stated_ends
