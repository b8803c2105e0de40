use Rattle.ipc_format_batch_reading.proofs.StandingMessages as standing
use Rattle.ipc_format_batch_reading.proofs.laws.look_ups_are_enough.Goals as goal

pub returns : goal.returns
returns c = standing.look_ups_are_enough
