use Rattle.ipc_format_laws.proofs.round_trip.footers_read_back.Goals as goal
use Rattle.ipc_format_laws.proofs.Footers as footers

pub returns : goal.returns
returns c = footers.footers_read_back
