use Rattle.ipc_format_reading_laws.proofs.FrontsTypes.{columns_read_at_fronts}
use Rattle.ipc_format_reading_laws.proofs.front_laws.columns_read_at_fronts.Goals as goal

pub returns : goal.returns
returns c = columns_read_at_fronts
