use Rattle.ipc_format_reading_laws.proofs.FrontsPartTypes.{columns_have_parts}
use Rattle.ipc_format_reading_laws.proofs.front_laws.columns_have_parts.Goals as goal

pub returns : goal.returns
returns c = columns_have_parts
