use Rattle.ipc_format_laws.proofs.round_trip.schemas_read_back.Goals as goal
use Rattle.ipc_format_laws.proofs.SchemaMessages as messages

pub returns : goal.returns
returns c = record { all = messages.schemas_read_back; normal = messages.tables_schemas_read_back }
