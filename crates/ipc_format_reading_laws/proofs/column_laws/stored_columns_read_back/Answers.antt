use Rattle.ipc_format_reading_laws.proofs.StoredTypes.{stored_columns_read_back}
use Rattle.ipc_format_reading_laws.proofs.column_laws.stored_columns_read_back.Goals as goal

pub returns : goal.returns
returns c = stored_columns_read_back
