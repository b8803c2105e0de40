use Rattle.ipc_format_reading_laws.proofs.table_laws.stored_files_read_back.Goals as goal
use Rattle.ipc_format_reading_laws.proofs.StoredTablesFiles as files
use Rattle.ipc_format_reading_laws.proofs.StoredTypes as types

pub returns : goal.returns
returns c = files.stored_files types.stored_columns_read_back
