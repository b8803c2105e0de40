use Rattle.ipc_format_reading_laws.proofs.append_laws.appended_files_read_back.Goals as goal
use Rattle.ipc_format_reading_laws.proofs.AppendedTables as files
use Rattle.ipc_format_reading_laws.proofs.StoredTypes as types

pub returns : goal.returns
returns c = files.appended_files types.stored_columns_read_back
