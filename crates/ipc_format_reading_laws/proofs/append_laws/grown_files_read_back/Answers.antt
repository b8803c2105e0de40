use Rattle.ipc_format_reading_laws.proofs.append_laws.grown_files_read_back.Goals as goal
use Rattle.ipc_format_reading_laws.proofs.GrownFiles as files
use Rattle.ipc_format_reading_laws.proofs.StoredTypes as types

pub returns : goal.returns
returns c = files.grown_files types.stored_columns_read_back
