use Rattle.ipc_format_reading_laws.proofs.table_laws.stored_streams_read_back.Goals as goal
use Rattle.ipc_format_reading_laws.proofs.StoredTablesStreams as streams
use Rattle.ipc_format_reading_laws.proofs.StoredTypes as types

pub returns : goal.returns
returns c = streams.stored_streams types.stored_columns_read_back
