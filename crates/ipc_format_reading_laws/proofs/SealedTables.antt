-- Seals read back, and tell tables apart.
use Rattle.ipc_format_reading_laws.specs.SealLaws.{SealsReadBack, SealsTellTablesApart}
use Rattle.ipc_format_reading_laws.proofs.SealedStreams.{seals_read_back_from, seals_tell_apart_from}
use Rattle.ipc_format_reading_laws.proofs.StoredTablesStreams.{stored_streams}
use Rattle.ipc_format_reading_laws.proofs.StoredTypes.{stored_columns_read_back}

pub seals_read_back : SealsReadBack
seals_read_back = seals_read_back_from (stored_streams stored_columns_read_back)

pub seals_tell_tables_apart : SealsTellTablesApart
seals_tell_tables_apart = seals_tell_apart_from seals_read_back
