use Rattle.ipc_format_reading_laws.proofs.seal_laws.seals_tell_tables_apart.Goals as goal
use Rattle.ipc_format_reading_laws.proofs.SealedTables as seals

pub returns : goal.returns
returns c = seals.seals_tell_tables_apart
