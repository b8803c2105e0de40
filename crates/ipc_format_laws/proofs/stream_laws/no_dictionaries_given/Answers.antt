use Rattle.ipc_format_laws.proofs.stream_laws.no_dictionaries_given.Goals as goal
use Rattle.ipc_format_laws.proofs.StreamTables as tables

pub returns : goal.returns
returns c = tables.no_dictionaries_given
