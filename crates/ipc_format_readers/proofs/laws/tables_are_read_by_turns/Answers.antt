-- There are arrays of each type of a schema that is read.
use Rattle.ipc_format_readers.proofs.TurnTables as turns
use Rattle.ipc_format_readers.proofs.laws.tables_are_read_by_turns.Goals as goal

pub returns : goal.returns
returns c = turns.tables_are_read_by_turns c.schemas_have_arrays.ensures
