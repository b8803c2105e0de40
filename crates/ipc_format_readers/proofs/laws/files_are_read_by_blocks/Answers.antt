-- There are arrays of each type of a schema that is read.
use Rattle.ipc_format_readers.proofs.BlockRuns as runs
use Rattle.ipc_format_readers.proofs.laws.files_are_read_by_blocks.Goals as goal

pub returns : goal.returns
returns c = runs.files_are_read_by_blocks c.schemas_have_arrays.ensures
