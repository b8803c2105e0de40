use Rattle.ipc_format_batch_reading.proofs.ReadableSchemas as readable
use Rattle.ipc_format_batch_reading.proofs.laws.schemas_have_arrays.Goals as goal

pub returns : goal.returns
returns c = readable.schemas_have_arrays
