use Rattle.ipc_format_batch_reading.proofs.PutBackArrays as arrays
use Rattle.ipc_format_batch_reading.proofs.projection.choices_are_put_back.Goals as goal

pub returns : goal.returns
returns c = arrays.choices_are_put_back
