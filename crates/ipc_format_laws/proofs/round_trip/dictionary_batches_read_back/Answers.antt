use Rattle.ipc_format_laws.proofs.round_trip.dictionary_batches_read_back.Goals as goal
use Rattle.ipc_format_laws.proofs.BatchMessages as batches

pub returns : goal.returns
returns c = batches.dictionary_batches_read_back
