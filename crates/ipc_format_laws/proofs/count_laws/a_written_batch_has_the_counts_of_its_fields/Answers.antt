use Rattle.ipc_format_laws.proofs.Counts.{batch_counts}
use Rattle.ipc_format_laws.proofs.count_laws.a_written_batch_has_the_counts_of_its_fields.Goals as goal

pub returns : goal.returns
returns c = batch_counts
