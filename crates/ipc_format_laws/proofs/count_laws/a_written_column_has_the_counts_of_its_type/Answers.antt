use Rattle.ipc_format_laws.proofs.Counts.{column_counts}
use Rattle.ipc_format_laws.proofs.count_laws.a_written_column_has_the_counts_of_its_type.Goals as goal

pub returns : goal.returns
returns c = column_counts
