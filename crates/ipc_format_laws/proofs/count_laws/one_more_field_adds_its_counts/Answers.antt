use Rattle.ipc_format_laws.proofs.Counts.{next_numbers}
use Rattle.ipc_format_laws.proofs.count_laws.one_more_field_adds_its_counts.Goals as goal

pub returns : goal.returns
returns c = next_numbers
