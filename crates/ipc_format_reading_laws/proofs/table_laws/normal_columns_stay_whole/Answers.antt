use Rattle.ipc_format_reading_laws.proofs.table_laws.normal_columns_stay_whole.Goals as goal
use Rattle.ipc_format_reading_laws.proofs.NormalColumnsKept as kept

pub returns : goal.returns
returns c = kept.normal_columns_stay_whole
