use Rattle.ipc_format_reading_laws.proofs.NormalTypes.{normal_types_read}
use Rattle.ipc_format_reading_laws.proofs.normal_laws.normalised_types_read_the_same_slots.Goals as goal

pub returns : goal.returns
returns c = normal_types_read
