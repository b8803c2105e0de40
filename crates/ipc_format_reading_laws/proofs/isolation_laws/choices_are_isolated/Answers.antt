use Rattle.ipc_format_reading_laws.proofs.Isolated.{choices_are_isolated}
use Rattle.ipc_format_reading_laws.proofs.isolation_laws.choices_are_isolated.Goals as goal

pub returns : goal.returns
returns c = choices_are_isolated
