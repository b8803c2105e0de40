use Rattle.ipc_format_laws.proofs.Texts.{schemas_read_have_texts}
use Rattle.ipc_format_laws.proofs.column_laws.schemas_that_are_read_have_texts.Goals as goal

pub returns : goal.returns
returns c = schemas_read_have_texts
