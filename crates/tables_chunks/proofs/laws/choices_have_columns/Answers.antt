use Rattle.tables_chunks.proofs.ChosenBatches.{choices_have_columns}
use Rattle.tables_chunks.proofs.laws.choices_have_columns.Goals as goal

pub returns : goal.returns
returns c = choices_have_columns
