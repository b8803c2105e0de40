-- A choice is of the whole, which has one seal.
use Rattle.tables_rows.proofs.SealedTables.{choices_sealed}
use Rattle.tables_rows.proofs.laws.seals_of_choices_are_of_the_whole.Goals as goal

pub returns : goal.returns
returns c = choices_sealed c.choices_are_of_the_whole.ensures
