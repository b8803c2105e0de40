-- A seal reads as its table, which has one seal.
use Rattle.tables_rows.proofs.SealedTables.{sealed_again}
use Rattle.tables_rows.proofs.laws.seals_are_sealed_again.Goals as goal

pub returns : goal.returns
returns c = sealed_again c.seals_read_back.ensures
