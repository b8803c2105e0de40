-- Where nothing keeps a table from being sealed, only memory does.
use Rattle.tables_rows.proofs.SealedTables.{sealable_are_sealed}
use Rattle.tables_rows.proofs.laws.sealable_tables_are_sealed.Goals as goal

pub returns : goal.returns
returns c = sealable_are_sealed
