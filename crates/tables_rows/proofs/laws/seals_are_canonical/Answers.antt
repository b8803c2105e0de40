-- Seals that tell tables apart are canonical.
use Rattle.tables_rows.proofs.CanonicalSeals.{canonical_from}
use Rattle.tables_rows.proofs.laws.seals_are_canonical.Goals as goal

pub returns : goal.returns
returns c = canonical_from c.seals_tell_tables_apart.ensures
