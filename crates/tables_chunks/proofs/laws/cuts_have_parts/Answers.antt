use Rattle.tables_chunks.proofs.CutBatches.{cuts_have_parts}
use Rattle.tables_chunks.proofs.laws.cuts_have_parts.Goals as goal

pub returns : goal.returns
returns c = cuts_have_parts
