use Rattle.columnar_memory_types.proofs.TextLaws.{is_ascending-sorted}
use Rattle.columnar_memory_types.proofs.metadata.Metadata.whole.Goals as goal

pub returns-clause-ascending : goal.returns-clause-ascending
returns-clause-ascending c = is_ascending-sorted c.args.self.now c.iter-name-items.ensures.ordered
