use Rattle.std.proofs.Common.{◌∙◌, ap}
use Rattle.columnar_memory_types.specs.Pairs.{value_at}
use Rattle.columnar_memory_types.proofs.Lookups.{lookup-by_order}
use Rattle.columnar_memory_types.proofs.metadata.Metadata.get.Goals as goal

pub returns : goal.returns
returns c =
    c.get.ensures.value ∙ lookup-by_order c.args.key.now c.self.inside.map.entries ∙ ap (value_at c.args.key.now) c.self.view_is
