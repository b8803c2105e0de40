use Rattle.std.proofs.Common.{rules}
use Rattle.std.proofs.lemmas.Slice.Eq.{bytes_eq-Decides}
use Rattle.std.proofs.lemmas.Map.Lookups.{btree_map_eq-Decides}
use Rattle.columnar_memory_types.proofs.metadata.MetadataPartialEq.eq.Goals as goal

pub returns-clause-exact : goal.returns-clause-exact
returns-clause-exact c =
    let same = btree_map_eq-Decides bytes_eq-Decides bytes_eq-Decides c.self.inside.map c.other.inside.map c.eq.result c.eq.ensures in
    search (rules, same)
