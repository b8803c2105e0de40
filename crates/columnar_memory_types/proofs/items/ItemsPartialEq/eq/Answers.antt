use Rattle.std.proofs.Common.{rules}
use Rattle.std.proofs.lemmas.Slice.Eq.{slice_eq-Decides}
use Rattle.columnar_memory_types.proofs.items.ItemsPartialEq.eq.Goals as goal

pub returns-clause-exact : goal.returns-clause-exact
returns-clause-exact g c = λ decides.
    let same = slice_eq-Decides decides c.self.inside.vec.items c.other.inside.vec.items c.eq.result c.eq.ensures in search (rules, same)
