use Rattle.std.proofs.Common.{rules}
use Rattle.std.proofs.lemmas.Bool.Decides.{Decides-int_eq}
use Rattle.std.proofs.lemmas.Slice.Eq.{slice_eq-Decides}
use Rattle.columnar_memory_types.proofs.equality.are_same_ids.Goals as goal

pub returns-in-Some-Some : goal.returns-in-Some-Some
returns-in-Some-Some c =
    let same = slice_eq-Decides Decides-int_eq c.in-Some-Some.a c.in-Some-Some.b c.eq.result c.eq.ensures in search (rules, same)
