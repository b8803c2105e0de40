use Rattle.std.proofs.lemmas.Bool.Decides.{same_from_decides}
use Rattle.nested_arrays_parts.specs.flat.SameArrays.{same_column, same_column-Decides}
use Rattle.nested_arrays_arrays.proofs.equality.AnyArrayPartialEq.eq.Goals as goal

pub returns-clause-value : goal.returns-clause-value
returns-clause-value c =
    let a = c.args.self.now in
    let b = c.args.other.now in
    same_from_decides c.equal.result (same_column a b) c.equal.ensures (same_column-Decides a b)
