use Rattle.std.proofs.Common.{rules}
use Rattle.std.proofs.lemmas.Bool.Decides.{same_from_decides}
use Rattle.columnar_memory_types.specs.Equality.{same_type, same_type-Decides}
use Rattle.columnar_memory_types.proofs.equality.DataTypePartialEq.eq.Goals as goal

pub returns-clause-value : goal.returns-clause-value
returns-clause-value c =
    let x = c.args.self.now in
    let y = c.args.other.now in
    same_from_decides c.is_same_type.result (same_type x y) (search rules) (same_type-Decides x y)
