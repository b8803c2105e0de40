use Rattle.std.proofs.Common.{◌≡◌, ◌∙◌, sym, rules}
use Rattle.std.specs.Prelude.{◌==◌}
use Rattle.std.proofs.lemmas.Bool.Decides.{same_from_decides}
use Rattle.flat_arrays_core.specs.columnar_memory.Equality.{same_type, same_type-Decides}
use Rattle.nested_arrays_flat.proofs.SamePlaces.{nulls_same}
use Rattle.nested_arrays_flat.specs.SameArrays.{same_column, same_column-Decides}
use Rattle.nested_arrays_flat.proofs.null.NullArrayPartialEq.eq.Goals as goal

pub returns-then-eq-clause-exact : goal.returns-then-eq-clause-exact
returns-then-eq-clause-exact c =
    let left = c.self.inside.data_type in
    let right = c.other.inside.data_type in
    let same : c.eq.result ≡ same_type left right = search rules in
    nulls_same c.args.self.now c.args.other.now _ _ _ _ c.self.view_is c.other.view_is ((same_type-Decides left right).0 (sym same ∙ c.if-eq.true))

pub returns-then-eq-clause-value : goal.returns-then-eq-clause-value
returns-then-eq-clause-value c =
    let a = c.args.self.now in
    let b = c.args.other.now in
    same_from_decides (c.self.inside.length == c.other.inside.length) (same_column a b) (returns-then-eq-clause-exact c) (same_column-Decides a b)
