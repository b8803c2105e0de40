use Rattle.std.proofs.Common.{◌≡◌, ◌∙◌, refl, sym, rules}
use Rattle.std.proofs.lemmas.Bool.Decides.{same_from_decides}
use Rattle.nested_arrays_parts.specs.columnar_memory.Equality.{same_type, same_type-Decides}
use Rattle.nested_arrays_parts.specs.columns.StoredColumns.{column_type}
use Rattle.nested_arrays_parts.proofs.flat_lemmas.SamePlaces.{equal_then}
use Rattle.nested_arrays_parts.specs.flat.SameArrays.{same_column, same_column-Decides}
use Rattle.nested_arrays_arrays.proofs.layouts.same_arrays.Goals as goal

pub returns-then-eq-clause-exact : goal.returns-then-eq-clause-exact
returns-then-eq-clause-exact g c =
    let a = g.A.CompareSlots.column c.args.left.now in
    let b = g.A.CompareSlots.column c.args.right.now in
    let same : c.eq.result ≡ same_type (column_type a) (column_type b) = search rules in
    equal_then a b (column_type a) (column_type b) refl refl ((same_type-Decides (column_type a) (column_type b)).0 (sym same ∙ c.if-eq.true))
    c.same_places.result c.same_places.ensures

pub returns-then-eq-clause-value : goal.returns-then-eq-clause-value
returns-then-eq-clause-value g c =
    let a = g.A.CompareSlots.column c.args.left.now in
    let b = g.A.CompareSlots.column c.args.right.now in
    same_from_decides c.same_places.result (same_column a b) (returns-then-eq-clause-exact g c) (same_column-Decides a b)
