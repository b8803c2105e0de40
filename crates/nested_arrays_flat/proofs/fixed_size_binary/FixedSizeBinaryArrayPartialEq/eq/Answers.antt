use Rattle.std.proofs.Common.{◌≡◌, ◌∙◌, ap, sym, rules}
use Rattle.std.proofs.lemmas.Bool.Decides.{same_from_decides}
use Rattle.flat_arrays_core.specs.columnar_memory.Equality.{same_type, same_type-Decides}
use Rattle.nested_arrays_columns.specs.StoredColumns.{column_type}
use Rattle.nested_arrays_flat.proofs.SamePlaces.{equal_then}
use Rattle.nested_arrays_flat.specs.SameArrays.{same_column, same_column-Decides}
use Rattle.nested_arrays_flat.proofs.fixed_size_binary.FixedSizeBinaryArrayPartialEq.eq.Goals as goal

pub returns-then-eq-clause-exact : goal.returns-then-eq-clause-exact
returns-then-eq-clause-exact c =
    let left = c.self.inside.data_type in
    let right = c.other.inside.data_type in
    let same : c.eq.result ≡ same_type left right = search rules in
    equal_then c.args.self.now c.args.other.now left right (ap column_type c.self.view_is) (ap column_type c.other.view_is)
    ((same_type-Decides left right).0 (sym same ∙ c.if-eq.true)) c.has_slots_of.result c.has_slots_of.ensures

pub returns-then-eq-clause-value : goal.returns-then-eq-clause-value
returns-then-eq-clause-value c =
    let a = c.args.self.now in
    let b = c.args.other.now in
    same_from_decides c.has_slots_of.result (same_column a b) (returns-then-eq-clause-exact c) (same_column-Decides a b)
