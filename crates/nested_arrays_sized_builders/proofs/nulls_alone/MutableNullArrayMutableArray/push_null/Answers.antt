use Rattle.std.proofs.Common.{arith}
use mathlib.Core.Logic.{inr}
use Rattle.nested_arrays_generic_builders.specs.nulls.columns.StoredColumns.{nulls}
use Rattle.nested_arrays_sized_builders.proofs.NullColumns.{null_full, null_more}
use Rattle.nested_arrays_generic_builders.proofs.OpenLists.{same_becomes}
use Rattle.nested_arrays_sized_builders.proofs.nulls_alone.MutableNullArrayMutableArray.push_null.Goals as goal

pub returns-then-self-eq-MOST_SLOTS-clause-column : goal.returns-then-self-eq-MOST_SLOTS-clause-column
returns-then-self-eq-MOST_SLOTS-clause-column c =
    let own = c.self.inside in
    rw (← c.self.view_is) (
      same_becomes (nulls own.data_type own.length),
      inr (tt, λ _. null_full own.data_type c.self.invariant.typed own.length (omega (arith, c.if-self-eq-MOST_SLOTS.true))),
    )

pub returns-clause-column : goal.returns-clause-column
returns-clause-column c =
    let own = c.self.inside in
    rw (← c.self.view_is)
    (null_more own.data_type c.self.invariant.typed own.length (omega (arith, c.self.invariant.few, c.if-self-eq-MOST_SLOTS.false)))
