use Rattle.std.proofs.Common.{arith}
use Rattle.nested_arrays_nulls.proofs.arrays_lemmas.flat_lemmas.Offsets.{spans_count}
use Rattle.nested_arrays_generic_builders.proofs.lists.MutableListArray.len.Goals as goal

pub returns : goal.returns
returns g c =
    rw (← c.self.view_is) (omega (arith, c.len.ensures.value, c.self.invariant.counted, spans_count c.self.inside.offsets))
