use Rattle.std.proofs.Common.{◌<◌, arith, length}
use Rattle.nested_arrays_nulls.proofs.arrays_lemmas.flat_lemmas.Offsets.{spans_count}
use Rattle.nested_arrays_generic_builders.proofs.ListSlots.{mark_says}
use Rattle.nested_arrays_generic_builders.proofs.lists.MutableListArray.is_valid.Goals as goal

pub is_valid-requires : goal.is_valid-requires
is_valid-requires g c =
    let within = rw (← c.self.view_is) at c.requires in
    omega (arith, within, spans_count c.self.inside.offsets, c.self.invariant.counted)

pub returns : goal.returns
returns g c =
    let within = rw (← c.self.view_is) at c.requires in
    let few : c.args.i < length c.self.inside.marks = omega (arith, within, spans_count c.self.inside.offsets, c.self.invariant.counted) in
    rw (← c.self.view_is) (mark_says c.self.inside.marks c.args.i c.is_valid.result few c.is_valid.ensures)
