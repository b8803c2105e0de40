use Rattle.std.proofs.Common.{◌<◌, arith, length}
use Rattle.nested_arrays_generic_builders.proofs.ListSlots.{mark_says}
use Rattle.nested_arrays_sized_builders.proofs.SizedColumns.{strings_count}
use Rattle.nested_arrays_sized_builders.proofs.SizedPushes.{are_counted, are_some}
use Rattle.nested_arrays_sized_builders.proofs.sized_strings.MutableFixedSizeBinaryArray.is_valid.Goals as goal

pub returns : goal.returns
returns c =
    let own = c.self.inside in
    let within = rw (← c.self.view_is) at c.requires in
    let count = strings_count own.data_type own.marks own.values.items (are_some c.self.invariant) (are_counted c.self.invariant) in
    let few : c.args.i < length own.marks = omega (arith, within, count) in
    rw (← c.self.view_is) (mark_says own.marks c.args.i c.is_valid.result few c.is_valid.ensures)
