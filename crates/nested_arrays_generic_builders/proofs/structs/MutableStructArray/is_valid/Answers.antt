use Rattle.std.proofs.Common.{◌<◌, arith, length}
use Rattle.nested_arrays_generic_builders.proofs.ListSlots.{mark_says}
use Rattle.nested_arrays_generic_builders.proofs.structs.MutableStructArray.is_valid.Goals as goal

pub returns : goal.returns
returns c =
    let within = rw (← c.self.view_is) at c.requires in
    rw (← c.self.view_is) (mark_says c.self.inside.marks c.args.i c.is_valid.result within c.is_valid.ensures)
