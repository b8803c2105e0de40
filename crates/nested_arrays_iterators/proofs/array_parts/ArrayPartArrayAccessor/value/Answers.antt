use Rattle.std.proofs.Common.{◌∙◌, arith}
use Rattle.nested_arrays_iterators.proofs.ReadSlots.{part_len, part_slot}
use Rattle.nested_arrays_iterators.proofs.array_parts.ArrayPartArrayAccessor.value.Goals as goal

pub overflow_add-self-inside : goal.overflow_add-self-inside
overflow_add-self-inside c =
    let it = c.self.inside in
    omega (
      arith,
      c.requires,
      c.self.invariant.1,
      part_len c.args.self.now it.array.now it.start it.count c.self.view_is c.whole.ensures c.self.invariant.0,
    )

pub new-requires : goal.new-requires
new-requires c =
    let it = c.self.inside in
    (part_slot c.args.self.now it.array.now it.start it.count c.args.index c.self.view_is c.whole.ensures c.self.invariant.0 c.requires).0

pub returns : goal.returns
returns c =
    let it = c.self.inside in
    c.new.ensures
    ∙ (part_slot c.args.self.now it.array.now it.start it.count c.args.index c.self.view_is c.whole.ensures c.self.invariant.0 c.requires).1
