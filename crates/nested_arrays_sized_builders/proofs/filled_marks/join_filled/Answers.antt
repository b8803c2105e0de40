use Rattle.std.proofs.Common.{◌-◌, arith}
use Rattle.nested_arrays_sized_builders.proofs.FilledMarks.{filled_joined}
use Rattle.nested_arrays_sized_builders.proofs.filled_marks.join_filled.Goals as goal

pub returns : goal.returns
returns c =
    filled_joined c.args.marks.now c.args.more.now c.push_filled.new.marks c.args.lists c.args.count
    (c.args.lists - c.len.result) c.push_filled.result (omega (arith, c.len.ensures.value)) (omega (arith, c.if-lists-gt-MOST_SLOTS.false))
    c.push_filled.ensures
