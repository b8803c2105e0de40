use Rattle.std.proofs.Common.{◌-◌, arith, refl}
use Rattle.nested_arrays_sized_builders.proofs.FilledMarks.{mark_missing, mark_open, mark_there}
use Rattle.nested_arrays_sized_builders.proofs.filled_marks.filled_mark.Goals as goal

pub returns-then-place-missing : goal.returns-then-place-missing
returns-then-place-missing c = mark_missing c.args.missing c.args.more.now c.args._count c.args.place c.if-place-missing.true

pub returns-then-own-len : goal.returns-then-own-len
returns-then-own-len c =
    mark_there c.args.missing c.args.more.now c.args._count c.args.place (c.args.place - c.args.missing) c.is_valid.result
    (omega (arith, c.if-place-missing.false)) c.requires refl (omega (arith, c.if-own-len.true, c.len.ensures.value)) c.is_valid.ensures

pub returns : goal.returns
returns c =
    mark_open c.args.missing c.args.more.now c.args._count c.args.place (c.args.place - c.args.missing)
    (omega (arith, c.if-place-missing.false)) c.requires refl (omega (arith, c.if-own-len.false, c.len.ensures.value))
