use Rattle.std.proofs.Common.{◌≡◌, ◌∙◌, ◌<◌, ◌-◌, ◌++◌, ◌∷◌, [], ap, arith, length, true, Bool, List}
use Rattle.nested_arrays_sized_builders.proofs.SettledMarks.{filling_ends, filling_stopped, mark_more}
use Rattle.nested_arrays_sized_builders.proofs.fixed_lists.fill_marks.Goals as goal

pub returns-in-Err : goal.returns-in-Err
returns-in-Err c =
    let less : c.loop.counter < c.args.lists - length c.args.marks.now = omega (arith, c.loop-test.true, c.len.ensures.value) in
    filling_stopped c.args.marks.now c.loop.marks c.push.new.self c.loop.counter c.args.lists c.args.mark c.loop.invariant c.in-Err.error less
    c.in-Err.ensures.0 c.in-Err.ensures.1

pub loop-preserved : goal.loop-preserved
loop-preserved c =
    c.in-Ok.ensures.0 ∙ ap (λ (bits : List Bool). bits ++ true ∷ []) c.loop.invariant ∙ mark_more c.args.marks.now c.loop.counter

pub returns : goal.returns
returns c =
    let all : c.loop.counter ≡ c.args.lists - length c.args.marks.now = omega (arith, c.loop-test.false, c.len.ensures.value) in
    filling_ends c.args.marks.now c.loop.marks c.push-2.new.self c.loop.counter c.args.lists c.args.mark c.loop.invariant
    c.push-2.result c.requires all
    c.push-2.ensures
