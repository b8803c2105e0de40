use Rattle.std.proofs.Common.{◌∙◌, arith, sym}
use Rattle.nested_arrays_arrays.proofs.ListRuns.{runs_begin, runs_more}
use Rattle.nested_arrays_arrays.proofs.list_runs.run_len.Goals as goal

pub loop-k-init : goal.loop-k-init
loop-k-init c = runs_begin c.args.left.now c.args.right.now c.args.i c.args.j c.requires.left_sound c.requires.right_sound
    (omega (arith, c.bounds-start.ensures.start, c.bounds-start.ensures.ordered, c.bounds-start.ensures.within))
    (omega (arith, c.bounds.ensures.start, c.bounds.ensures.ordered, c.bounds.ensures.within))

pub loop-k-preserved : goal.loop-k-preserved
loop-k-preserved c =
    let here = c.bounds-first.ensures in
    let there = c.bounds-other_first.ensures in
    runs_more c.args.left.now c.args.right.now c.args.i c.args.j c.loop-k.k c.loop-k.len c.bounds-first.result.0 c.bounds-first.result.1
    c.bounds-other_first.result.0 c.bounds-other_first.result.1 c.bounds-start.result.0 c.loop-k.invariant c.bounds-start.ensures.start
    c.requires.left_sound c.requires.right_sound (omega (arith, c.loop-k-test.true, c.requires.left_within))
    (omega (arith, c.loop-k-test.true, c.requires.right_within)) (sym c.is_list.ensures ∙ c.if-not-is_list.false)
    (sym c.is_list-in-loop-k.ensures ∙ c.if-not-is_list-2.false) here.start here.stop here.ordered here.within there.start there.stop
    there.ordered there.within c.if-stop-first.false
