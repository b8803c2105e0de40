use Rattle.std.proofs.Common.{◌≤◌, length, arith}
use Rattle.nested_arrays_generic_builders.proofs.ListLengths.{all_added, none_added, one_added, one_refused}
use Rattle.nested_arrays_generic_builders.proofs.lengths.push_lists.Goals as goal

pub loop-length-init : goal.loop-length-init
loop-length-init g c = none_added c.args.marks.now c.args.offsets.now c.args.lengths.now c.args.held

pub loop-length-preserved : goal.loop-length-preserved
loop-length-preserved g c =
    one_added c.args.marks.now c.args.offsets.now c.args.lengths.now c.args.held c.loop-length.length-index c.loop-length-test.true
    c.loop-length.marks c.loop-length.offsets c.loop-length.invariant c.push_length.new.marks c.push_length.new.offsets c.in-Ok.ensures.0
    c.in-Ok.ensures.1 c.in-Ok.ensures.2

pub returns-in-Err : goal.returns-in-Err
returns-in-Err g c =
    one_refused c.args.marks.now c.args.offsets.now c.args.lengths.now c.args.held c.loop-length.length-index c.loop-length-test.true
    c.loop-length.marks c.loop-length.offsets c.loop-length.invariant g.O.Index.greatest c.in-Err.error c.push_length.new.marks
    c.push_length.new.offsets c.in-Err.ensures.0 c.in-Err.ensures.1 c.in-Err.ensures.2

pub returns : goal.returns
returns g c =
    let all : length c.args.lengths.now ≤ c.loop-length.length-index = omega (arith, c.loop-length-test.false) in
    all_added c.args.marks.now c.args.offsets.now c.args.lengths.now c.args.held c.loop-length.length-index all c.loop-length.marks
    c.loop-length.offsets c.loop-length.invariant
