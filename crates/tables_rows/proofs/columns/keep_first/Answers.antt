-- One column more is cut back.
use Rattle.std.proofs.Common.{◌<◌, length, arith}
use Rattle.tables_rows.proofs.CutBack.{one_more_cut}
use Rattle.tables_rows.proofs.columns.keep_first.Goals as goal

pub loop-place-preserved : goal.loop-place-preserved
loop-place-preserved c =
    let inside : c.loop-place.place < length c.args.columns.now.items = omega (arith, c.loop-place-test.true, c.requires.within) in
    one_more_cut c.loop-place.place c.args.held c.args.columns.now.items c.loop-place.columns.items c.index_mut.result.now inside
    c.loop-place.invariant c.index_mut.ensures.value c.truncate.new.self c.truncate.ensures
