-- All arrays were looked at.
use Rattle.tables_chunks.proofs.BatchLists.{whole_from}
use Rattle.tables_chunks.proofs.batches.is_whole.Goals as goal

pub returns : goal.returns
returns c =
    let items = c.arrays-array-items.result.now in
    whole_from c.args.batch.now items c.loop-array.array-index c.arrays-array-items.ensures c.loop-array-test.false c.loop-array.invariant
    c.whole.ensures
