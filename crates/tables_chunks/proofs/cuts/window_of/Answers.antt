-- The cuts of a batch's arrays are as long as each other.
use Rattle.tables_chunks.proofs.CutSteps.{cut_from}
use Rattle.tables_chunks.proofs.cuts.window_of.Goals as goal

pub chunk_of-requires : goal.chunk_of-requires
chunk_of-requires c =
    cut_from c.args.batch.now c.arrays-array-items.result.now c.loop-array.arrays.items c.args.offset c.args.count c.loop-array.array-index
    c.arrays-array-items.ensures c.is_whole.ensures c.requires.inside c.requires.some c.loop-array-test.false c.loop-array.invariant
