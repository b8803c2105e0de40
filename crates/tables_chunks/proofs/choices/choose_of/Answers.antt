-- Each array is that of its place, and they are as long as those of the batch.
use Rattle.std.proofs.Common.{◌≡◌, ◌∙◌, ◌<◌, ◌++◌, ◌∷◌, [], slice_index, get_or, length, sym, ap, rules}
use Rattle.tables_chunks.proofs.ChoiceSteps.{chosen_more, below_at, choice_is_batch}
use Rattle.tables_chunks.proofs.choices.choose_of.Goals as goal

pub loop-column-preserved : goal.loop-column-preserved
loop-column-preserved c =
    let ks = c.args.columns.now in
    let i = c.loop-column.column-index in
    let all = c.arrays-all.result.now in
    let array = c.index-all-column.result in
    let inside : slice_index ks i < length c.args.batch.now = below_at (length c.args.batch.now) ks i c.requires c.loop-column-test.true in
    let below : slice_index ks i < length all = search rules in
    let is : array ≡ get_or all (slice_index ks i) array = search rules in
    let pushed : c.push.new.self.items ≡ c.loop-column.arrays.items ++ array ∷ [] = search rules in
    pushed ∙ ap (λ xs. xs ++ array ∷ []) c.loop-column.invariant ∙ sym (chosen_more all ks i array c.loop-column-test.true below is)

pub chunk_of-requires : goal.chunk_of-requires
chunk_of-requires c =
    choice_is_batch c.args.batch.now c.arrays-all.result.now c.loop-column.arrays.items c.args.columns.now c.loop-column.column-index
    c.arrays-all.ensures c.is_whole.ensures c.requires c.loop-column-test.false c.loop-column.invariant
