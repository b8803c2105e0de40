-- Each array is that of its place.
use Rattle.std.proofs.Common.{◌≡◌, ◌∙◌, ◌<◌, ◌++◌, ◌∷◌, [], slice_index, get_or, length, sym, ap, rules}
use Rattle.ipc_format_batch_reading.proofs.ChosenSteps.{chosen_more, below_at}
use Rattle.ipc_format_batch_reading.proofs.projection.arrays_of.Goals as goal

pub loop-place-preserved : goal.loop-place-preserved
loop-place-preserved c =
    let ks = c.args.places.now in
    let i = c.loop-place.place-index in
    let all = c.args.all.now in
    let array = c.index-all-place.result in
    let below : slice_index ks i < length all = below_at (length all) ks i c.requires c.loop-place-test.true in
    let is : array ≡ get_or all (slice_index ks i) array = search rules in
    let pushed : c.push.new.self.items ≡ c.loop-place.arrays.items ++ array ∷ [] = search rules in
    pushed ∙ ap (λ xs. xs ++ array ∷ []) c.loop-place.invariant ∙ sym (chosen_more all ks i array c.loop-place-test.true below is)
