-- Each field is that of its place.
use Rattle.std.proofs.Common.{◌≡◌, ◌∙◌, ◌<◌, ◌++◌, ◌∷◌, [], slice_index, get_or, length, sym, ap, rules}
use Rattle.ipc_format_batch_reading.proofs.ChosenSteps.{chosen_more, below_at}
use Rattle.ipc_format_batch_reading.proofs.projection.fields_of.Goals as goal

pub loop-column-preserved : goal.loop-column-preserved
loop-column-preserved c =
    let ks = c.args.columns.now in
    let i = c.loop-column.column-index in
    let fields = c.args.fields.now in
    let field = c.index-fields-column.result in
    let below : slice_index ks i < length fields = below_at (length fields) ks i c.requires c.loop-column-test.true in
    let is : field ≡ get_or fields (slice_index ks i) field = search rules in
    let pushed : c.push.new.self.items ≡ c.loop-column.asked.items ++ field ∷ [] = search rules in
    pushed ∙ ap (λ xs. xs ++ field ∷ []) c.loop-column.invariant ∙ sym (chosen_more fields ks i field c.loop-column-test.true below is)
