-- One field more adds its bars.
use Rattle.std.proofs.Common.{◌≡◌, ◌∙◌, ◌+◌, ◌++◌, ◌∷◌, [], take, sym, ap}
use Rattle.std.proofs.lemmas.List.{take_more}
use Rattle.tables_rows.specs.Bars.{bars_in}
use Rattle.tables_rows.proofs.SchemaBars.{found_more}
use Rattle.tables_rows.proofs.bars.+bars.Goals as goal

pub bars_of_fields-loop-k-preserved : goal.bars_of_fields-loop-k-preserved
bars_of_fields-loop-k-preserved t c =
    let fields = c.args.fields.now in
    let field = c.index-fields-k.result in
    let more : take (c.loop-k.k + 1) fields ≡ take c.loop-k.k fields ++ field ∷ [] =
    take_more fields c.loop-k.k field c.loop-k-test.true ∙ ap (λ y. take c.loop-k.k fields ++ y ∷ []) (sym c.index-fields-k.is) in
    found_more (take (c.loop-k.k + 1) fields) (take c.loop-k.k fields) field (bars_in c.loop-k.all) (bars_in c.bars_of_field.result)
    (bars_in c.both-all.result) more c.loop-k.invariant c.bars_of_field.ensures c.both-all.ensures
