-- The columns are those that the word names.
use Rattle.std.proofs.Common.{◌≡◌, ◌∙◌, ℕ, List, subst}
use Rattle.tables.specs.Command.{Pick}
use Rattle.tables.specs.Outcome.{CarriesOut}
use Rattle.tables.proofs.carried.pick.Goals as goal

pub returns : goal.returns
returns g c =
    let old = g.P.Places.contents c.args.places.now in
    let new = g.P.Places.contents c.pick_columns.new.places in
    subst (λ (columns : List ℕ). CarriesOut c.pick_columns.result (Pick columns c.args.limit c.args.input.now c.args.output.now) old new)
    (c.deref.ensures.value ∙ c.in-Ok.ensures) c.pick_columns.ensures
