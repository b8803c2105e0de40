-- The input, the cut and the output, one after another.
use Rattle.std.proofs.Common.{[], ◌∷◌, refl, rules}
use Rattle.std.specs.Prelude.{Err}
use Rattle.tables.specs.Command.{Asked, Cut}
use Rattle.tables.specs.Outcome.{CarriesOut, IsMade}
use Rattle.tables.proofs.Carrying.{cut_fails, cut_put, first_fails}
use Rattle.tables.proofs.carried.cut.Goals as goal

pub returns-in_err-table : goal.returns-in_err-table
returns-in_err-table g c =
    let failure = c.in_err-table.field-0.0 in
    let asked : Asked = Cut c.args.offset c.args.length c.args.input.now c.args.output.now in
    let old = g.P.Places.contents c.args.places.now in
    let new = g.P.Places.contents c.read_input.new.places in
    let whole : CarriesOut (Err failure) asked old new =
    (first_fails failure asked old c.args.input.now [] refl c.in_err-table.ensures.read, c.in_err-table.ensures.kept) in
    search (rules, whole)

pub returns-in_err-window : goal.returns-in_err-window
returns-in_err-window g c =
    let failure = c.in_err-window.field-0.0 in
    let asked : Asked = Cut c.args.offset c.args.length c.args.input.now c.args.output.now in
    let old = g.P.Places.contents c.args.places.now in
    let new = g.P.Places.contents c.read_input.new.places in
    let whole : CarriesOut (Err failure) asked old new = (
      cut_fails failure c.args.offset c.args.length c.args.input.now c.args.output.now old c.in_ok-table.table c.in_ok-table.ensures.read
          c.in_err-window.ensures,
      c.in_ok-table.ensures.kept,
    ) in
    search (rules, whole)

pub returns : goal.returns
returns g c =
    let asked : Asked = Cut c.args.offset c.args.length c.args.input.now c.args.output.now in
    let old = g.P.Places.contents c.args.places.now in
    let middle = g.P.Places.contents c.read_input.new.places in
    let new = g.P.Places.contents c.put_table.new.places in
    let made : IsMade asked old c.in_ok-window.window =
    record { tables = c.in_ok-table.table ∷ []; read = (c.in_ok-table.ensures.read, tt); makes = c.in_ok-window.ensures } in
    cut_put c.put_table.result c.args.offset c.args.length c.args.input.now c.args.output.now old middle new c.in_ok-window.window
    c.in_ok-table.ensures.kept made c.put_table.ensures
