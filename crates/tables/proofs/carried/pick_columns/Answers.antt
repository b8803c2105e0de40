-- The choice that is read and the output, one after another.
use Rattle.std.proofs.Common.{◌≡◌, rules, tests}
use Rattle.std.specs.Prelude.{true, Err}
use Rattle.tables_rows.specs.chunks.Choices.{are_distinct}
use Rattle.tables.specs.Command.{Asked, Pick}
use Rattle.tables.specs.Outcome.{CarriesOut}
use Rattle.tables.proofs.Picking.{pick_fails, pick_put}
use Rattle.tables.proofs.carried.pick_columns.Goals as goal

pub returns-in_err-table : goal.returns-in_err-table
returns-in_err-table g c =
    let failure = c.in_err-table.field-0.0 in
    let columns = c.args.columns.now in
    let asked : Asked = Pick columns c.args.limit c.args.input.now c.args.output.now in
    let old = g.P.Places.contents c.args.places.now in
    let new = g.P.Places.contents c.read_picked.new.places in
    let distinct : are_distinct columns ≡ true = search (rules, tests) in
    let whole : CarriesOut (Err failure) asked old new =
    pick_fails failure columns c.args.limit c.args.input.now c.args.output.now old new distinct c.in_err-table.ensures.read
    c.in_err-table.ensures.kept in
    search (rules, whole)

pub returns : goal.returns
returns g c =
    let columns = c.args.columns.now in
    let old = g.P.Places.contents c.args.places.now in
    let middle = g.P.Places.contents c.read_picked.new.places in
    let new = g.P.Places.contents c.put_table.new.places in
    let distinct : are_distinct columns ≡ true = search (rules, tests) in
    pick_put c.put_table.result columns c.args.limit c.args.input.now c.args.output.now old middle new c.in_ok-table.table distinct
    c.in_ok-table.ensures.kept c.in_ok-table.ensures.read c.put_table.ensures
