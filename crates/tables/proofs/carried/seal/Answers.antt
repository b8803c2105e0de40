-- The input, the seal and the output, one after another.
use Rattle.std.proofs.Common.{[], refl, rules}
use Rattle.std.specs.Prelude.{Err}
use Rattle.tables.specs.Command.{Asked, Seal}
use Rattle.tables.specs.Outcome.{CarriesOut}
use Rattle.tables.proofs.Carrying.{first_fails, seal_fails, seal_put}
use Rattle.tables.proofs.carried.seal.Goals as goal

pub returns-in_err-rows : goal.returns-in_err-rows
returns-in_err-rows g c =
    let failure = c.in_err-rows.field-0.0 in
    let asked : Asked = Seal c.args.size c.args.input.now c.args.output.now in
    let old = g.P.Places.contents c.args.places.now in
    let new = g.P.Places.contents c.read_input.new.places in
    let whole : CarriesOut (Err failure) asked old new =
    (first_fails failure asked old c.args.input.now [] refl c.in_err-rows.ensures.read, c.in_err-rows.ensures.kept) in
    search (rules, whole)

pub returns-in_err-bytes : goal.returns-in_err-bytes
returns-in_err-bytes g c =
    let failure = c.in_err-bytes.field-0.0 in
    let asked : Asked = Seal c.args.size c.args.input.now c.args.output.now in
    let old = g.P.Places.contents c.args.places.now in
    let new = g.P.Places.contents c.read_input.new.places in
    let whole : CarriesOut (Err failure) asked old new = (
      seal_fails failure c.args.size c.args.input.now c.args.output.now old c.in_ok-rows.rows c.in_ok-rows.ensures.read c.in_err-bytes.ensures,
      c.in_ok-rows.ensures.kept,
    ) in
    search (rules, whole)

pub returns : goal.returns
returns g c =
    let old = g.P.Places.contents c.args.places.now in
    let middle = g.P.Places.contents c.read_input.new.places in
    let new = g.P.Places.contents c.put_bytes.new.places in
    seal_put c.put_bytes.result c.args.size c.args.input.now c.args.output.now old middle new c.in_ok-rows.rows c.in_ok-bytes.bytes.items
    c.in_ok-rows.ensures.kept c.in_ok-rows.ensures.read c.in_ok-bytes.ensures c.put_bytes.ensures
