-- The first input, the others, the join and the output, one after another.
use Rattle.std.proofs.Common.{◌∷◌, List, ℕ, map, refl, rules, subst}
use Rattle.std.specs.Prelude.{Err, Ok}
use Rattle.std.specs.String.{string_bytes}
use Rattle.tables_rows.specs.chunks.StoredTables.{Stored}
use Rattle.tables.specs.Command.{Asked, Join}
use Rattle.tables.specs.Made.{MakesJoin}
use Rattle.tables.specs.Outcome.{CarriesOut, IsMade}
use Rattle.tables.proofs.Carrying.{first_fails, input_failure_before, join_fails, join_put, keeps_both, later_fails, tables_before}
use Rattle.tables.proofs.carried.join.Goals as goal

pub returns-in_err-table : goal.returns-in_err-table
returns-in_err-table g c =
    let failure = c.in_err-table.field-0.0 in
    let names : List (List ℕ) = map string_bytes c.args.others.now in
    let asked : Asked = Join c.args.output.now c.args.first.now names in
    let old = g.P.Places.contents c.args.places.now in
    let new = g.P.Places.contents c.read_input.new.places in
    let whole : CarriesOut (Err failure) asked old new =
    (first_fails failure asked old c.args.first.now names refl c.in_err-table.ensures.read, c.in_err-table.ensures.kept) in
    search (rules, whole)

pub returns-in_err-tables : goal.returns-in_err-tables
returns-in_err-tables g c =
    let failure = c.in_err-tables.field-0.0 in
    let names : List (List ℕ) = map string_bytes c.args.others.now in
    let asked : Asked = Join c.args.output.now c.args.first.now names in
    let old = g.P.Places.contents c.args.places.now in
    let middle = g.P.Places.contents c.read_input.new.places in
    let new = g.P.Places.contents c.read_inputs.new.places in
    let kept = c.in_ok-table.ensures.kept in
    let why = input_failure_before failure old middle names kept c.in_err-tables.ensures.read in
    let whole : CarriesOut (Err failure) asked old new = (
      later_fails failure asked old c.args.first.now names c.in_ok-table.table refl c.in_ok-table.ensures.read why,
      keeps_both old middle new kept c.in_err-tables.ensures.kept,
    ) in
    search (rules, whole)

pub returns-in_err-joined : goal.returns-in_err-joined
returns-in_err-joined g c =
    let failure = c.in_err-joined.field-0.0 in
    let names : List (List ℕ) = map string_bytes c.args.others.now in
    let asked : Asked = Join c.args.output.now c.args.first.now names in
    let old = g.P.Places.contents c.args.places.now in
    let middle = g.P.Places.contents c.read_input.new.places in
    let new = g.P.Places.contents c.read_inputs.new.places in
    let kept = c.in_ok-table.ensures.kept in
    let table = c.in_ok-table.table in
    let others = c.in_ok-tables.tables.items in
    let held = tables_before old middle names others kept c.in_ok-tables.ensures.read in
    let why = subst (λ (tables : List Stored). MakesJoin (Err failure) table tables) c.deref.ensures.value c.in_err-joined.ensures in
    let whole : CarriesOut (Err failure) asked old new = (
      join_fails failure c.args.output.now c.args.first.now names old table others c.in_ok-table.ensures.read held why,
      keeps_both old middle new kept c.in_ok-tables.ensures.kept,
    ) in
    search (rules, whole)

pub returns : goal.returns
returns g c =
    let names : List (List ℕ) = map string_bytes c.args.others.now in
    let asked : Asked = Join c.args.output.now c.args.first.now names in
    let old = g.P.Places.contents c.args.places.now in
    let first = g.P.Places.contents c.read_input.new.places in
    let middle = g.P.Places.contents c.read_inputs.new.places in
    let new = g.P.Places.contents c.put_table.new.places in
    let kept = c.in_ok-table.ensures.kept in
    let table = c.in_ok-table.table in
    let others = c.in_ok-tables.tables.items in
    let joined = c.in_ok-joined.joined in
    let held = tables_before old first names others kept c.in_ok-tables.ensures.read in
    let makes = subst (λ (tables : List Stored). MakesJoin (Ok joined) table tables) c.deref.ensures.value c.in_ok-joined.ensures in
    let made : IsMade asked old joined =
    record { tables = table ∷ others; read = (c.in_ok-table.ensures.read, held); makes = makes } in
    join_put c.put_table.result c.args.output.now c.args.first.now names old middle new joined
    (keeps_both old first middle kept c.in_ok-tables.ensures.kept) made c.put_table.ensures
