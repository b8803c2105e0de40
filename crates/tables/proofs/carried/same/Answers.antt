-- Both inputs are read, and compared.
use Rattle.std.proofs.Common.{[], ◌∷◌, refl, rules}
use Rattle.std.specs.Prelude.{Err}
use Rattle.tables.specs.Command.{Asked, Same}
use Rattle.tables.specs.Outcome.{AreSame, CarriesOut}
use Rattle.tables.proofs.Carrying.{first_fails, keeps_both, not_same, read_failure_before, second_fails, table_before}
use Rattle.tables.proofs.carried.same.Goals as goal

pub returns-in_err-first : goal.returns-in_err-first
returns-in_err-first g c =
    let failure = c.in_err-first.field-0.0 in
    let asked : Asked = Same c.args.left.now c.args.right.now in
    let old = g.P.Places.contents c.args.places.now in
    let new = g.P.Places.contents c.read_input.new.places in
    let whole : CarriesOut (Err failure) asked old new =
    (first_fails failure asked old c.args.left.now (c.args.right.now ∷ []) refl c.in_err-first.ensures.read, c.in_err-first.ensures.kept) in
    search (rules, whole)

pub returns-in_err-second : goal.returns-in_err-second
returns-in_err-second g c =
    let failure = c.in_err-second.field-0.0 in
    let left = c.args.left.now in
    let right = c.args.right.now in
    let old = g.P.Places.contents c.args.places.now in
    let middle = g.P.Places.contents c.read_input.new.places in
    let new = g.P.Places.contents c.read_input-2.new.places in
    let kept = c.in_ok-first.ensures.kept in
    let why = read_failure_before failure old middle right kept c.in_err-second.ensures.read in
    let whole : CarriesOut (Err failure) (Same left right) old new = (
      second_fails failure left right old c.in_ok-first.first c.in_ok-first.ensures.read why,
      keeps_both old middle new kept c.in_err-second.ensures.kept,
    ) in
    search (rules, whole)

pub returns-in-Ok-true : goal.returns-in-Ok-true
returns-in-Ok-true g c =
    let old = g.P.Places.contents c.args.places.now in
    let middle = g.P.Places.contents c.read_input.new.places in
    let new = g.P.Places.contents c.read_input-2.new.places in
    let kept = c.in_ok-first.ensures.kept in
    let first = c.in_ok-first.first in
    let second = c.in_ok-second.second in
    let held = table_before old middle c.args.right.now second kept c.in_ok-second.ensures.read in
    let alike : AreSame first second = c.in-Ok-true.ensures.0 c.in-Ok-true.field-0-test in
    ((first, second, (c.in_ok-first.ensures.read, (held, tt)), alike), keeps_both old middle new kept c.in_ok-second.ensures.kept)

pub returns-in-Ok-false : goal.returns-in-Ok-false
returns-in-Ok-false g c =
    let old = g.P.Places.contents c.args.places.now in
    let middle = g.P.Places.contents c.read_input.new.places in
    let new = g.P.Places.contents c.read_input-2.new.places in
    let kept = c.in_ok-first.ensures.kept in
    let first = c.in_ok-first.first in
    let second = c.in_ok-second.second in
    let held = table_before old middle c.args.right.now second kept c.in_ok-second.ensures.read in
    let differ = not_same c.in-Ok-false.field-0 (AreSame first second) c.in-Ok-false.ensures c.in-Ok-false.field-0-test in
    ((first, second, (c.in_ok-first.ensures.read, (held, tt)), differ), keeps_both old middle new kept c.in_ok-second.ensures.kept)
