-- One cell more stands behind those of its column, or the columns are as they were.
use Rattle.std.proofs.Common.{rules, ◌≡◌, ◌∙◌, ℕ, ◌<◌, ◌≤◌, length, map, get_or, true, ap, arith}
use Rattle.std.proofs.lemmas.List.{length-map}
use Rattle.nested_arrays_cells.specs.parts.Open.{Open}
use Rattle.nested_arrays_cells.specs.parts.Scalars.{scalar_slot}
use Rattle.tables_rows.specs.Columns.{is_fitting, with_each, IsShort}
use Rattle.tables_rows.proofs.CutBack.{cut_again, none_each}
use Rattle.tables_rows.proofs.OpenRows.{each_count}
use Rattle.tables_rows.proofs.PushedCells.{all_fit, any_column, each_of_them, fits_there, is_short, more_of, no_shorter, one_more_each, slot_at}
use Rattle.tables_rows.proofs.pushing.push_each.Goals as goal

pub loop-place-init : goal.loop-place-init
loop-place-init c = record { grown = none_each c.args.columns.now.items; fitting = λ k d less. absurd (omega arith) }

pub push_at-requires-clause-within : goal.push_at-requires-clause-within
push_at-requires-clause-within c =
    let columns = c.args.columns.now.items in
    let count : length c.loop-place.columns.items ≡ length columns = ap length c.loop-place.invariant.grown ∙ each_count columns _ in
    omega (arith, c.loop-place-test.true, c.len-count.ensures, count)

pub push_at-requires-clause-long : goal.push_at-requires-clause-long
push_at-requires-clause-long c k d less =
    let columns = c.args.columns.now.items in
    no_shorter columns c.loop-place.columns.items (map scalar_slot c.args.row.now) c.loop-place.place c.args.held c.requires.even
    c.loop-place.invariant.grown k d less (omega (arith, c.loop-place-test.true, c.len-count.ensures))

pub returns-in_err-push_at : goal.returns-in_err-push_at
returns-in_err-push_at c =
    let columns = c.args.columns.now.items in
    let slots = map scalar_slot c.args.row.now in
    let k = c.loop-place.place in
    let inside : k < length columns = omega (arith, c.loop-place-test.true, c.len-count.ensures) in
    let many : length slots ≡ length columns = length-map c.args.row.now scalar_slot ∙ c.requires.wide in
    let is = slot_at scalar_slot c.args.row.now k c.index-row-place.result (omega (arith, inside, c.requires.wide)) c.index-row-place.is in
    let told = c.in_err-push_at.ensures any_column in
    let back : c.push_at.new.columns.items ≡ columns =
    cut_again k c.args.held columns c.loop-place.columns.items c.push_at.new.columns.items slots c.requires.even c.loop-place.invariant.grown
    told.0 in
    let short : IsShort columns slots c.in_err-push_at.field-0.0 =
    is_short columns c.loop-place.columns.items slots k (scalar_slot c.index-row-place.result) inside many c.loop-place.invariant.grown is any_column
    c.in_err-push_at.field-0.0 c.loop-place.invariant.fitting told.1 in
    search (rules, back, short)

pub loop-place-preserved : goal.loop-place-preserved
loop-place-preserved c =
    let columns = c.args.columns.now.items in
    let now = c.loop-place.columns.items in
    let slots = map scalar_slot c.args.row.now in
    let slot = scalar_slot c.index-row-place.result in
    let k = c.loop-place.place in
    let grown = c.loop-place.invariant.grown in
    let inside : k < length columns = omega (arith, c.loop-place-test.true, c.len-count.ensures) in
    let many : length slots ≡ length columns = length-map c.args.row.now scalar_slot ∙ c.requires.wide in
    let is = slot_at scalar_slot c.args.row.now k c.index-row-place.result (omega (arith, inside, c.requires.wide)) c.index-row-place.is in
    let told = c.in_ok-push_at.ensures any_column in
    record {
      grown = one_more_each columns now slots k slot inside many grown is any_column c.push_at.new.columns.items told.0;
      fitting = more_of (λ (j : ℕ) (d : Open). is_fitting (get_or (with_each columns slots) j d) ≡ true) k c.loop-place.invariant.fitting
          (λ d. fits_there columns now slots k slot inside many grown is d (c.in_ok-push_at.ensures d).1);
    }

pub returns : goal.returns
returns c =
    let columns = c.args.columns.now.items in
    let slots = map scalar_slot c.args.row.now in
    let k = c.loop-place.place in
    let many : length slots ≡ length columns = length-map c.args.row.now scalar_slot ∙ c.requires.wide in
    let done : length columns ≤ k = omega (arith, c.loop-place-test.false, c.len-count.ensures) in
    let ended : k ≤ length columns = omega (arith, c.loop-place.auto.place-end, c.len-count.ensures) in (
      each_of_them columns c.loop-place.columns.items slots k (omega (arith, many, done, ended)) c.loop-place.invariant.grown,
      all_fit (with_each columns slots) (λ j d less. c.loop-place.invariant.fitting j d (omega (arith, less, done, each_count columns slots))),
    )
