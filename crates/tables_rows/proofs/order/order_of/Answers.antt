-- Each column is found among those that rise.
use Rattle.std.proofs.Common.{rules, ◌≡◌, ◌++◌, ◌∷◌, [], List, ℕ, Contains, Some, get_or, slice_get, sym, subst}
use Rattle.tables_rows.proofs.RisingColumns.{is_order, one_of_rising, one_placed}
use Rattle.tables_rows.proofs.order.order_of.Goals as goal

pub place_of-requires-clause-there : goal.place_of-requires-clause-there
place_of-requires-clause-there c =
    let columns = c.args.columns.now in
    let i = c.loop-column.column-index in
    subst (λ (xs : List ℕ). Contains xs (get_or columns i 0)) (sym c.as_slice.ensures.value)
    (one_of_rising columns c.in_ok-rising.rising.items i c.in_ok-rising.ensures c.loop-column-test.true)

pub loop-column-preserved : goal.loop-column-preserved
loop-column-preserved c =
    let columns = c.args.columns.now in
    let i = c.loop-column.column-index in
    let found : slice_get c.in_ok-rising.rising.items c.place_of.result ≡ Some (get_or columns i 0) =
    subst (λ (xs : List ℕ). slice_get xs c.place_of.result ≡ Some (get_or columns i 0)) c.as_slice.ensures.value c.place_of.ensures in
    let pushed : c.push.new.self.items ≡ c.loop-column.places.items ++ c.place_of.result ∷ [] = search rules in
    one_placed columns c.in_ok-rising.rising.items c.loop-column.places.items c.push.new.self.items i c.place_of.result c.loop-column.invariant
    c.loop-column-test.true found pushed

pub returns-clause-order : goal.returns-clause-order
returns-clause-order c =
    is_order c.args.width c.args.columns.now c.loop-column.column-index
    (record { rising = c.in_ok-rising.rising; places = c.loop-column.places }) c.requires.distinct c.requires.below c.in_ok-rising.ensures
    c.loop-column-test.false c.loop-column.invariant
