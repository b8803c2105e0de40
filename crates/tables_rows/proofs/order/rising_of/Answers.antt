-- A sorted copy has the same numbers.
use Rattle.tables_rows.proofs.RisingColumns.{copied}
use Rattle.tables_rows.proofs.order.rising_of.Goals as goal

pub returns : goal.returns
returns c =
    copied c.args.columns.now c.new-rising.result.items c.extend_from_slice.new.self.items c.sort_unstable.new.self.items
    c.new-rising.ensures.items c.in_ok-extend_from_slice.ensures.items c.sort_unstable.ensures.permutation c.sort_unstable.ensures.sorted
