-- Each column so far has its place.
use Rattle.tables_rows.proofs.RisingColumns.{ArePlaced}
use Rattle.tables_rows.proofs.order.order_of.Given as goal

abbrev pub invariant-loop-column : goal.invariant-loop-column
invariant-loop-column l = ArePlaced l.columns l.rising.items l.column-index l.places.items
