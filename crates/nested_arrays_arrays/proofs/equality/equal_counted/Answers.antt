use Rattle.std.proofs.Common.{◌≡◌, ◌∙◌, ap, arith, sym}
use Rattle.std.proofs.lemmas.Bool.{false≢true}
use Rattle.nested_arrays_arrays.proofs.SameSlots.{all_nodes, slots_count, slots_same}
use Rattle.nested_arrays_parts.specs.columns.StoredColumns.{column_len}
use Rattle.nested_arrays_parts.specs.Ranges.{range_nodes}
use Rattle.nested_arrays_arrays.proofs.equality.equal_counted.Goals as goal

pub returns-then-count-len-clause-same : goal.returns-then-count-len-clause-same
returns-then-count-len-clause-same c = (
  λ is. absurd (false≢true is),
  λ equal. absurd (c.if-count-len.true (c.len-count.ensures ∙ slots_count c.args.left.now c.args.right.now equal.slots ∙ sym c.len.ensures)),
)

pub returns-clause-same : goal.returns-clause-same
returns-clause-same c =
    let both = slots_same c.args.left.now c.args.right.now c.len-count.result c.len-count.ensures (c.if-count-len.false ∙ c.len.ensures) in (
      λ is. record { types = c.same_types.ensures.0 c.if-not-same_types.false; slots = both.0 (c.same_range.ensures.same.0 is) },
      λ equal. c.same_range.ensures.same.1 (both.1 equal.slots),
    )

pub returns-clause-counted : goal.returns-clause-counted
returns-clause-counted c =
    let left = c.args.left.now in
    let size : range_nodes left 0 c.len-count.result ≡ range_nodes left 0 (column_len left) = ap (range_nodes left 0) c.len-count.ensures in
    omega (arith, c.same_range.ensures.counted, size, all_nodes left)

pub returns-clause-used : goal.returns-clause-used
returns-clause-used c = λ is.
    let left = c.args.left.now in
    let size : range_nodes left 0 c.len-count.result ≡ range_nodes left 0 (column_len left) = ap (range_nodes left 0) c.len-count.ensures in
    omega (arith, c.same_range.ensures.used is, size, all_nodes left)
