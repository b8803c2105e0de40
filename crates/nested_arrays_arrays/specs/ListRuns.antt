-- Lists of two columns that stand one after another.
use Rattle.std.specs.Prelude.{◌≡◌, ◌+◌, ◌<◌, ◌≤◌, ◌↔◌, ℕ}
use Rattle.nested_arrays_parts.specs.columnar_memory.Spans.{offset_at}
use Rattle.nested_arrays_parts.specs.columns.StoredColumns.{Column, column_len, column_size}
use Rattle.nested_arrays_parts.specs.Ranges.{range_nodes, SameRanges}
use Rattle.nested_arrays_parts.specs.Widths.{spans_in}
use Rattle.nested_arrays_arrays.specs.AnyColumns.{column_of}
use Rattle.nested_arrays_arrays.specs.declared.any.ListNode.{ListNode}
use Rattle.nested_arrays_arrays.specs.declared.any.Node.TheVariants as variant

-- n lists of a column from place i on, whose items are so many of a child from a place on, and n of another column from place j on, whose items
-- are as many of another child: the lists are the same exactly where the items are, and have a node each beside those of the items
pub record IsListRun (l : Column) (i : ℕ) (r : Column) (j n : ℕ) (child : Column) (start : ℕ) (other : Column) (other_start len : ℕ) : Type 0 where
  pub same : SameRanges child start other other_start len ↔ SameRanges l i r j n
  pub nodes : range_nodes l i n ≡ n + range_nodes child start len
  pub within : start + len ≤ column_len child
  pub other_within : other_start + len ≤ column_len other
  pub smaller : column_size child < column_size l

-- the same of lists with offsets
pub record AreSameLists (left : ListNode) (i : ℕ) (right : ListNode) (j n len : ℕ) : Type 0 where
  pub run : IsListRun (column_of (variant.List left)) i (column_of (variant.List right)) j n left.values.value (offset_at (spans_in left.offsets) i)
      right.values.value (offset_at (spans_in right.offsets) j) len
  pub stop : offset_at (spans_in left.offsets) (i + n) ≡ offset_at (spans_in left.offsets) i + len
  pub other_stop : offset_at (spans_in right.offsets) (j + n) ≡ offset_at (spans_in right.offsets) j + len
