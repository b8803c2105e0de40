-- Windows of two batches compared column by column: what is known once some columns are the same, at one that differs, and at the end.
use Rattle.std.proofs.Common.{◌≡◌, ◌∙◌, ℕ, zero, suc, ◌+◌, ◌≤◌, ◌<◌, true, List, [], ◌∷◌, length, drop, get_or, sym, ap, arith, nat_le}
use Rattle.std.specs.Prelude.{◌↔◌, sum_by}
use Rattle.std.proofs.lemmas.Bool.{and_parts, leb-true}
use Rattle.std.proofs.lemmas.List.{drop_all, drop_more}
use Rattle.ipc_format.specs.columns.Slots.{window}
use Rattle.ipc_format.specs.columns.SlotNodes.{slot_nodes}
use Rattle.ipc_format.specs.columns.StoredColumns.{Column, column_len, slot_at}
use Rattle.tables_chunks.specs.SameRows.{rows_from, have_rows, nodes_in}
use Rattle.tables_chunks.proofs.RowWindows.{rows_parts, rows_from_parts, no_columns, nodes_parts, no_nodes}

-- n rows from row i and from row j on of the columns before place k are the same, and each of their slots was compared once
pub record ColumnsSameUntil (left right : List Column) (i j n k before now : ℕ) : Type 0 where
  pub same : (rows_from left i n ≡ rows_from right j n) ↔ (rows_from (drop k left) i n ≡ rows_from (drop k right) j n)
  pub used : now + nodes_in (rows_from (drop k left) i n) ≡ before + nodes_in (rows_from left i n)

-- a column of each side at a place
pub record AreColumns (left right : List Column) (k : ℕ) (x y : Column) : Type 0 where
  pub left_inside : k < length left
  pub right_inside : k < length right
  pub left_is : x ≡ get_or left k x
  pub right_is : y ≡ get_or right k y

column_next : (columns : List Column) (k : ℕ) (x : Column) → k < length columns → x ≡ get_or columns k x
    → drop k columns ≡ x ∷ drop (k + 1) columns
column_next columns k x inside is = drop_more columns k x inside ∙ ap (λ (column : Column). column ∷ drop (k + 1) columns) (sym is)

nodes_next : (columns : List Column) (k : ℕ) (x : Column) (i n : ℕ) → k < length columns → x ≡ get_or columns k x
    → nodes_in (rows_from (drop k columns) i n) ≡ sum_by slot_nodes (window (slot_at x) i n) + nodes_in (rows_from (drop (k + 1) columns) i n)
nodes_next columns k x i n inside is =
    ap (λ (rest : List Column). nodes_in (rows_from rest i n)) (column_next columns k x inside is) ∙ nodes_parts x (drop (k + 1) columns) i n

-- where the columns at the place are the same, those behind it decide
pub columns_more : (left right : List Column) (i j n k before now later : ℕ) (x y : Column) → ColumnsSameUntil left right i j n k before now
    → AreColumns left right k x y → window (slot_at x) i n ≡ window (slot_at y) j n
    → later ≡ now + sum_by slot_nodes (window (slot_at x) i n) → ColumnsSameUntil left right i j n (k + 1) before later
columns_more left right i j n k before now later x y so_far at same ticked =
    let one = column_next left k x at.left_inside at.left_is in
    let other = column_next right k y at.right_inside at.right_is in
    let nodes = nodes_next left k x i n at.left_inside at.left_is in
    let first : rows_from (drop k left) i n ≡ rows_from (x ∷ drop (k + 1) left) i n = ap (λ (rest : List Column). rows_from rest i n) one in
    let second : rows_from (drop k right) j n ≡ rows_from (y ∷ drop (k + 1) right) j n = ap (λ (rest : List Column). rows_from rest j n) other in
    record {
      same = (
        λ h. (rows_parts x y (drop (k + 1) left) (drop (k + 1) right) i j n (sym first ∙ so_far.same.0 h ∙ second)).1,
        λ h. so_far.same.1 (first ∙ rows_from_parts x y (drop (k + 1) left) (drop (k + 1) right) i j n same h ∙ sym second),
      );
      used = omega (arith, so_far.used, nodes);
    }

-- where they differ, so do the rows
pub columns_differ : (left right : List Column) (i j n k before now : ℕ) (x y : Column) → ColumnsSameUntil left right i j n k before now
    → AreColumns left right k x y → (window (slot_at x) i n ≡ window (slot_at y) j n → ⊥) → rows_from left i n ≡ rows_from right j n → ⊥
columns_differ left right i j n k before now x y so_far at differ h =
    let one = column_next left k x at.left_inside at.left_is in
    let other = column_next right k y at.right_inside at.right_is in
    differ (rows_parts x y (drop (k + 1) left) (drop (k + 1) right) i j n (sym (ap (λ (rest : List Column). rows_from rest i n) one)
    ∙ so_far.same.0 h ∙ ap (λ (rest : List Column). rows_from rest j n) other)).0

-- and no more slots were compared than the left side has
pub columns_used : (left right : List Column) (i j n k before now later : ℕ) (x y : Column) → ColumnsSameUntil left right i j n k before now
    → AreColumns left right k x y → later ≤ now + sum_by slot_nodes (window (slot_at x) i n) → later ≤ before + nodes_in (rows_from left i n)
columns_used left right i j n k before now later x y so_far at few =
    let nodes = nodes_next left k x i n at.left_inside at.left_is in
    omega (arith, so_far.used, nodes)

-- where no column is left, the rows are the same
pub record ColumnsSame (left right : List Column) (i j n before now : ℕ) : Type 0 where
  pub same : rows_from left i n ≡ rows_from right j n
  pub used : now ≡ before + nodes_in (rows_from left i n)

pub columns_at_end : (left right : List Column) (i j n k before now : ℕ) → ColumnsSameUntil left right i j n k before now
    → length left ≡ length right → length left ≤ k → ColumnsSame left right i j n before now
columns_at_end left right i j n k before now so_far widths past =
    let one : drop k left ≡ [] = drop_all k left past in
    let other : drop k right ≡ [] = drop_all k right (omega arith) in
    let none : nodes_in (rows_from (drop k left) i n) ≡ 0 = ap (λ (rest : List Column). nodes_in (rows_from rest i n)) one ∙ no_nodes i n in
    record {
      same = so_far.same.1 (ap (λ (rest : List Column). rows_from rest i n) one ∙ no_columns i j n
          ∙ ap (λ (rest : List Column). rows_from rest j n) (sym other));
      used = omega (arith, so_far.used, none);
    }

-- each column has the rows of a window
pub rows_at : (m : ℕ) (columns : List Column) (k : ℕ) (x : Column) → have_rows m columns ≡ true → k < length columns → x ≡ get_or columns k x
    → m ≤ column_len x
rows_at m [] k x have inside is = absurd (omega arith)
rows_at m (first ∷ columns) zero x have inside is =
    let enough : m ≤ column_len first = leb-true m (column_len first) (and_parts (nat_le m (column_len first)) (have_rows m columns) have).0 in
    let same : column_len x ≡ column_len first = ap column_len is in
    omega arith
rows_at m (first ∷ columns) (suc k) x have inside is =
    rows_at m columns k x (and_parts (nat_le m (column_len first)) (have_rows m columns) have).1 (omega arith) is

pub columns_at : (left right : List Column) (k : ℕ) (x y : Column) → length left ≡ length right → k < length left → x ≡ get_or left k x
    → y ≡ get_or right k y → AreColumns left right k x y
columns_at left right k x y widths inside left_is right_is = record {
  left_inside = inside;
  right_inside = omega arith;
  left_is = left_is;
  right_is = right_is;
}
