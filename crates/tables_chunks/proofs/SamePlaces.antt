-- Two lists of batches walked side by side: what is known at two places, after a window that is the same, and after one that is not.
use Rattle.std.proofs.Common.{◌≡◌, ◌∙◌, ℕ, ◌+◌, ◌-◌, ◌≤◌, min, ◌<◌, true, List, [], ◌++◌, length, take, get_or, sym, ap, arith}
use Rattle.std.proofs.Common.{length-append}
use Rattle.std.specs.Prelude.{◌↔◌, IsTrue, Bool, sum_by}
use Rattle.std.proofs.lemmas.List.{append_cancel_left, get_or_read, take_at}
use Rattle.std.proofs.lemmas.List.Sums.{sum_by-append}
use Rattle.ipc_format.specs.columns.Slots.{Slot}
use Rattle.ipc_format.specs.columns.SlotNodes.{slot_nodes}
use Rattle.ipc_format.specs.columns.StoredColumns.{Column}
use Rattle.ipc_format.proofs.Windows.{length-window}
use Rattle.tables_chunks.specs.Batches.{batch_len, is_batch, stored_rows}
use Rattle.tables_chunks.specs.SameRows.{stored_row, rows_from, rows_behind, nodes_in, AreAlike, IsPlace}
use Rattle.tables_chunks.proofs.BatchLists.{batch_at}
use Rattle.tables_chunks.proofs.RowWindows.{rows_next}

-- Before row a of batch i of one list and row b of batch j of another stand as many rows, the same ones, and each of their slots was compared
-- once.
pub record AreSameUntil (left right : List (List Column)) (i a j b before now : ℕ) : Type 0 where
  pub same : (stored_rows left ≡ stored_rows right) ↔ (rows_behind left i a ≡ rows_behind right j b)
  pub counts : length (rows_behind left i a) ≡ length (rows_behind right j b)
  pub used : now + nodes_in (rows_behind left i a) ≡ before + nodes_in (stored_rows left)

-- a window of as many rows on both sides
pub record AreWindows (left right : List (List Column)) (i a j b n : ℕ) (one other : List Column) : Type 0 where
  pub left_inside : i < length left
  pub right_inside : j < length right
  pub left_is : one ≡ get_or left i []
  pub right_is : other ≡ get_or right j []
  pub left_whole : is_batch one ≡ true
  pub right_whole : is_batch other ≡ true
  pub left_within : a + n ≤ batch_len one
  pub right_within : b + n ≤ batch_len other

left_next : {left right : List (List Column)} {i a j b n : ℕ} {one other : List Column} → AreWindows left right i a j b n one other
    → rows_behind left i a ≡ rows_from one a n ++ rows_behind left i (a + n)
left_next {left} {right} {i} {a} {j} {b} {n} {one} {other} w = rows_next left i a n one w.left_inside w.left_is w.left_whole w.left_within

right_next : {left right : List (List Column)} {i a j b n : ℕ} {one other : List Column} → AreWindows left right i a j b n one other
    → rows_behind right j b ≡ rows_from other b n ++ rows_behind right j (b + n)
right_next {left} {right} {i} {a} {j} {b} {n} {one} {other} w = rows_next right j b n other w.right_inside w.right_is w.right_whole w.right_within

-- where the windows are the same, what stands behind them decides
pub same_more : (left right : List (List Column)) (i a j b n before now later : ℕ) (one other : List Column)
    → AreSameUntil left right i a j b before now → AreWindows left right i a j b n one other → rows_from one a n ≡ rows_from other b n
    → later ≡ now + nodes_in (rows_from one a n) → AreSameUntil left right i (a + n) j (b + n) before later
same_more left right i a j b n before now later one other so_far w same ticked =
    let here : List (List Slot) = rows_from one a n in
    let rest_left : List (List Slot) = rows_behind left i (a + n) in
    let rest_right : List (List Slot) = rows_behind right j (b + n) in
    let first : rows_behind left i a ≡ here ++ rest_left = left_next w in
    let second : rows_behind right j b ≡ here ++ rest_right = right_next w ∙ ap (λ (rows : List (List Slot)). rows ++ rest_right) (sym same) in
    let one_count : length (rows_behind left i a) ≡ length here + length rest_left = ap length first ∙ length-append here rest_left in
    let other_count : length (rows_behind right j b) ≡ length here + length rest_right = ap length second ∙ length-append here rest_right in
    let nodes : nodes_in (rows_behind left i a) ≡ nodes_in here + nodes_in rest_left =
    ap nodes_in first ∙ sum_by-append (sum_by slot_nodes) here rest_left in
    record {
      same = (
        λ h. append_cancel_left here rest_left rest_right (sym first ∙ so_far.same.0 h ∙ second),
        λ h. so_far.same.1 (first ∙ ap (λ (rows : List (List Slot)). here ++ rows) h ∙ sym second),
      );
      counts = omega (arith, so_far.counts);
      used = omega (arith, so_far.used);
    }

-- where they differ, so do all rows
pub differ_here : (left right : List (List Column)) (i a j b n before now : ℕ) (one other : List Column)
    → AreSameUntil left right i a j b before now → AreWindows left right i a j b n one other
    → (rows_from one a n ≡ rows_from other b n → ⊥) → stored_rows left ≡ stored_rows right → ⊥
differ_here left right i a j b n before now one other so_far w differ h =
    let here : List (List Slot) = rows_from one a n in
    let there : List (List Slot) = rows_from other b n in
    let rest_left : List (List Slot) = rows_behind left i (a + n) in
    let rest_right : List (List Slot) = rows_behind right j (b + n) in
    let all : here ++ rest_left ≡ there ++ rest_right = sym (left_next w) ∙ so_far.same.0 h ∙ right_next w in
    differ (sym (take_at here rest_left n (length-window (stored_row one) a n)) ∙ ap (take n) all
    ∙ take_at there rest_right n (length-window (stored_row other) b n))

-- and no more slots were compared than the left side has
pub used_here : (left right : List (List Column)) (i a j b n before now later : ℕ) (one other : List Column)
    → AreSameUntil left right i a j b before now → AreWindows left right i a j b n one other
    → later ≤ now + nodes_in (rows_from one a n) → later ≤ before + nodes_in (stored_rows left)
used_here left right i a j b n before now later one other so_far w few =
    let here : List (List Slot) = rows_from one a n in
    let rest_left : List (List Slot) = rows_behind left i (a + n) in
    let nodes : nodes_in (rows_behind left i a) ≡ nodes_in here + nodes_in rest_left =
    ap nodes_in (left_next w) ∙ sum_by-append (sum_by slot_nodes) here rest_left in
    omega (arith, so_far.used)

-- ---- windows at two places

-- two batches at places of batches that are alike, and a window of what both have left at least
pub windows_at : (left right : List (List Column)) (i a j b n m k : ℕ) (one other : List Column) → AreAlike left right → i < length left
    → j < length right → one ≡ get_or left i one → other ≡ get_or right j other → IsPlace left i a → IsPlace right j b → m ≡ batch_len one
    → k ≡ batch_len other → n ≡ min (m - a) (k - b) → AreWindows left right i a j b n one other
windows_at left right i a j b n m k one other alike left_inside right_inside left_is right_is left_place right_place one_len other_len least =
    let left_at : one ≡ get_or left i [] = get_or_read left i one left_inside left_is [] in
    let right_at : other ≡ get_or right j [] = get_or_read right j other right_inside right_is [] in
    let one_rows : batch_len one ≡ batch_len (get_or left i []) = ap batch_len left_at in
    let other_rows : batch_len other ≡ batch_len (get_or right j []) = ap batch_len right_at in
    let one_reached : a ≤ batch_len (get_or left i []) = left_place left_inside in
    let other_reached : b ≤ batch_len (get_or right j []) = right_place right_inside in
    record {
      left_inside = left_inside;
      right_inside = right_inside;
      left_is = left_at;
      right_is = right_at;
      left_whole = (batch_at alike.width left i one alike.left_batches left_inside left_is).0;
      right_whole = (batch_at alike.width right j other alike.right_batches right_inside right_is).0;
      left_within = omega arith;
      right_within = omega arith;
    }

-- they have as many columns
pub widths_at : (left right : List (List Column)) (i j : ℕ) (one other : List Column) → AreAlike left right → i < length left → j < length right
    → one ≡ get_or left i one → other ≡ get_or right j other → length one ≡ length other
widths_at left right i j one other alike left_inside right_inside left_is right_is =
    (batch_at alike.width left i one alike.left_batches left_inside left_is).1
    ∙ sym (batch_at alike.width right j other alike.right_batches right_inside right_is).1

-- the same said of other places before which the same rows stand
pub so_far_at : (left right : List (List Column)) (i a j b k c l d before now : ℕ) → AreSameUntil left right i a j b before now
    → rows_behind left k c ≡ rows_behind left i a → rows_behind right l d ≡ rows_behind right j b → AreSameUntil left right k c l d before now
so_far_at left right i a j b k c l d before now so_far one other = record {
  same = (λ h. one ∙ so_far.same.0 h ∙ sym other, λ h. so_far.same.1 (sym one ∙ h ∙ other));
  counts = ap length one ∙ so_far.counts ∙ sym (ap length other);
  used = ap (λ (rows : List (List Slot)). now + nodes_in rows) one ∙ so_far.used;
}

-- an answer about windows of lists that are these batches
pub window_tells : (xs ys one other : List Column) (i j n : ℕ) (answer : Bool) → xs ≡ one → ys ≡ other
    → IsTrue answer ↔ (rows_from xs i n ≡ rows_from ys j n) → IsTrue answer ↔ (rows_from one i n ≡ rows_from other j n)
window_tells xs ys one other i j n answer first second tells =
    let left : rows_from xs i n ≡ rows_from one i n = ap (λ (columns : List Column). rows_from columns i n) first in
    let right : rows_from ys j n ≡ rows_from other j n = ap (λ (columns : List Column). rows_from columns j n) second in
    (λ h. sym left ∙ tells.0 h ∙ right, λ same. tells.1 (left ∙ same ∙ sym right))
