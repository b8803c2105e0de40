-- Window by window.
use Rattle.std.proofs.Common.{◌≡◌, ◌∙◌, ◌+◌, List, length, ap, sym, arith}
use Rattle.std.specs.Prelude.{◌↔◌, IsTrue}
use Rattle.ipc_format.specs.columns.StoredColumns.{Column}
use Rattle.tables_chunks.specs.Batches.{is_batch, stored_rows}
use Rattle.tables_chunks.specs.SameRows.{have_rows, rows_from, nodes_in}
use Rattle.tables_chunks.proofs.RowWindows.{batch_has_rows}
use Rattle.tables_chunks.proofs.SamePlaces.{differ_here, same_more, so_far_at, used_here, widths_at, window_tells, windows_at}
use Rattle.tables_chunks.proofs.TellingTables.{tells_false, tells_not}
use Rattle.tables_chunks.proofs.same.same_rows.Goals as goal

pub same_windows-requires-clause-left_within : goal.same_windows-requires-clause-left_within
same_windows-requires-clause-left_within c =
    let one : List Column = c.index-left-here.result in
    let other : List Column = c.index-right-there.result in
    let left : List (List Column) = c.args.left.now in
    let right : List (List Column) = c.args.right.now in
    let here = c.loop-here.here in
    let there = c.loop-here.there in
    let n = c.min-count.result in
    let w = windows_at left right here.batch here.row there.batch there.row n c.len_of.result c.len_of-in-loop-here.result one other c.requires
    c.loop-here-test.true c.if-there-right.true c.index-left-here.is c.index-right-there.is c.loop-here.invariant.left_place
    c.loop-here.invariant.right_place c.len_of.ensures c.len_of-in-loop-here.ensures c.min-count.ensures in
    ap (have_rows (here.row + n)) c.arrays.ensures ∙ batch_has_rows (here.row + n) one w.left_whole w.left_within

pub same_windows-requires-clause-right_within : goal.same_windows-requires-clause-right_within
same_windows-requires-clause-right_within c =
    let one : List Column = c.index-left-here.result in
    let other : List Column = c.index-right-there.result in
    let left : List (List Column) = c.args.left.now in
    let right : List (List Column) = c.args.right.now in
    let here = c.loop-here.here in
    let there = c.loop-here.there in
    let n = c.min-count.result in
    let w = windows_at left right here.batch here.row there.batch there.row n c.len_of.result c.len_of-in-loop-here.result one other c.requires
    c.loop-here-test.true c.if-there-right.true c.index-left-here.is c.index-right-there.is c.loop-here.invariant.left_place
    c.loop-here.invariant.right_place c.len_of.ensures c.len_of-in-loop-here.ensures c.min-count.ensures in
    ap (have_rows (there.row + n)) c.arrays-in-loop-here.ensures ∙ batch_has_rows (there.row + n) other w.right_whole w.right_within

pub same_windows-requires-clause-widths : goal.same_windows-requires-clause-widths
same_windows-requires-clause-widths c =
    ap length c.arrays.ensures
    ∙ widths_at c.args.left.now c.args.right.now c.loop-here.here.batch c.loop-here.there.batch c.index-left-here.result
    c.index-right-there.result c.requires c.loop-here-test.true c.if-there-right.true c.index-left-here.is c.index-right-there.is
    ∙ sym (ap length c.arrays-in-loop-here.ensures)

pub returns-then-not-same_windows-clause-same : goal.returns-then-not-same_windows-clause-same
returns-then-not-same_windows-clause-same c =
    let one : List Column = c.index-left-here.result in
    let other : List Column = c.index-right-there.result in
    let left : List (List Column) = c.args.left.now in
    let right : List (List Column) = c.args.right.now in
    let here = c.loop-here.here in
    let there = c.loop-here.there in
    let n = c.min-count.result in
    let w = windows_at left right here.batch here.row there.batch there.row n c.len_of.result c.len_of-in-loop-here.result one other c.requires
    c.loop-here-test.true c.if-there-right.true c.index-left-here.is c.index-right-there.is c.loop-here.invariant.left_place
    c.loop-here.invariant.right_place c.len_of.ensures c.len_of-in-loop-here.ensures c.min-count.ensures in
    let same : IsTrue c.same_windows.result ↔ (rows_from one here.row n ≡ rows_from other there.row n) =
    window_tells c.arrays.result.now c.arrays-in-loop-here.result.now one other here.row there.row n c.same_windows.result c.arrays.ensures
    c.arrays-in-loop-here.ensures c.same_windows.ensures.same in
    tells_not (stored_rows left ≡ stored_rows right) (differ_here left right here.batch here.row there.batch there.row n c.args.steps.now.count
    c.loop-here.steps.count one other c.loop-here.invariant.so_far w
    (tells_false (rows_from one here.row n ≡ rows_from other there.row n) c.same_windows.result same c.if-not-same_windows.true))

pub returns-then-not-same_windows-clause-counted : goal.returns-then-not-same_windows-clause-counted
returns-then-not-same_windows-clause-counted c =
    let one : List Column = c.index-left-here.result in
    let other : List Column = c.index-right-there.result in
    let left : List (List Column) = c.args.left.now in
    let right : List (List Column) = c.args.right.now in
    let here = c.loop-here.here in
    let there = c.loop-here.there in
    let n = c.min-count.result in
    let w = windows_at left right here.batch here.row there.batch there.row n c.len_of.result c.len_of-in-loop-here.result one other c.requires
    c.loop-here-test.true c.if-there-right.true c.index-left-here.is c.index-right-there.is c.loop-here.invariant.left_place
    c.loop-here.invariant.right_place c.len_of.ensures c.len_of-in-loop-here.ensures c.min-count.ensures in
    let nodes : nodes_in (rows_from c.arrays.result.now here.row n) ≡ nodes_in (rows_from one here.row n) =
    ap (λ (columns : List Column). nodes_in (rows_from columns here.row n)) c.arrays.ensures in
    used_here left right here.batch here.row there.batch there.row n c.args.steps.now.count c.loop-here.steps.count
    c.same_windows.new.steps.count one other c.loop-here.invariant.so_far w (omega (arith, c.same_windows.ensures.counted))

pub loop-here-preserved : goal.loop-here-preserved
loop-here-preserved c =
    let one : List Column = c.index-left-here.result in
    let other : List Column = c.index-right-there.result in
    let left : List (List Column) = c.args.left.now in
    let right : List (List Column) = c.args.right.now in
    let here = c.loop-here.here in
    let there = c.loop-here.there in
    let n = c.min-count.result in
    let w = windows_at left right here.batch here.row there.batch there.row n c.len_of.result c.len_of-in-loop-here.result one other c.requires
    c.loop-here-test.true c.if-there-right.true c.index-left-here.is c.index-right-there.is c.loop-here.invariant.left_place
    c.loop-here.invariant.right_place c.len_of.ensures c.len_of-in-loop-here.ensures c.min-count.ensures in
    let same : IsTrue c.same_windows.result ↔ (rows_from one here.row n ≡ rows_from other there.row n) =
    window_tells c.arrays.result.now c.arrays-in-loop-here.result.now one other here.row there.row n c.same_windows.result c.arrays.ensures
    c.arrays-in-loop-here.ensures c.same_windows.ensures.same in
    let nodes : nodes_in (rows_from c.arrays.result.now here.row n) ≡ nodes_in (rows_from one here.row n) =
    ap (λ (columns : List Column). nodes_in (rows_from columns here.row n)) c.arrays.ensures in
    let used : c.same_windows.new.steps.count ≡ c.loop-here.steps.count + nodes_in (rows_from one here.row n) =
    c.same_windows.ensures.used c.if-not-same_windows.false ∙ ap (λ k. c.loop-here.steps.count + k) nodes in
    let more = same_more left right here.batch here.row there.batch there.row n c.args.steps.now.count c.loop-here.steps.count
    c.same_windows.new.steps.count one other c.loop-here.invariant.so_far w (same.0 c.if-not-same_windows.false) used in
    record {
      so_far = so_far_at left right here.batch (here.row + n) there.batch (there.row + n) c.behind-here.result.batch c.behind-here.result.row
          c.behind-there.result.batch c.behind-there.result.row c.args.steps.now.count c.same_windows.new.steps.count more
          c.behind-here.ensures.rows c.behind-there.ensures.rows;
      left_place = c.behind-here.ensures.place;
      right_place = c.behind-there.ensures.place;
    }

pub behind-here-requires-clause-whole : goal.behind-here-requires-clause-whole
behind-here-requires-clause-whole c =
    let one : List Column = c.index-left-here.result in
    let other : List Column = c.index-right-there.result in
    let left : List (List Column) = c.args.left.now in
    let right : List (List Column) = c.args.right.now in
    let here = c.loop-here.here in
    let there = c.loop-here.there in
    let n = c.min-count.result in
    let w = windows_at left right here.batch here.row there.batch there.row n c.len_of.result c.len_of-in-loop-here.result one other c.requires
    c.loop-here-test.true c.if-there-right.true c.index-left-here.is c.index-right-there.is c.loop-here.invariant.left_place
    c.loop-here.invariant.right_place c.len_of.ensures c.len_of-in-loop-here.ensures c.min-count.ensures in
    ap is_batch (sym w.left_is) ∙ w.left_whole

pub behind-there-requires-clause-whole : goal.behind-there-requires-clause-whole
behind-there-requires-clause-whole c =
    let one : List Column = c.index-left-here.result in
    let other : List Column = c.index-right-there.result in
    let left : List (List Column) = c.args.left.now in
    let right : List (List Column) = c.args.right.now in
    let here = c.loop-here.here in
    let there = c.loop-here.there in
    let n = c.min-count.result in
    let w = windows_at left right here.batch here.row there.batch there.row n c.len_of.result c.len_of-in-loop-here.result one other c.requires
    c.loop-here-test.true c.if-there-right.true c.index-left-here.is c.index-right-there.is c.loop-here.invariant.left_place
    c.loop-here.invariant.right_place c.len_of.ensures c.len_of-in-loop-here.ensures c.min-count.ensures in
    ap is_batch (sym w.right_is) ∙ w.right_whole
