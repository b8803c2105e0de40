-- Column by column.
use Rattle.std.proofs.Common.{◌≡◌, List}
use Rattle.ipc_format.specs.columns.Slots.{window}
use Rattle.ipc_format.specs.columns.StoredColumns.{Column, slot_at}
use Rattle.tables_chunks.specs.SameRows.{rows_from}
use Rattle.tables_chunks.proofs.SameColumns.{columns_at_end, columns_differ, columns_more, columns_used, columns_at}
use Rattle.tables_chunks.proofs.TellingTables.{tells_false, tells_not, tells_so}
use Rattle.tables_chunks.proofs.same.same_windows.Goals as goal

pub returns-then-not-same_slot_ranges-clause-same : goal.returns-then-not-same_slot_ranges-clause-same
returns-then-not-same_slot_ranges-clause-same c =
    let left : List Column = c.args.left.now in
    let right : List Column = c.args.right.now in
    let x : Column = c.index-left-k.result in
    let y : Column = c.index-right-k.result in
    let at = columns_at left right c.loop-k.k x y c.requires.widths c.loop-k-test.true c.index-left-k.is c.index-right-k.is in
    let differ = tells_false (window (slot_at x) c.args.i c.args.count ≡ window (slot_at y) c.args.j c.args.count) c.same_slot_ranges.result
    c.same_slot_ranges.ensures.same c.if-not-same_slot_ranges.true in
    tells_not (rows_from left c.args.i c.args.count ≡ rows_from right c.args.j c.args.count)
    (columns_differ left right c.args.i c.args.j c.args.count c.loop-k.k c.args.steps.now.count c.loop-k.steps.count x y c.loop-k.invariant at
    differ)

pub returns-then-not-same_slot_ranges-clause-counted : goal.returns-then-not-same_slot_ranges-clause-counted
returns-then-not-same_slot_ranges-clause-counted c =
    let left : List Column = c.args.left.now in
    let right : List Column = c.args.right.now in
    let x : Column = c.index-left-k.result in
    let y : Column = c.index-right-k.result in
    let at = columns_at left right c.loop-k.k x y c.requires.widths c.loop-k-test.true c.index-left-k.is c.index-right-k.is in
    columns_used left right c.args.i c.args.j c.args.count c.loop-k.k c.args.steps.now.count c.loop-k.steps.count
    c.same_slot_ranges.new.steps.count x y c.loop-k.invariant at c.same_slot_ranges.ensures.counted

pub loop-k-preserved : goal.loop-k-preserved
loop-k-preserved c =
    let left : List Column = c.args.left.now in
    let right : List Column = c.args.right.now in
    let x : Column = c.index-left-k.result in
    let y : Column = c.index-right-k.result in
    let at = columns_at left right c.loop-k.k x y c.requires.widths c.loop-k-test.true c.index-left-k.is c.index-right-k.is in
    columns_more left right c.args.i c.args.j c.args.count c.loop-k.k c.args.steps.now.count c.loop-k.steps.count
    c.same_slot_ranges.new.steps.count x y c.loop-k.invariant at (c.same_slot_ranges.ensures.same.0 c.if-not-same_slot_ranges.false)
    (c.same_slot_ranges.ensures.used c.if-not-same_slot_ranges.false)

pub returns-clause-same : goal.returns-clause-same
returns-clause-same c =
    let left : List Column = c.args.left.now in
    let right : List Column = c.args.right.now in
    let end = columns_at_end left right c.args.i c.args.j c.args.count c.loop-k.k c.args.steps.now.count c.loop-k.steps.count
    c.loop-k.invariant c.requires.widths c.loop-k-test.false in
    tells_so (rows_from left c.args.i c.args.count ≡ rows_from right c.args.j c.args.count) end.same

pub returns-clause-used : goal.returns-clause-used
returns-clause-used c =
    λ h. (columns_at_end c.args.left.now c.args.right.now c.args.i c.args.j c.args.count c.loop-k.k c.args.steps.now.count c.loop-k.steps.count
    c.loop-k.invariant c.requires.widths c.loop-k-test.false).used
