-- Behind the last row of a batch begins the next.
use Rattle.std.proofs.Common.{◌≡◌, ◌∙◌, ◌+◌, [], true, List, ap, sym, get_or, arith}
use Rattle.std.proofs.lemmas.List.{get_or_read}
use Rattle.ipc_format.specs.columns.StoredColumns.{Column}
use Rattle.tables_chunks.specs.Batches.{batch_len, is_batch}
use Rattle.tables_chunks.proofs.RowWindows.{rows_turn}
use Rattle.tables_chunks.proofs.same.behind.Goals as goal

pub overflow_add-row : goal.overflow_add-row
overflow_add-row c =
    let batches : List (List Column) = c.args.batches.now in
    let batch : List Column = c.index-batches-place.result in
    let is : batch ≡ get_or batches c.args.place.batch [] =
    get_or_read batches c.args.place.batch batch c.requires.inside c.index-batches-place.is [] in
    let rows : c.len_of-rows.result ≡ batch_len (get_or batches c.args.place.batch []) = c.len_of-rows.ensures ∙ ap batch_len is in
    omega (arith, c.requires.within)

pub returns-then-row-rows-clause-rows : goal.returns-then-row-rows-clause-rows
returns-then-row-rows-clause-rows c =
    let batches : List (List Column) = c.args.batches.now in
    let batch : List Column = c.index-batches-place.result in
    let is : batch ≡ get_or batches c.args.place.batch [] =
    get_or_read batches c.args.place.batch batch c.requires.inside c.index-batches-place.is [] in
    let whole : is_batch batch ≡ true = ap is_batch is ∙ c.requires.whole in
    sym (rows_turn batches c.args.place.batch (c.args.place.row + c.args.count) batch c.requires.inside is whole
    (c.if-row-rows.true ∙ c.len_of-rows.ensures))
