-- All batches were looked at.
use Rattle.std.proofs.Common.{◌≡◌, ◌∙◌, true, List, ap, sym}
use Rattle.std.specs.List.{list_all}
use Rattle.std.proofs.lemmas.List.{take_all}
use Rattle.ipc_format.specs.columns.StoredColumns.{Column}
use Rattle.tables_chunks.specs.Batches.{is_batch}
use Rattle.tables_chunks.proofs.BatchLists.{table_from}
use Rattle.tables_chunks.proofs.batches.are_batches.Goals as goal

pub returns : goal.returns
returns c =
    let batches : List (List Column) = c.args.batches.now in
    let all = take_all c.loop-batch.batch-index batches c.loop-batch-test.false in
    let whole : list_all is_batch batches ≡ true = ap (list_all is_batch) (sym all) ∙ c.loop-batch.invariant in
    table_from c.args.schema.now batches c.requires.form whole c.requires.fields
