-- The schemas decide, then the numbers of rows, and then the rows.
use Rattle.std.proofs.Common.{◌≡◌, ◌∙◌, sym}
use Rattle.tables_chunks.specs.StoredTables.{as_table, row_count}
use Rattle.tables_chunks.proofs.TellingTables.{other_count, other_schema, rows_tell, tables_alike, tells_false, tells_not}
use Rattle.tables_chunks.proofs.table.Table.same_counted.Goals as goal

pub returns-then-not-has_schema_of-clause-same : goal.returns-then-not-has_schema_of-clause-same
returns-then-not-has_schema_of-clause-same c =
    let left = c.args.left.now in
    let right = c.args.right.now in
    tells_not (as_table left ≡ as_table right) (other_schema left right (tells_false (left.schema ≡ right.schema) c.has_schema_of.result
    c.has_schema_of.ensures c.if-not-has_schema_of.true))

pub returns-then-rows-clause-same : goal.returns-then-rows-clause-same
returns-then-rows-clause-same c =
    let left = c.args.left.now in
    let right = c.args.right.now in
    tells_not (as_table left ≡ as_table right) (other_count left right c.rows.result c.rows-2.result c.rows.ensures c.rows-2.ensures
    c.if-rows.true)

pub same_rows-requires : goal.same_rows-requires
same_rows-requires c =
    let left = c.args.left.now in
    let right = c.args.right.now in
    let counts : row_count left ≡ row_count right = sym c.rows.ensures ∙ c.if-rows.false ∙ c.rows-2.ensures in
    tables_alike left right c.batches.result.now c.batches-2.result.now (c.has_schema_of.ensures.0 c.if-not-has_schema_of.false)
    c.batches.ensures c.batches-2.ensures c.whole.ensures.batches c.whole-2.ensures.batches counts

pub returns-clause-same : goal.returns-clause-same
returns-clause-same c =
    let left = c.args.left.now in
    let right = c.args.right.now in
    rows_tell left right c.batches.result.now c.batches-2.result.now c.same_rows.result
    (c.has_schema_of.ensures.0 c.if-not-has_schema_of.false) c.batches.ensures c.batches-2.ensures c.same_rows.ensures.same
