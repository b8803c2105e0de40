-- The rows are those of the batches, and the schema has texts.
use Rattle.std.proofs.Common.{◌<◌, ◌^◌, arith, subst}
use Rattle.ipc_format.specs.reading_laws.SealLaws.{IsTableOfTexts}
use Rattle.tables_chunks.specs.StoredTables.{Stored, as_table, row_count}
use Rattle.tables_chunks.proofs.TextTables.{table_of_texts}
use Rattle.tables_chunks.proofs.table.Table.whole.Goals as goal

pub returns-clause-texts : goal.returns-clause-texts
returns-clause-texts c =
    let table : Stored = record { schema = c.self.inside.schema; batches = c.self.inside.batches.items } in
    let few : row_count table < 2 ^ 64 = omega (arith, c.self.invariant.0) in
    subst (λ (t : Stored). IsTableOfTexts (as_table t)) c.self.view_is (table_of_texts table c.self.invariant.1 few c.whole.ensures)
