-- The batches so far stand behind those that were there, and all rows fit 64 bits.
use Rattle.std.proofs.Common.{◌≡◌, ◌<◌, ◌^◌, ◌++◌, take}
use Rattle.tables_rows.specs.chunks.StoredTables.{row_count}
use Rattle.tables.proofs.carried.add_batches.Given as goal

abbrev pub invariant-loop-batch : goal.invariant-loop-batch
invariant-loop-batch l = record {
  are : l.joined ≡ record l.fn.joined { batches = l.fn.joined.batches ++ take l.batch-index l.batch-items };
  fits : row_count l.joined < 2 ^ 64;
}
