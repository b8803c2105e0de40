-- Batches of two tables, one after another, have the rows of both.
use Rattle.std.proofs.Common.{◌∙◌, List, length, map, ap, ◌&&◌, ◌==◌}
use Rattle.std.proofs.lemmas.List.{map-append}
use Rattle.std.proofs.lemmas.List.Concat.{flat_map-append}
use Rattle.ipc_format.specs.columns.StoredColumns.{Column, slots}
use Rattle.ipc_format.specs.columns.Tables.{batch_rows, rows_of_batches}
use Rattle.tables_chunks.specs.Batches.{is_batch, JoinsHaveBoth}
use Rattle.tables_chunks.proofs.Lists.{list_all-append}

pub joins_have_both : JoinsHaveBoth
joins_have_both width a b one two = (
  ap rows_of_batches (map-append (map slots) a b) ∙ flat_map-append batch_rows (map (map slots) a) (map (map slots) b),
  list_all-append (λ (batch : List Column). is_batch batch && (length batch == width)) a b one two,
)
