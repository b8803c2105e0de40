use Rattle.nested_arrays_columns.proofs.RowBatches.{batches_of_rows}
use Rattle.nested_arrays_columns.proofs.fresh_laws.a_batch_of_rows_has_their_slots.Goals as goal

pub returns : goal.returns
returns c = batches_of_rows
