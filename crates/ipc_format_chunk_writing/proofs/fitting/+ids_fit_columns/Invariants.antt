use Rattle.std.proofs.Common.{length}
use Rattle.ipc_format_chunk_writing.proofs.fitting.+ids_fit_columns.Given as goal

abbrev pub decreases-ids_fit_columns : goal.decreases-ids_fit_columns
decreases-ids_fit_columns l = length l.arrays.now
