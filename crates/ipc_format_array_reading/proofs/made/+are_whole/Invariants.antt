use Rattle.std.proofs.Common.{length}
use Rattle.ipc_format_array_reading.proofs.made.+are_whole.Given as goal

abbrev pub decreases-are_whole : goal.decreases-are_whole
decreases-are_whole l = length l.arrays.now
