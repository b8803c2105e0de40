use Rattle.std.proofs.Common.{length}
use Rattle.columnar_memory_bits.proofs.load.+few_bytes.Given as goal

abbrev pub decreases-few_bytes : goal.decreases-few_bytes
decreases-few_bytes l = length l.bytes.now
