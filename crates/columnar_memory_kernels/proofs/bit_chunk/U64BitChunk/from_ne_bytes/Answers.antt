use Rattle.std.proofs.Common.{rules}
use Rattle.std.proofs.lemmas.Nat.{le_bytes_8}
use Rattle.columnar_memory_kernels.proofs.bit_chunk.U64BitChunk.from_ne_bytes.Goals as goal

pub returns : goal.returns
returns c = le_bytes_8 c.args.raw _ (search rules) (search rules) c.from_le_bytes.ensures
