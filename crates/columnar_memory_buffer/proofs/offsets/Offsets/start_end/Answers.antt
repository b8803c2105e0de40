use Rattle.std.proofs.Common.{arith, ◌+◌}
use Rattle.columnar_memory_buffer.proofs.Runs.{offset_at-more, offset_at-le-last_of}
use Rattle.columnar_memory_buffer.proofs.offsets.Offsets.start_end.Goals as goal

pub returns-clause-ordered : goal.returns-clause-ordered
returns-clause-ordered g c = omega (arith, offset_at-more c.args.self.now c.args.index c.requires, c.number.ensures.value, c.number-2.ensures.value)

pub returns-clause-within : goal.returns-clause-within
returns-clause-within g c = omega (arith, offset_at-le-last_of c.args.self.now (c.args.index + 1), c.number-2.ensures.value)
