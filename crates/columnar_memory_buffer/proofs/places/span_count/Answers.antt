use Rattle.std.proofs.Common.{arith}
use Rattle.columnar_memory_buffer.proofs.Runs.{length-stored}
use Rattle.columnar_memory_buffer.proofs.places.span_count.Goals as goal

pub overflow_sub-result : goal.overflow_sub-result
overflow_sub-result g c = omega (arith, length-stored g.O.Number.value c.args.offsets.now c.requires)

pub returns-clause-count : goal.returns-clause-count
returns-clause-count g c = omega (arith, length-stored g.O.Number.value c.args.offsets.now c.requires)

pub returns-clause-held : goal.returns-clause-held
returns-clause-held g c = omega (arith, length-stored g.O.Number.value c.args.offsets.now c.requires)
