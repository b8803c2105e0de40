use Rattle.columnar_memory_kernels.proofs.Pairwise.{values_turned}
use Rattle.columnar_memory_kernels.proofs.assign.unary_assign.Goals as goal

pub returns-clause-bits : goal.returns-clause-bits
returns-clause-bits g c = λ table acts.
    values_turned g.T.FixedWidth.bits_of g.T.ChunkWidth.bits g.met.T.ChunkWidth.some table _ c.args.lhs.now _ acts c.unary_in_place.ensures
