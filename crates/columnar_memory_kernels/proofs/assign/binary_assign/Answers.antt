use Rattle.columnar_memory_kernels.proofs.Pairwise.{values_combined}
use Rattle.columnar_memory_kernels.proofs.assign.binary_assign.Goals as goal

pub returns-clause-bits : goal.returns-clause-bits
returns-clause-bits g c = λ table acts.
    values_combined g.T.FixedWidth.bits_of g.T.ChunkWidth.bits g.met.T.ChunkWidth.some table _ c.args.lhs.now c.args.rhs.now _
    c.requires.lengths acts c.binary_in_place.ensures
