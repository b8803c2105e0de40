use Rattle.std.proofs.Common.{rules}
use Rattle.std.proofs.lemmas.Slice.Eq.{slice_eq-Decides}
use Rattle.columnar_memory_buffer.proofs.buffer.BufferPartialEq.eq.Goals as goal

pub returns-clause-exact : goal.returns-clause-exact
returns-clause-exact g c = λ decides.
    let same = slice_eq-Decides decides c.as_slice.result.now c.as_slice-2.result.now c.eq.result c.eq.ensures in search (rules, same)
