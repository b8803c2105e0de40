use Rattle.std.proofs.Common.{arith, refl}
use Rattle.columnar_memory_buffer.proofs.Runs.{length-seen}
use Rattle.columnar_memory_buffer.proofs.offsets_buffer.OffsetsBuffer.len_proxy.Goals as goal

pub returns : goal.returns
returns g c =
    let n = length-seen g.O.Number.value c.self.inside.values c.self.inside.values c.args.self.now c.self.invariant c.self.view_is refl in omega
    (arith, n, c.len.ensures)
