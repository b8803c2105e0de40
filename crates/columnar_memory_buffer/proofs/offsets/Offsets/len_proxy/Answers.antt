use Rattle.std.proofs.Common.{arith}
use Rattle.columnar_memory_buffer.proofs.Runs.{length-seen}
use Rattle.columnar_memory_buffer.proofs.offsets.Offsets.len_proxy.Goals as goal

pub returns : goal.returns
returns g c =
    let n = length-seen g.O.Number.value c.self.inside.values.items c.as_slice.result.now c.args.self.now c.self.invariant c.self.view_is
    c.as_slice.ensures.value in omega (arith, n)
