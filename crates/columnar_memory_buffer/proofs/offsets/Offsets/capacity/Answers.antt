use Rattle.std.proofs.Common.{arith, refl}
use Rattle.columnar_memory_buffer.proofs.Runs.{length-seen}
use Rattle.columnar_memory_buffer.proofs.offsets.Offsets.capacity.Goals as goal

pub returns : goal.returns
returns g c =
    let held = c.self.inside.values in
    let n = length-seen g.O.Number.value held.items held.items c.args.self.now c.self.invariant c.self.view_is refl in omega (
      arith,
      n,
      held.ok.0,
      held.ok.1,
      c.capacity.ensures,
    )
