use Rattle.std.proofs.Common.{ℕ, List, subst}
use Rattle.columnar_memory_buffer.specs.Growth.{Grows}
use Rattle.columnar_memory_buffer.proofs.Runs.{lengths-seen}
use Rattle.columnar_memory_buffer.proofs.offsets.Offsets.try_extend_from_self.Goals as goal

pub extend_from_offsets-requires : goal.extend_from_offsets-requires
extend_from_offsets-requires g c = (lengths-seen g.O.Number.value c.as_slice.result.now c.args.other.now c.as_slice.ensures).0

pub returns : goal.returns
returns g c =
    subst (λ (ls : List ℕ). Grows g.O.Index.greatest c.args.self.now ls c.extend_from_offsets.new.self c.extend_from_offsets.result)
    (lengths-seen g.O.Number.value c.as_slice.result.now c.args.other.now c.as_slice.ensures).1 c.extend_from_offsets.ensures
