use Rattle.std.proofs.Common.{◌≤◌, ◌+◌, ℕ, List, length, subst, sym, take, drop, ap, ◌∙◌}
use Rattle.columnar_memory_buffer.specs.Growth.{Grows}
use Rattle.columnar_memory_buffer.specs.Spans.{spans_between, stored}
use Rattle.columnar_memory_buffer.proofs.Runs.{lengths-seen}
use Rattle.columnar_memory_buffer.proofs.offsets.Offsets.try_extend_from_slice.Goals as goal

pub window_of-requires-clause-offsets_stand : goal.window_of-requires-clause-offsets_stand
window_of-requires-clause-offsets_stand g c = (lengths-seen g.O.Number.value c.as_slice.result.now c.args.other.now c.as_slice.ensures).0

pub window_of-requires-clause-within : goal.window_of-requires-clause-within
window_of-requires-clause-within g c =
    subst (λ (ls : List ℕ). c.args.start + c.args.count ≤ length ls) (sym (lengths-seen g.O.Number.value c.as_slice.result.now c.args.other.now
    c.as_slice.ensures).1) c.requires

pub extend_from_offsets-requires : goal.extend_from_offsets-requires
extend_from_offsets-requires g c =
    (lengths-seen g.O.Number.value c.window_of.result.now (spans_between (stored g.O.Number.value c.as_slice.result.now) c.args.start
    c.args.count) c.window_of.ensures).0

pub returns : goal.returns
returns g c =
    subst (λ (ls : List ℕ). Grows g.O.Index.greatest c.args.self.now ls c.extend_from_offsets.new.self c.extend_from_offsets.result)
    ((lengths-seen g.O.Number.value c.window_of.result.now (spans_between (stored g.O.Number.value c.as_slice.result.now) c.args.start
    c.args.count) c.window_of.ensures).1
    ∙ ap (λ ls. take c.args.count (drop c.args.start ls)) (lengths-seen g.O.Number.value c.as_slice.result.now c.args.other.now
    c.as_slice.ensures).1) c.extend_from_offsets.ensures
