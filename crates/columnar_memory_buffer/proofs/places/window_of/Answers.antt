use Rattle.std.proofs.Common.{◌≡◌, ◌+◌, ◌-◌, ◌≤◌, arith, suc, subst, sym, take, drop, length, ℕ}
use Rattle.columnar_memory_buffer.specs.Spans.{AreOffsets, spans_between, stored}
use Rattle.columnar_memory_buffer.proofs.Runs.{AreOffsets-window}
use Rattle.columnar_memory_buffer.proofs.places.window_of.Goals as goal

pub returns : goal.returns
returns g c =
    let s = stored g.O.Number.value c.args.offsets.now in
    let count : c.args.start + c.args.count + 1 - c.args.start ≡ suc c.args.count = omega arith in
    let le : c.args.start ≤ length s.lengths = omega (arith, c.requires.within) in
    subst (λ (n : ℕ). AreOffsets g.O.Number.value (take n (drop c.args.start c.args.offsets.now)) (spans_between s c.args.start c.args.count))
    (sym count)
    (AreOffsets-window g.O.Number.value c.args.offsets.now s c.args.start c.args.count c.requires.offsets_stand le)
