use Rattle.std.proofs.Common.{◌≡◌, ◌∙◌, sym, ap, arith, length, rules}
use Rattle.columnar_memory_bitmap.specs.Runs.{runs_left}
use Rattle.columnar_memory_bitmap.proofs.RunLemmas.{next_run, no_run, no_run_behind}
use Rattle.columnar_memory_bitmap.proofs.slices.SlicesIteratorIterator.next.Goals as goal

pub returns-then-begin-eq0-clause-steps : goal.returns-then-begin-eq0-clause-steps
returns-then-begin-eq0-clause-steps c =
    let s = c.self.inside in
    let begin = c.pass-begin.result in
    let end : begin.place ≡ length s.values.now = c.pass-begin.ensures.all c.if-begin-eq0.true in (
      ap runs_left (sym c.self.view_is) ∙ no_run s.values.now s.cursor.place begin.place c.pass-begin.ensures.passed end,
      no_run_behind s.values.now begin.place end,
    )

pub returns-clause-steps : goal.returns-clause-steps
returns-clause-steps c =
    let s = c.self.inside in
    let begin = c.pass-begin.result in
    let end = c.pass-end.result in
    ap runs_left (sym c.self.view_is)
    ∙ next_run s.values.now s.cursor.place begin.place end.place c.pass-begin.ensures.passed c.pass-end.ensures.passed
    (omega (arith, c.pass-begin.ensures.holds.within, c.if-begin-eq0.false))
    (omega (arith, c.pass-end.ensures.holds.within))

pub returns-clause-goes : goal.returns-clause-goes
returns-clause-goes c =
    let step = ap length (returns-clause-steps c) in
    search rules
