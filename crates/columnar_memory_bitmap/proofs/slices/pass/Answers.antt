use Rattle.std.proofs.Common.{◌∙◌, ℕ, ◌+◌, ◌<◌, ap, arith, length}
use Rattle.std.specs.Prelude.{Some}
use Rattle.columnar_memory_bitmap.proofs.Passing.{holds_behind, same_more}
use Rattle.columnar_memory_bitmap.proofs.slices.pass.Goals as goal

pub returns-then-same-left-clause-holds : goal.returns-then-same-left-clause-holds
returns-then-same-left-clause-holds c =
    holds_behind c.args.values.now c.words.place c.words.word c.words.left c.equal_places-same.result c.words.invariant.0
    (omega arith)

pub returns-then-same-left-clause-passed : goal.returns-then-same-left-clause-passed
returns-then-same-left-clause-passed c =
    let holds = c.words.invariant.0 in
    record {
      forward = omega (arith, c.words.invariant.1);
      same = same_more c.args.values.now c.args.value c.args.from.place c.words.place c.words.word c.words.left
          c.equal_places-same.result c.words.invariant.2 holds (omega arith) c.equal_places-same.ensures.same;
      ends = λ (more : c.words.place + c.equal_places-same.result < length c.args.values.now).
          holds.same c.equal_places-same.result c.if-same-left.true
          ∙ ap Some (c.equal_places-same.ensures.ends (omega (arith, holds.few, c.if-same-left.true)));
    }

pub returns-then-left-eq0-clause-holds : goal.returns-then-left-eq0-clause-holds
returns-then-left-eq0-clause-holds c = record {
  few = omega arith;
  within = omega (arith, c.words.invariant.0.within);
  same = λ (k : ℕ) (inside : k < c.min-left.result). absurd (omega arith);
}

pub returns-then-left-eq0-clause-passed : goal.returns-then-left-eq0-clause-passed
returns-then-left-eq0-clause-passed c = record {
  forward = omega (arith, c.words.invariant.1);
  same = same_more c.args.values.now c.args.value c.args.from.place c.words.place c.words.word c.words.left c.words.left
      c.words.invariant.2 c.words.invariant.0 (omega arith) (λ (k : ℕ) (inside : k < c.words.left).
      c.equal_places-same.ensures.same k (omega arith));
  ends = λ (more : c.words.place + c.words.left < length c.args.values.now). absurd (omega arith);
}

pub words-preserved : goal.words-preserved
words-preserved c = (
  c.load-word.ensures,
  omega (arith, c.words.invariant.1),
  same_more c.args.values.now c.args.value c.args.from.place c.words.place c.words.word c.words.left c.words.left
      c.words.invariant.2 c.words.invariant.0 (omega arith) (λ (k : ℕ) (inside : k < c.words.left).
      c.equal_places-same.ensures.same k (omega arith)),
)
