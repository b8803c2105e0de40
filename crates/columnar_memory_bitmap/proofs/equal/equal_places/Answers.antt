use Rattle.std.proofs.Common.{◌∙◌, not, sym, ap, arith}
use Rattle.columnar_memory_bitmap.proofs.SameWords.{unset_below, set_at, set_below, unset_at}
use Rattle.columnar_memory_bitmap.proofs.equal.equal_places.Goals as goal

pub returns-then-value-clause-same : goal.returns-then-value-clause-same
returns-then-value-clause-same c = λ k below. set_below c.args.word k (omega arith) below ∙ sym c.if-value.true

pub returns-then-value-clause-ends : goal.returns-then-value-clause-ends
returns-then-value-clause-ends c = λ inside. unset_at c.args.word (omega arith) inside ∙ sym (ap not c.if-value.true)

pub returns-else-value-clause-same : goal.returns-else-value-clause-same
returns-else-value-clause-same c = λ k below. unset_below c.args.word k (omega arith) below ∙ sym c.if-value.false

pub returns-else-value-clause-ends : goal.returns-else-value-clause-ends
returns-else-value-clause-ends c = λ inside. set_at c.args.word (omega arith) inside ∙ sym (ap not c.if-value.false)
