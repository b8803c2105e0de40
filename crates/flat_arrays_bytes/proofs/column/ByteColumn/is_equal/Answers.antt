use Rattle.std.proofs.Common.{◌∙◌, sym}
use Rattle.flat_arrays_bytes.proofs.column.ByteColumn.is_equal.Goals as goal
use mathlib.Core.Bool.{true≢false}

pub returns-then-has_type_of : goal.returns-then-has_type_of
returns-then-has_type_of g c = (
  (λ h. record { types = c.has_type_of.ensures.0 c.if-has_type_of.true; slots = c.has_slots_of.ensures.0 h }),
  (λ e. c.has_slots_of.ensures.1 e.slots),
)

pub returns-else-has_type_of : goal.returns-else-has_type_of
returns-else-has_type_of g c = (
  (λ h. absurd (true≢false (sym h ∙ c.if-has_type_of.false))),
  (λ e. c.has_type_of.ensures.1 e.types),
)
