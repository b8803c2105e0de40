-- Limits of slots that take the same of each column.
use Rattle.std.specs.Prelude.{◌≡◌, ◌⊎◌, ℕ, ◌^◌, ◌<◌, ◌≤◌, List, Option, Some, None, slice_get}
use Rattle.ipc_format_column_writing.specs.column_reading.grammar.Messages.{FieldNode, natural}

-- no node has 2^63 slots or more
abbrev pub AreSmall : List FieldNode → Type 0
AreSmall nodes = (k : ℕ) (node : FieldNode) (n : ℕ) → slice_get nodes k ≡ Some node → natural node.length ≡ Some n → n < 2 ^ 63

abbrev pub IsBig : Option ℕ → Type 0
IsBig None = ⊥
IsBig (Some limit) = 2 ^ 63 ≤ limit

-- limits that take the same of each column: one limit, or two that are above all lengths
abbrev pub AlikeLimits : List FieldNode → Option ℕ → Option ℕ → Type 0
AlikeLimits nodes old new = (old ≡ new) ⊎ (AreSmall nodes × IsBig old × IsBig new)
