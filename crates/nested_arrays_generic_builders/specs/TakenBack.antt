-- Slots that are taken back off the first of several builders.
use Rattle.std.specs.Prelude.{ℕ, ◌<◌, ◌≤◌, ◌-◌, List, length, take, All}
use Rattle.nested_arrays_cells.specs.parts.Open.{Open, first_slots}

-- an open column without its last slot
abbrev pub without_last : Open → Open
without_last o = first_slots o (length o.slots - 1)

-- each of the first n has a slot
abbrev pub HaveOneMore : ℕ → List Open → Type 0
HaveOneMore n children = (n ≤ length children) × All (λ o. 0 < length o.slots) (take n children)
