use Rattle.std.proofs.Common.{◌≡◌, ℕ, ◌+◌, ◌-◌, ◌≤◌, ◌<◌, length}
use Rattle.std.specs.Prelude.{Some, slice_get}
use Rattle.columnar_memory_bitmap.specs.Runs.{HoldsBits}
use Rattle.columnar_memory_bitmap.proofs.slices.pass.Given as goal

abbrev pub invariant-words : goal.invariant-words
invariant-words l =
    HoldsBits l.values l.place l.word l.left × (l.fn.from.place ≤ l.place)
    × ((k : ℕ) → l.fn.from.place + k < l.place → slice_get l.values (l.fn.from.place + k) ≡ Some l.value)

abbrev pub decreases-words : goal.decreases-words
decreases-words l = length l.values - (l.place + l.left)
