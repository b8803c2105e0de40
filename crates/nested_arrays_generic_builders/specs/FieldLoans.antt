-- What the builders of fields hold once the loan of one of them ends.
use Rattle.std.specs.Prelude.{ℕ, List, slice_set}
use Rattle.std.specs.Borrow.{Lends, MutBor, Fml}
use Rattle.nested_arrays_cells.specs.parts.Open.{Open}
use Rattle.nested_arrays_cells.specs.builders.contracts.any.AnyMutableArray as builder
use Rattle.nested_arrays_generic_builders.specs.contracts.fields.MutableFields.{the_row}

-- the builders end with that at a place as it was left
abbrev pub LendsField : MutBor (List Open) → ℕ → MutBor Open → Fml
LendsField s i r = Lends the_row builder.the_row s r (slice_set s.now i)
