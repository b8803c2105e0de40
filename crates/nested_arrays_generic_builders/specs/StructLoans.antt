-- What a builder of structs holds once the loan of the builder of a field ends.
use Rattle.std.specs.Prelude.{ℕ}
use Rattle.std.specs.Borrow.{Lends, MutBor, Fml}
use Rattle.nested_arrays_cells.specs.builders.contracts.any.AnyMutableArray as builder
use Rattle.nested_arrays_cells.specs.parts.Open.{Open}
use Rattle.nested_arrays_generic_builders.specs.StructBuilders.{StructParts, with_field}
use Rattle.nested_arrays_generic_builders.specs.contracts.structs.MutableStructArray.{the_row}

-- the records end with the field at a place as it was left
abbrev pub LendsChild : MutBor StructParts → ℕ → MutBor Open → Fml
LendsChild s i r = Lends the_row builder.the_row s r (with_field s.now i)
