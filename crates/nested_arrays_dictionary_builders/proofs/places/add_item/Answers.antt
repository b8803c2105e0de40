use Rattle.std.proofs.Common.{refl}
use mathlib.Core.Logic.{inl, inr}
use Rattle.nested_arrays_dictionary_builders.proofs.places.add_item.Goals as goal

pub returns-in-Some : goal.returns-in-Some
returns-in-Some g c = inl (c.in-Some.place, c.in-Some.ensures.place.0, c.in-Some.ensures.place.1, refl, refl, c.add_use.ensures)

pub returns-in-None : goal.returns-in-None
returns-in-None g c = inr (c.in-None.ensures.place, c.add_value.ensures)
