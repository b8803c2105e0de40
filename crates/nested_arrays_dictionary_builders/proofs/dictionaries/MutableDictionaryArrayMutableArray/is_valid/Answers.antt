use Rattle.std.proofs.Common.{◌<◌, arith, length}
use Rattle.std.proofs.lemmas.List.{length-map}
use Rattle.std.specs.Prelude.{pos}
use Rattle.nested_arrays_sized_builders.specs.values.Uses.{key_of}
use Rattle.nested_arrays_dictionary_builders.proofs.KeyedParts.{marked_says, marks_many}
use Rattle.nested_arrays_dictionary_builders.proofs.dictionaries.MutableDictionaryArrayMutableArray.is_valid.Goals as goal

pub is_valid-requires : goal.is_valid-requires
is_valid-requires g c =
    let within = rw (← c.self.view_is) at c.requires in
    omega (arith, within, length-map c.self.inside.uses (λ n. pos (key_of n)), marks_many c.self.invariant)

pub returns : goal.returns
returns g c =
    let within = rw (← c.self.view_is) at c.requires in
    let few : c.args.i < length c.self.inside.marks =
    omega (arith, within, length-map c.self.inside.uses (λ n. pos (key_of n)), marks_many c.self.invariant) in
    rw (← c.self.view_is) (marked_says c.self.invariant c.args.i c.is_valid.result few c.is_valid.ensures)
