use Rattle.nested_arrays_dictionary_builders.proofs.NumberItems.{hash_above}
use Rattle.nested_arrays_dictionary_builders.proofs.numbers.MutablePrimitiveArraySlotIs.hash_of.Goals as goal

pub returns-in-Some : goal.returns-in-Some
returns-in-Some g c =
    hash_above (g.T.Number.value c.args.item.now) c.in-Some.number g.T.Index.greatest c.in-Some.ensures.number.0 c.in-Some.ensures.number.1
    g.met.T.Index.greatest_law.1
