use Rattle.std.proofs.Common.{refl}
use Rattle.nested_arrays_core.specs.Dictionaries.{values_of}
use Rattle.nested_arrays_iterators.proofs.TypedItems.{slots_shown}
use Rattle.nested_arrays_iterators.proofs.typed.DictionaryArrayTypedDictionaryValues.iter_typed.Goals as goal

pub returns-clause-shows : goal.returns-clause-shows
returns-clause-shows g c = λ slot shows.
    slots_shown g.V.ArrayAccessor.is_item slot c.args.self.now _ _ _ _ (values_of c.args.self.now) c.args.values c.args.values
    c.keys-keys.ensures refl refl c.whole.ensures.0 shows
