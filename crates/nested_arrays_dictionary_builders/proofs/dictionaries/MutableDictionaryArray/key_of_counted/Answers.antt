use Rattle.nested_arrays_dictionary_builders.proofs.OpenKeys.{none_among}
use Rattle.nested_arrays_dictionary_builders.proofs.dictionaries.MutableDictionaryArray.key_of_counted.Goals as goal

pub returns-in-None-clause-key : goal.returns-in-None-clause-key
returns-in-None-clause-key g c =
    rw (← c.self.view_is)
    (none_among (g.M.MutableArray.column c.self.inside.values) (g.M.TryPush.slot c.args.item.now) c.in-None.ensures.place)
