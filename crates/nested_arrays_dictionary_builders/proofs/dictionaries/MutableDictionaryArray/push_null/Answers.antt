use Rattle.nested_arrays_dictionary_builders.proofs.KeyedParts.{null_keyed, null_pushed}
use Rattle.nested_arrays_dictionary_builders.proofs.dictionaries.MutableDictionaryArray.push_null.Goals as goal

pub invariant_of-self : goal.invariant_of-self
invariant_of-self g c = null_keyed c.self.invariant c.add_use.new.marks c.add_use.new.uses c.add_use.result c.add_use.ensures

pub returns : goal.returns
returns g c =
    rw (← c.self.view_is) (null_pushed c.self.invariant c.add_use.new.marks c.add_use.new.uses c.add_use.result c.add_use.ensures)
