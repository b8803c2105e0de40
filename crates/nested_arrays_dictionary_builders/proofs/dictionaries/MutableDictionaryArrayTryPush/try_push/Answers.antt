use Rattle.std.proofs.Common.{◌≡◌, rules}
use Rattle.nested_arrays_sized_builders.specs.nulls.columns.Kinds.{most_values}
use Rattle.nested_arrays_dictionary_builders.proofs.KeyedParts.{item_keyed, item_pushed}
use Rattle.nested_arrays_dictionary_builders.proofs.dictionaries.MutableDictionaryArrayTryPush.try_push.Goals as goal

pub invariant_of-self : goal.invariant_of-self
invariant_of-self g c =
    let call = c.add_item in
    let most : c.most_values_of.result ≡ most_values g.K.DictionaryKey.KEY_TYPE = search rules in
    item_keyed c.self.invariant c.most_values_of.result most (g.M.TryPush.slot c.args.item.now) c.whole_values.ensures call.new.marks call.new.uses
    call.new.places (g.M.MutableArray.column call.new.values) call.result call.ensures

pub returns : goal.returns
returns g c =
    let call = c.add_item in
    let most : c.most_values_of.result ≡ most_values g.K.DictionaryKey.KEY_TYPE = search rules in
    rw (← c.self.view_is)
    (item_pushed c.self.invariant c.most_values_of.result most (g.M.TryPush.slot c.args.item.now) (g.met.M.SlotIs.value_law c.args.item.now)
    call.new.marks call.new.uses call.new.places (g.M.MutableArray.column call.new.values) call.result call.ensures)
