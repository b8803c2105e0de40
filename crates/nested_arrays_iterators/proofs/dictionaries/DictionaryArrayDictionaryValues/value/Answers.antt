use Rattle.std.proofs.Common.{◌∙◌, sym}
use Rattle.nested_arrays_core.specs.columns.StoredColumns.{place_of, slot_at}
use Rattle.nested_arrays_iterators.proofs.NamedSlots.{key_shows}
use Rattle.nested_arrays_iterators.proofs.dictionaries.DictionaryArrayDictionaryValues.value.Goals as goal

pub returns : goal.returns
returns g c = c.new.ensures ∙ (λ j. slot_at (c.values.ensures j) (place_of (sym c.key_value.ensures j)))
    ∙ key_shows c.args.self.now _ _ _ _ c.args.index c.keys-keys.ensures
