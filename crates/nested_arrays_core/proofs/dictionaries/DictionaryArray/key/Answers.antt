use Rattle.std.proofs.Common.{◌∙◌, sym}
use Rattle.nested_arrays_core.proofs.DictionaryParts.{key_is_place}
use Rattle.nested_arrays_core.proofs.dictionaries.DictionaryArray.key.Goals as goal

pub key_value-requires-clause-place : goal.key_value-requires-clause-place
key_value-requires-clause-place g c =
    key_is_place _ _ _ _ _ c.args.i c.self.view_is c.whole.ensures.0 c.requires (sym c.is_valid.ensures ∙ c.if-not-is_valid.false)
