use Rattle.std.proofs.Common.{◌≡◌, ◌∙◌, ap, rules, sym}
use Rattle.std.specs.Prelude.{Some}
use Rattle.nested_arrays_dictionary_builders.proofs.NumberItems.{number_same}
use Rattle.nested_arrays_dictionary_builders.proofs.numbers.is_number.Goals as goal

pub returns : goal.returns
returns g c =
    let y = c.value.result in
    let x = c.args.item in
    let tested : c.eq.result ≡ g.T.PartialEq.eq y x = search rules in
    let law = g.met.T.NativeType.eq_law y x in
    let same = number_same g.T.NativeType.PRIMITIVE g.T.DictionaryKey.KEY_TYPE g.met.T.DictionaryKey.key_law g.T.NativeType.numbers
    g.T.Number.value g.met.T.Index.numbers_law c.args.numbers.now c.len-whole.ensures.whole g.met.T.Index.value_law c.args.place y x c.requires
    (c.is_valid.ensures ∙ ap Some c.if-not-is_valid.false) c.value.ensures in (
      λ is. same.0 (law.0 (sym tested ∙ is)),
      λ shown. tested ∙ law.1 (same.1 shown),
    )
