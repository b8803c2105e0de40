use Rattle.std.proofs.Common.{◌≡◌, ℕ, List, rules, subst}
use Rattle.std.specs.String.{string_bytes}
use Rattle.nested_arrays_sized_builders.specs.nulls.columns.Slots.{text}
use Rattle.nested_arrays_sized_builders.specs.cells.taken.builders.values.ByteBuilders.{open_text}
use Rattle.nested_arrays_sized_builders.specs.MarkedSlots.{AddsSlot}
use Rattle.nested_arrays_dictionary_builders.proofs.ByteItems.{text_pushed}
use Rattle.nested_arrays_dictionary_builders.proofs.texts.add_text.Goals as goal

pub returns : goal.returns
returns g c =
    let own = c.args.texts.now in
    let call = c.push_text in
    let same : c.as_str.result.now ≡ string_bytes c.args.item.now = search rules in
    subst (λ (item : List ℕ). AddsSlot (open_text own) (text item) (open_text call.new.texts) call.result) same
    (text_pushed g.O.Offset.IS_LARGE own c.whole.ensures.layout g.O.Index.greatest c.as_str.result.now call.new.texts call.result
    g.met.O.Offset.large_law call.ensures.text call.ensures.slot)
