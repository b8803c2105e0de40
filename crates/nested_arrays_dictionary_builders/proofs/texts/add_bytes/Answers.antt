use Rattle.std.proofs.Common.{◌≡◌, ℕ, List, rules, subst}
use Rattle.nested_arrays_sized_builders.specs.nulls.columns.Slots.{bytes}
use Rattle.nested_arrays_sized_builders.specs.cells.taken.builders.values.ByteBuilders.{open_binary}
use Rattle.nested_arrays_sized_builders.specs.MarkedSlots.{AddsSlot}
use Rattle.nested_arrays_dictionary_builders.proofs.ByteItems.{binary_pushed}
use Rattle.nested_arrays_dictionary_builders.proofs.texts.add_bytes.Goals as goal

pub returns : goal.returns
returns g c =
    let own = c.args.strings.now in
    let call = c.push_bytes in
    let same : c.as_slice.result.now ≡ c.args.item.now.items = search rules in
    subst (λ (item : List ℕ). AddsSlot (open_binary own) (bytes item) (open_binary call.new.strings) call.result) same
    (binary_pushed g.O.Offset.IS_LARGE own c.whole.ensures g.O.Index.greatest c.as_slice.result.now call.new.strings call.result
    g.met.O.Offset.large_law call.ensures.bytes call.ensures.slot)
