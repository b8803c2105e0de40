use Rattle.std.proofs.Common.{◌∙◌, ap, arith, sym}
use Rattle.nested_arrays_core.specs.columns.StoredColumns.{column_len, slot_at}
use Rattle.nested_arrays_iterators.proofs.NamedSlots.{named_place}
use Rattle.nested_arrays_iterators.proofs.dictionaries.slot_named.Goals as goal

pub new-requires : goal.new-requires
new-requires g c =
    let named = named_place c.args.array.now _ _ _ _ c.args.i c.in-Some.place c.keys-keys.ensures c.whole.ensures.0 c.requires
    (sym c.in-Some.is ∙ c.key.ensures) in
    omega (arith, named.0, ap column_len c.values.ensures)

pub returns-in-Some : goal.returns-in-Some
returns-in-Some g c =
    let named = named_place c.args.array.now _ _ _ _ c.args.i c.in-Some.place c.keys-keys.ensures c.whole.ensures.0 c.requires
    (sym c.in-Some.is ∙ c.key.ensures) in
    (named.1.0, named.1.1, c.new.ensures ∙ ap (λ values. slot_at values c.in-Some.place) c.values.ensures ∙ named.1.2)
