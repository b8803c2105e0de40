use Rattle.std.proofs.Common.{◌∙◌, ◌<◌, ap, subst, sym}
use Rattle.nested_arrays_access.specs.columns.StoredColumns.{Column, column_len, slot_at}
use Rattle.nested_arrays_core.proofs.NamedSlots.{named_by, nothing_named}
use Rattle.nested_arrays_core.proofs.equality.named_at.Goals as goal

pub returns-in-Some : goal.returns-in-Some
returns-in-Some g c =
    let place = c.in-Some.place in
    let named = named_by c.args.array.now _ _ _ _ c.args.i place c.keys-keys.ensures c.whole.ensures.0 c.requires
    (sym c.key.ensures ∙ c.in-Some.is) in (
      named.shown ∙ ap (λ (values : Column). slot_at values place) (sym c.values.ensures),
      subst (λ (values : Column). place < column_len values) (sym c.values.ensures) named.within,
    )

pub returns-in-None : goal.returns-in-None
returns-in-None g c = nothing_named c.args.array.now c.args.i (sym c.key.ensures ∙ c.in-None.is)
