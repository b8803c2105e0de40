use Rattle.std.proofs.Common.{◌∙◌, ◌<◌, ℕ, subst, sym}
use Rattle.nested_arrays_iterators.proofs.TypedItems.{key_place, keyed_item}
use Rattle.nested_arrays_iterators.proofs.typed.TypedSlotsArrayAccessor.value.Goals as goal

pub value-requires : goal.value-requires
value-requires g c =
    let it = c.args.self.now in
    let named = key_place it.array.now _ _ _ _ c.args.index c.in-Some.place c.keys-keys.ensures c.whole.ensures.0 c.requires
    (sym c.in-Some.is ∙ c.key.ensures) in
    subst (λ (n : ℕ). c.in-Some.place < n) (sym it.counted) named.2

pub returns-in-Some : goal.returns-in-Some
returns-in-Some g c =
    let it = c.args.self.now in
    let named = key_place it.array.now _ _ _ _ c.args.index c.in-Some.place c.keys-keys.ensures c.whole.ensures.0 c.requires
    (sym c.in-Some.is ∙ c.key.ensures) in (
      named.0,
      keyed_item g.V.ArrayAccessor.is_item it.array.now it.values c.args.index c.in-Some.place c.value.result named.1 c.value.ensures,
    )
