use Rattle.std.proofs.Common.{◌<◌, ◌≡◌, ℕ, ap, subst, sym}
use Rattle.nested_arrays_core.specs.columns.StoredColumns.{column_len, place_of}
use Rattle.nested_arrays_core.specs.Dictionaries.{raw_key, values_of}
use Rattle.nested_arrays_iterators.proofs.TypedItems.{keyed_item}
use Rattle.nested_arrays_iterators.proofs.typed.TypedValuesArrayAccessor.value.Goals as goal

pub value-requires : goal.value-requires
value-requires g c =
    let it = c.args.self.now in
    let place : place_of (raw_key it.array.now c.args.index) ≡ c.key_value.result = ap place_of c.key_value.ensures in
    subst (λ (n : ℕ). c.key_value.result < n) (sym it.counted)
    (subst (λ (k : ℕ). k < column_len (values_of it.array.now)) place (it.named c.args.index c.requires).1)

pub returns : goal.returns
returns g c =
    let it = c.args.self.now in
    keyed_item g.V.ArrayAccessor.is_item it.array.now it.values c.args.index c.key_value.result c.value.result
    (ap place_of c.key_value.ensures) c.value.ensures
