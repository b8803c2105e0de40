use Rattle.std.proofs.Common.{◌∙◌, ◌≤◌, length, take, get_or, ap, sym, arith}
use Rattle.std.specs.List.{list_all}
use Rattle.std.proofs.lemmas.Bool.{and_from}
use Rattle.std.proofs.lemmas.List.{take_all}
use Rattle.std.proofs.lemmas.List.Folds.{list_all_more}
use Rattle.nested_arrays_flat.specs.FlatColumns.{is_native}
use Rattle.nested_arrays_flat.proofs.InRange.{native_in_range}
use Rattle.nested_arrays_flat.proofs.ranges.read_each.Goals as goal

pub loop-value-preserved : goal.loop-value-preserved
loop-value-preserved g c =
    let xs = c.args.values.now in
    let i = c.loop-value.value-index in
    list_all_more (λ value. is_native g.T.NativeType.PRIMITIVE (g.T.NativeType.numbers value)) xs i c.value-item.result c.loop-value-test.true
    ∙ and_from (list_all (λ value. is_native g.T.NativeType.PRIMITIVE (g.T.NativeType.numbers value)) (take i xs))
    (is_native g.T.NativeType.PRIMITIVE (g.T.NativeType.numbers (get_or xs i c.value-item.result))) c.loop-value.invariant
    (ap (λ value. is_native g.T.NativeType.PRIMITIVE (g.T.NativeType.numbers value)) (sym c.value-item.is)
    ∙ native_in_range _ _ c.to_le_bytes-bytes.ensures.native)

pub returns : goal.returns
returns g c =
    let whole : length c.args.values.now ≤ c.loop-value.value-index = omega (arith, c.loop-value-test.false) in
    ap (list_all (λ value. is_native g.T.NativeType.PRIMITIVE (g.T.NativeType.numbers value)))
    (sym (take_all c.loop-value.value-index c.args.values.now whole)) ∙ c.loop-value.invariant
