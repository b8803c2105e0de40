use Rattle.std.proofs.Common.{◌≡◌, true, take}
use Rattle.std.specs.List.{list_all}
use Rattle.nested_arrays_flat.specs.FlatColumns.{is_native}
use Rattle.nested_arrays_flat.proofs.ranges.read_each.Given as goal

abbrev pub invariant-loop-value : goal.invariant-loop-value
invariant-loop-value g l = list_all (λ value. is_native g.T.NativeType.PRIMITIVE (g.T.NativeType.numbers value)) (take l.value-index l.values) ≡ true
