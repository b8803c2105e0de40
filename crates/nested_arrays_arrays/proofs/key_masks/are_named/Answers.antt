use Rattle.std.proofs.Common.{◌∙◌, ◌<◌, length, sym, arith}
use Rattle.nested_arrays_parts.specs.columns.SoundColumns.{has_value_at}
use Rattle.nested_arrays_arrays.specs.NamedValues.{firsts}
use Rattle.nested_arrays_arrays.proofs.KeyMasks.{firsts_count}
use Rattle.nested_arrays_arrays.proofs.UnionParts.{fails_below}
use Rattle.nested_arrays_arrays.proofs.key_masks.are_named.Goals as goal

pub returns-then-not-is_named : goal.returns-then-not-is_named
returns-then-not-is_named g c =
    let keys = firsts g.K.NativeType.numbers c.args.keys.now.values in
    let small : c.loop-i.i < length keys =
    omega (arith, c.loop-i-test.true, c.len-i-end.ensures.value, firsts_count g.K.NativeType.numbers c.args.keys.now.values) in
    sym (fails_below (length keys) (has_value_at c.args.validity.now keys c.args.count) c.loop-i.i small
    (sym c.is_named.ensures ∙ c.if-not-is_named.true))
