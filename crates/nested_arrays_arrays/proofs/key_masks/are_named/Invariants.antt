use Rattle.std.proofs.Common.{◌≡◌, true}
use Rattle.nested_arrays_parts.specs.columns.SoundColumns.{has_value_at, holds_below}
use Rattle.nested_arrays_arrays.specs.NamedValues.{firsts}
use Rattle.nested_arrays_arrays.proofs.key_masks.are_named.Given as goal

abbrev pub invariant-loop-i : goal.invariant-loop-i
invariant-loop-i g l = holds_below l.i (has_value_at l.validity (firsts g.K.NativeType.numbers l.keys.values) l.count) ≡ true
