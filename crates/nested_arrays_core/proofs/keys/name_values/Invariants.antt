use Rattle.std.proofs.Common.{◌≡◌, map, option_copied, true}
use Rattle.nested_arrays_access.specs.columns.SoundColumns.{has_value_at, holds_below}
use Rattle.nested_arrays_core.proofs.keys.name_values.Given as goal

abbrev pub invariant-loop-i : goal.invariant-loop-i
invariant-loop-i g l = holds_below l.i (has_value_at (option_copied l.validity) (map g.K.Number.value l.keys.values) l.count) ≡ true
