use Rattle.std.proofs.Common.{◌≡◌, ◌++◌, map}
use Rattle.ipc_format_values.specs.ValueObjects.{pair_view}
use Rattle.ipc_format_values.proofs.pairs.pairs_of.Given as goal

abbrev pub invariant-loop-key : goal.invariant-loop-key
invariant-loop-key l =
    (goal.iterator-loop-key).can_next l.key-iterator ×
    (goal.iterator-loop-key).is_finite l.key-iterator ×
    (map pair_view l.made ++ l.key-iterator ≡ l.pairs)
