use Rattle.std.proofs.Common.{◌≡◌}
use Rattle.columnar_memory_types.specs.Pairs.{value_at}
use Rattle.columnar_memory_types.proofs.metadata.Metadata.get_str.Given as goal

-- the pairs that were passed have other keys
abbrev pub invariant-loop-name : goal.invariant-loop-name
invariant-loop-name l =
    (goal.iterator-loop-name).can_next l.name-iterator ×
    (goal.iterator-loop-name).is_finite l.name-iterator ×
    (value_at l.key l.name-iterator ≡ value_at l.key l.self)
