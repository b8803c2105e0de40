use Rattle.std.proofs.Common.{◌≡◌}
use Rattle.columnar_memory_types.specs.Texts.{are_texts}
use Rattle.columnar_memory_types.proofs.metadata.Metadata.whole.Given as goal

-- the pairs that were passed are texts
abbrev pub invariant-loop-name : goal.invariant-loop-name
invariant-loop-name l =
    (goal.iterator-loop-name).can_next l.name-iterator ×
    (goal.iterator-loop-name).is_finite l.name-iterator ×
    (are_texts l.name-iterator ≡ are_texts l.self)
