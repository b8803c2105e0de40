use Rattle.std.proofs.Common.{◌≡◌, ◌+◌}
use Rattle.nested_arrays_parts.proofs.ranges.count_each.Given as goal

-- a step for each number before
abbrev pub invariant-loop : goal.invariant-loop
invariant-loop l = l.steps.count ≡ l.initial.steps.count + l.counter
