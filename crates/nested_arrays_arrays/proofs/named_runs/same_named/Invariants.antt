use Rattle.std.proofs.Common.{◌≡◌, ◌+◌}
use Rattle.nested_arrays_arrays.specs.AnyColumns.{column_of}
use Rattle.nested_arrays_arrays.specs.NamedRuns.{AreSamePairs}
use Rattle.nested_arrays_arrays.specs.declared.any.Node.TheVariants as variant
use Rattle.nested_arrays_parts.specs.Ranges.{SameRanges}
use Rattle.nested_arrays_arrays.proofs.named_runs.same_named.Given as goal

-- the slots before are the same, and so are the values of the pairs that are known; a step was counted for each slot
abbrev pub invariant-loop-k : goal.invariant-loop-k
invariant-loop-k g l = record {
  same : SameRanges (column_of (variant.Dictionary l.left)) l.i (column_of (variant.Dictionary l.right)) l.j l.k;
  known : AreSamePairs l.known.lefts l.known.rights l.values l.others;
  counted : l.steps.count ≡ l.initial.steps.count + l.k;
}
