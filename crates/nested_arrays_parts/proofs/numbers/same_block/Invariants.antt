use Rattle.std.proofs.Common.{map}
use Rattle.std.specs.Prelude.{◌↔◌, IsTrue}
use Rattle.nested_arrays_parts.specs.Ranges.{SameStored}
use Rattle.nested_arrays_flat.specs.FlatColumns.{stored_numbers}
use Rattle.nested_arrays_parts.proofs.numbers.same_block.Given as goal

-- whether the numbers before are the same
abbrev pub invariant-loop-k : goal.invariant-loop-k
invariant-loop-k g l = IsTrue l.are_same ↔ SameStored (stored_numbers g.T.NativeType.PRIMITIVE (map g.T.NativeType.numbers l.left)) l.i
    (stored_numbers g.T.NativeType.PRIMITIVE (map g.T.NativeType.numbers l.right)) l.j l.k
