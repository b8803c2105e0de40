use Rattle.std.specs.Prelude.{◌↔◌, IsTrue}
use Rattle.nested_arrays_parts.specs.Ranges.{SameLengths}
use Rattle.nested_arrays_parts.proofs.strings.same_lengths.Given as goal

-- whether the byte strings before are as long
abbrev pub invariant-loop-k : goal.invariant-loop-k
invariant-loop-k g l = IsTrue l.are_same ↔ SameLengths l.left.lengths l.i l.right.lengths l.j l.k
