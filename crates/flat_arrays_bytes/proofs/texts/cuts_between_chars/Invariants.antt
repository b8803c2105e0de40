use Rattle.std.proofs.Common.{◌≤◌, length, sum}
use Rattle.std.specs.Prelude.{◌↔◌}
use Rattle.flat_arrays_bytes.specs.Texts.{CutsBetweenChars}
use Rattle.flat_arrays_bytes.proofs.texts.cuts_between_chars.Given as goal

-- what is left is cut between characters exactly where the whole is, if the spans before it begin between characters
abbrev pub invariant-loop-length : goal.invariant-loop-length
invariant-loop-length g l = record {
  same : CutsBetweenChars l.offsets.lengths l.window ↔ CutsBetweenChars l.length-iterator l.rest;
  held : sum l.length-iterator ≤ length l.rest;
}
