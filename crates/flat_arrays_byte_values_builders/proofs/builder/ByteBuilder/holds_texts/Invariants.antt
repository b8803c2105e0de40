use Rattle.std.proofs.Common.{take}
use Rattle.flat_arrays_bytes.specs.ByteStrings.{values_of}
use Rattle.flat_arrays_bytes.specs.Texts.{AllTexts}
use Rattle.flat_arrays_byte_values_builders.proofs.builder.ByteBuilder.holds_texts.Given as goal

-- the values before this place are texts
abbrev pub invariant-loop-index : goal.invariant-loop-index
invariant-loop-index g l = AllTexts (take l.index (values_of l.self))
