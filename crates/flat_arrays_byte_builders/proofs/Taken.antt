-- Builders that took arrays over.
use Rattle.std.proofs.Common.{◌≡◌, ◌≤◌, length, subst, sym}
use Rattle.flat_arrays_byte_values_builders.specs.columnar_memory.Spans.{last_of}
use Rattle.flat_arrays_byte_values_builders.specs.bytes.ByteStrings.{ByteStrings, values_of}
use Rattle.flat_arrays_byte_values_builders.specs.bytes.Texts.{AllTexts}
use Rattle.flat_arrays_byte_values_builders.proofs.Growth.{values_of-trimmed}
use Rattle.flat_arrays_byte_values_builders.specs.Growing.{trimmed}

-- the values are texts as before
pub texts_kept : (a b : ByteStrings) → b ≡ trimmed a → last_of a.offsets ≤ length a.bytes → AllTexts (values_of a) → AllTexts (values_of b)
texts_kept a b same within texts = subst AllTexts (sym (values_of-trimmed a b same within)) texts
