-- Masks of arrays of numbers.
use Rattle.nested_arrays_arrays.proofs.flat_lemmas.ColumnParts.{flat_takes}
use Rattle.nested_arrays_arrays.proofs.flat_lemmas.SoundFlats.{masked_from, primitive_len}

pub ruleset masking = (primitive_len, masked_from, flat_takes)
