use Rattle.std.proofs.Common.{subst, sym}
use Rattle.flat_arrays_bytes.specs.Fits.{binary_layout}
use Rattle.flat_arrays_byte_values_builders.proofs.First.{unmasked-first}
use Rattle.flat_arrays_byte_values_builders.proofs.Kept.{UnmaskedOf}
use Rattle.flat_arrays_byte_values_builders.proofs.binary_values.MutableBinaryValuesArray.truncate.Goals as goal

pub invariant_of-self : goal.invariant_of-self
invariant_of-self g c =
    subst (UnmaskedOf (binary_layout g.O.Offset.IS_LARGE)) (sym c.keep_first.ensures.cut)
    (c.self.invariant.0, unmasked-first c.self.inside.builder c.args.len c.self.invariant.1)
