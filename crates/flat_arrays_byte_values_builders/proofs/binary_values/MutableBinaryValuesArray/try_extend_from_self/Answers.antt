use Rattle.flat_arrays_bytes.specs.Fits.{binary_layout}
use Rattle.flat_arrays_byte_values_builders.proofs.Kept.{UnmaskedOf, kept_by_growth, unmasked-joined}
use Rattle.flat_arrays_byte_values_builders.specs.Growing.{joined}
use Rattle.flat_arrays_byte_values_builders.proofs.binary_values.MutableBinaryValuesArray.try_extend_from_self.Goals as goal

pub invariant_of-self : goal.invariant_of-self
invariant_of-self g c =
    let a = c.self.inside.builder in
    let b = c.other.inside.builder in
    kept_by_growth (UnmaskedOf (binary_layout g.O.Offset.IS_LARGE)) g.O.Index.greatest a (joined a b) c.try_extend_from_self.new.self
    c.try_extend_from_self.result c.try_extend_from_self.ensures.grown c.self.invariant
    (c.self.invariant.0, unmasked-joined a b c.self.invariant.1 c.other.invariant.1)
