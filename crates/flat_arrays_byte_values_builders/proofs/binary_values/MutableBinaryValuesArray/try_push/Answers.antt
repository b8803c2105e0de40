use Rattle.std.specs.Prelude.{true}
use Rattle.flat_arrays_bytes.specs.Fits.{binary_layout}
use Rattle.flat_arrays_byte_values_builders.proofs.Kept.{UnmaskedOf, kept_by_growth, unmasked-pushed}
use Rattle.flat_arrays_byte_values_builders.specs.Growing.{pushed}
use Rattle.flat_arrays_byte_values_builders.proofs.binary_values.MutableBinaryValuesArray.try_push.Goals as goal

pub invariant_of-self : goal.invariant_of-self
invariant_of-self g c =
    let a = c.self.inside.builder in
    kept_by_growth (UnmaskedOf (binary_layout g.O.Offset.IS_LARGE)) g.O.Index.greatest a (pushed a c.args.value.now true) c.try_push.new.self
    c.try_push.result c.try_push.ensures.grown c.self.invariant (c.self.invariant.0, unmasked-pushed a c.args.value.now c.self.invariant.1)
