use Rattle.std.specs.Prelude.{true}
use Rattle.flat_arrays_bytes.specs.Fits.{text_layout}
use Rattle.flat_arrays_byte_values_builders.proofs.Kept.{UnmaskedTextsOf, kept_by_growth, texts-pushed, unmasked-pushed}
use Rattle.flat_arrays_byte_values_builders.specs.Growing.{pushed}
use Rattle.flat_arrays_byte_values_builders.proofs.utf8_values.MutableUtf8ValuesArray.try_push.Goals as goal

pub invariant_of-self : goal.invariant_of-self
invariant_of-self g c =
    let a = c.self.inside.builder in
    let x = c.as_bytes.result.now in
    kept_by_growth (UnmaskedTextsOf (text_layout g.O.Offset.IS_LARGE)) g.O.Index.greatest a (pushed a x true) c.try_push.new.self c.try_push.result
    c.try_push.ensures.grown c.self.invariant (
      c.self.invariant.0,
      unmasked-pushed a x c.self.invariant.1,
      texts-pushed a x true c.try_push.ensures.whole c.self.invariant.2 c.as_bytes.ensures.utf8,
    )
