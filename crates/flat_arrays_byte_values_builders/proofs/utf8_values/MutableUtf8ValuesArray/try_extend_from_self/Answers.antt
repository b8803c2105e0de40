use Rattle.flat_arrays_bytes.specs.Fits.{text_layout}
use Rattle.flat_arrays_byte_values_builders.proofs.Kept.{UnmaskedTextsOf, kept_by_growth, texts-joined, unmasked-joined}
use Rattle.flat_arrays_byte_values_builders.specs.Growing.{joined}
use Rattle.flat_arrays_byte_values_builders.proofs.utf8_values.MutableUtf8ValuesArray.try_extend_from_self.Goals as goal

pub invariant_of-self : goal.invariant_of-self
invariant_of-self g c =
    let a = c.self.inside.builder in
    let b = c.other.inside.builder in
    kept_by_growth (UnmaskedTextsOf (text_layout g.O.Offset.IS_LARGE)) g.O.Index.greatest a (joined a b) c.try_extend_from_self.new.self
    c.try_extend_from_self.result c.try_extend_from_self.ensures.grown c.self.invariant (
      c.self.invariant.0,
      unmasked-joined a b c.self.invariant.1 c.other.invariant.1,
      texts-joined a b c.try_extend_from_self.ensures.whole c.self.invariant.2 c.other.invariant.2,
    )
