use Rattle.std.proofs.Common.{subst, sym}
use Rattle.flat_arrays_bytes.specs.Fits.{text_layout}
use Rattle.flat_arrays_byte_values_builders.proofs.First.{texts-first, unmasked-first}
use Rattle.flat_arrays_byte_values_builders.proofs.Kept.{UnmaskedTextsOf}
use Rattle.flat_arrays_byte_values_builders.proofs.utf8_values.MutableUtf8ValuesArray.truncate.Goals as goal

pub invariant_of-self : goal.invariant_of-self
invariant_of-self g c =
    let a = c.self.inside.builder in
    subst (UnmaskedTextsOf (text_layout g.O.Offset.IS_LARGE)) (sym c.keep_first.ensures.cut) (
      c.self.invariant.0,
      unmasked-first a c.args.len c.self.invariant.1,
      texts-first a c.args.len c.keep_first.ensures.whole c.self.invariant.2,
    )
