use Rattle.std.proofs.Common.{subst, sym}
use Rattle.flat_arrays_byte_values_builders.specs.bytes.Fits.{text_layout}
use Rattle.flat_arrays_byte_values_builders.proofs.First.{texts-first}
use Rattle.flat_arrays_byte_values_builders.proofs.Kept.{TextsOf}
use Rattle.flat_arrays_byte_builders.proofs.utf8.MutableUtf8Array.truncate.Goals as goal

pub invariant_of-self : goal.invariant_of-self
invariant_of-self g c =
    subst (TextsOf (text_layout g.O.Offset.IS_LARGE)) (sym c.truncate.ensures.cut)
    (c.self.invariant.0, texts-first c.self.inside.builder c.args.len c.truncate.ensures.whole c.self.invariant.1)
