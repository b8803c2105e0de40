use Rattle.std.proofs.Common.{[]}
use Rattle.std.proofs.lemmas.Str.{IsUtf8-nil}
use Rattle.std.specs.Prelude.{false, true}
use Rattle.flat_arrays_byte_values_builders.specs.bytes.Fits.{text_layout}
use Rattle.flat_arrays_byte_values_builders.proofs.Kept.{TextsOf, kept_by_growth, texts-pushed}
use Rattle.flat_arrays_byte_values_builders.specs.Growing.{pushed}
use Rattle.flat_arrays_byte_builders.proofs.utf8.MutableUtf8Array.try_push.Goals as goal

pub invariant_of-self : goal.invariant_of-self
invariant_of-self g c =
    let a = c.self.inside.builder in
    let x = c.as_bytes.result.now in
    kept_by_growth (TextsOf (text_layout g.O.Offset.IS_LARGE)) g.O.Index.greatest a (pushed a x true) c.try_push.new.self c.try_push.result
    c.try_push.ensures.grown c.self.invariant
    (c.self.invariant.0, texts-pushed a x true c.try_push.ensures.whole c.self.invariant.1 c.as_bytes.ensures.utf8)

pub invariant_of-self-in-None : goal.invariant_of-self-in-None
invariant_of-self-in-None g c =
    let a = c.self.inside.builder in
    kept_by_growth (TextsOf (text_layout g.O.Offset.IS_LARGE)) g.O.Index.greatest a (pushed a [] false) c.try_push-in-None.new.self
    c.try_push-in-None.result c.try_push-in-None.ensures.grown c.self.invariant
    (c.self.invariant.0, texts-pushed a [] false c.try_push-in-None.ensures.whole c.self.invariant.1 IsUtf8-nil)
