use Rattle.std.proofs.Common.{[]}
use Rattle.std.proofs.lemmas.Str.{IsUtf8-nil}
use Rattle.std.specs.Prelude.{false}
use Rattle.flat_arrays_byte_values_builders.specs.bytes.Fits.{text_layout}
use Rattle.flat_arrays_byte_values_builders.proofs.Kept.{TextsOf, kept_by_change, texts-pushed}
use Rattle.flat_arrays_byte_values_builders.specs.Growing.{pushed}
use Rattle.flat_arrays_byte_builders.proofs.utf8.MutableUtf8Array.push_null.Goals as goal

pub invariant_of-self : goal.invariant_of-self
invariant_of-self g c =
    let a = c.self.inside.builder in
    kept_by_change (TextsOf (text_layout g.O.Offset.IS_LARGE)) a (pushed a [] false) c.push_null.new.self c.push_null.result c.push_null.ensures.null
    c.self.invariant (c.self.invariant.0, texts-pushed a [] false c.push_null.ensures.whole c.self.invariant.1 IsUtf8-nil)
