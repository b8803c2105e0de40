use Rattle.flat_arrays_byte_values_builders.specs.bytes.Fits.{text_layout}
use Rattle.flat_arrays_byte_values_builders.proofs.Kept.{TextsOf, kept_by_pop, popped_text, texts-without_last}
use Rattle.flat_arrays_byte_builders.proofs.utf8.MutableUtf8Array.pop.Goals as goal

pub from_utf8_unchecked-requires : goal.from_utf8_unchecked-requires
from_utf8_unchecked-requires g c =
    popped_text c.self.inside.builder c.pop.new.self c.in-Some.bytes.items (rw c.in-Some.is at c.in_ok-bytes.ensures.popped) c.self.invariant.1

pub invariant_of-self-2 : goal.invariant_of-self-2
invariant_of-self-2 g c =
    let a = c.self.inside.builder in
    kept_by_pop (TextsOf (text_layout g.O.Offset.IS_LARGE)) a c.pop.new.self _ c.pop.result c.pop.ensures.popped c.self.invariant
    (c.self.invariant.0, texts-without_last a c.pop.ensures.whole c.self.invariant.1)
