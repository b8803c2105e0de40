use Rattle.flat_arrays_bytes.specs.Fits.{text_layout}
use Rattle.flat_arrays_byte_values_builders.proofs.Kept.{UnmaskedTextsOf, kept_by_pop, popped_text, texts-without_last, unmasked-without_last}
use Rattle.flat_arrays_byte_values_builders.proofs.utf8_values.MutableUtf8ValuesArray.pop.Goals as goal

pub from_utf8_unchecked-requires : goal.from_utf8_unchecked-requires
from_utf8_unchecked-requires g c =
    popped_text c.self.inside.builder c.pop.new.self c.in-Some.bytes.items (rw c.in-Some.is at c.in_ok-bytes.ensures.popped) c.self.invariant.2

pub invariant_of-self-2 : goal.invariant_of-self-2
invariant_of-self-2 g c =
    let a = c.self.inside.builder in
    kept_by_pop (UnmaskedTextsOf (text_layout g.O.Offset.IS_LARGE)) a c.pop.new.self _ c.pop.result c.pop.ensures.popped c.self.invariant
    (c.self.invariant.0, unmasked-without_last a c.self.invariant.1, texts-without_last a c.pop.ensures.whole c.self.invariant.2)
