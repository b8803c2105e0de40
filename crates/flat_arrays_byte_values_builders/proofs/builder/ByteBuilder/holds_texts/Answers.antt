use Rattle.std.proofs.Common.{◌≤◌, length, refl, sym, ◌∙◌, arith}
use Rattle.flat_arrays_bytes.proofs.Places.{text_among}
use Rattle.flat_arrays_bytes.proofs.Slots.{length_values}
use Rattle.flat_arrays_bytes.specs.ByteStrings.{values_of}
use Rattle.flat_arrays_byte_values_builders.proofs.Kept.{texts_all, texts_more}
use Rattle.flat_arrays_byte_values_builders.proofs.builder.ByteBuilder.holds_texts.Goals as goal
use mathlib.Core.Bool.{true≢false}

pub loop-index-preserved : goal.loop-index-preserved
loop-index-preserved g c =
    texts_more (values_of c.args.self.now) c.loop-index.index c.value.result.now c.loop-index.invariant c.value.ensures
    (c.is_utf8.ensures.0 c.if-not-is_utf8.false)

pub returns-then-not-is_utf8 : goal.returns-then-not-is_utf8
returns-then-not-is_utf8 g c = (
  (λ h. absurd (true≢false (sym h))),
  (λ h. absurd (true≢false (sym (c.is_utf8.ensures.1 (text_among (values_of c.args.self.now) c.loop-index.index c.value.result.now h c.value.ensures))
      ∙ c.if-not-is_utf8.true))),
)

pub returns : goal.returns
returns g c =
    let within : length (values_of c.args.self.now) ≤ c.loop-index.index = omega (arith, length_values c.args.self.now, c.len-count.ensures.value) in
    ((λ _. texts_all (values_of c.args.self.now) c.loop-index.index within c.loop-index.invariant), (λ _. refl))
