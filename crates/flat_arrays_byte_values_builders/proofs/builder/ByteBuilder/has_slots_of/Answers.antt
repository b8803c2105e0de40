use Rattle.std.proofs.Common.{◌≡◌, ◌<◌, ℕ, length, sym, refl, arith}
use Rattle.flat_arrays_bytes.specs.ByteStrings.{slots_of}
use Rattle.flat_arrays_bytes.proofs.Slots.{length_slots, same_elements, same_len}
use Rattle.flat_arrays_byte_values_builders.proofs.builder.ByteBuilder.has_slots_of.Goals as goal
use mathlib.Core.Bool.{true≢false}

pub returns-then-count-len : goal.returns-then-count-len
returns-then-count-len g c =
    let a = c.args.self.now in
    let b = c.args.other.now in (
      (λ h. absurd (true≢false (sym h))),
      (λ (e : slots_of a ≡ slots_of b). absurd (omega (arith, same_len a b c.len-count.ensures.whole.masked c.len.ensures.whole.masked e))),
    )

pub returns : goal.returns
returns g c =
    let a = c.args.self.now in
    let b = c.args.other.now in
    let first : length (slots_of a) ≡ c.len-count.result =
    omega (arith, length_slots a c.len-count.ensures.whole.masked, c.len-count.ensures.value) in
    let second : length (slots_of b) ≡ c.len.result = omega (arith, length_slots b c.len.ensures.whole.masked, c.len.ensures.value) in
    let lengths : length (slots_of a) ≡ length (slots_of b) = omega (arith, first, second) in (
      (λ h. same_elements (slots_of a) (slots_of b) lengths (λ (k : ℕ) (lt : k < length (slots_of a)). c.loop-index.invariant k
          (omega (arith, first)))),
      (λ e. refl),
    )
