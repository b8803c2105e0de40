use Rattle.std.proofs.Common.{◌∙◌, arith, refl, sym}
use Rattle.std.proofs.lemmas.Bool.{false≢true}
use Rattle.nested_arrays_flat.proofs.SamePlaces.{slots_by_place, slots_count}
use Rattle.nested_arrays_flat.proofs.fixed_size_binary.FixedSizeBinaryArray.has_slots_of.Goals as goal

pub returns-then-count-len : goal.returns-then-count-len
returns-then-count-len c =
    let left = c.args.self.now in
    let right = c.args.other.now in (
      λ is. absurd (false≢true is),
      λ equal. absurd (c.if-count-len.true (c.len-count.ensures ∙ slots_count left right equal ∙ sym c.len.ensures)),
    )

pub returns-then-not-has_slot_of : goal.returns-then-not-has_slot_of
returns-then-not-has_slot_of c =
    let both = slots_by_place c.args.self.now c.args.other.now c.len-count.result c.len-count.ensures (c.if-count-len.false ∙ c.len.ensures) in (
      λ is. absurd (false≢true is),
      λ equal. absurd (false≢true (sym c.if-not-has_slot_of.true ∙ c.has_slot_of.ensures.1 (both.1 equal c.loop-i.i c.loop-i-test.true))),
    )

pub returns : goal.returns
returns c =
    let both = slots_by_place c.args.self.now c.args.other.now c.len-count.result c.len-count.ensures (c.if-count-len.false ∙ c.len.ensures) in
    (λ is. both.0 (λ k h. c.loop-i.invariant k (omega arith)), λ equal. refl)
