use Rattle.std.proofs.Common.{◌∙◌, arith, refl, sym}
use Rattle.std.proofs.lemmas.Bool.{false≢true}
use Rattle.nested_arrays_parts.proofs.flat_lemmas.SamePlaces.{slots_by_place, slots_count}
use Rattle.nested_arrays_arrays.proofs.layouts.same_places.Goals as goal

pub returns-then-slots-count : goal.returns-then-slots-count
returns-then-slots-count g c =
    let left = g.A.CompareSlots.column c.args.left.now in
    let right = g.A.CompareSlots.column c.args.right.now in (
      λ is. absurd (false≢true is),
      λ equal. absurd (c.if-slots-count.true (c.count-slots.ensures ∙ slots_count left right equal ∙ sym c.count.ensures)),
    )

pub returns-then-not-has_slot_of : goal.returns-then-not-has_slot_of
returns-then-not-has_slot_of g c =
    let left = g.A.CompareSlots.column c.args.left.now in
    let right = g.A.CompareSlots.column c.args.right.now in
    let both = slots_by_place left right c.count-slots.result c.count-slots.ensures (c.if-slots-count.false ∙ c.count.ensures) in (
      λ is. absurd (false≢true is),
      λ equal. absurd (false≢true (sym c.if-not-has_slot_of.true ∙ c.has_slot_of.ensures.1 (both.1 equal c.loop-i.i c.loop-i-test.true))),
    )

pub returns : goal.returns
returns g c =
    let left = g.A.CompareSlots.column c.args.left.now in
    let right = g.A.CompareSlots.column c.args.right.now in
    let both = slots_by_place left right c.count-slots.result c.count-slots.ensures (c.if-slots-count.false ∙ c.count.ensures) in
    (λ is. both.0 (λ k h. c.loop-i.invariant k (omega arith)), λ equal. refl)
