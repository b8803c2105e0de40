use Rattle.std.proofs.Common.{◌≡◌, ◌∙◌, ap, sym, if◌then◌else◌}
use Rattle.columnar_memory_bitmap.proofs.Places.{packed_next_byte}
use Rattle.columnar_memory_bitmap.proofs.mutable.push_bit.Goals as goal
use Rattle.columnar_memory_bitmap.proofs.mutable.push_bit.Goals.{then-value, else-value}

pub returns-in_ok-push-clause-packed : goal.returns-in_ok-push-clause-packed
returns-in_ok-push-clause-packed c =
    let is : c.if-value.push ≡ (if c.args.value then 1 else 0) = elim c.if-value.branch [
      | then-value w ↦ w.push-is ∙ ap (λ t. if t then 1 else 0) (sym w.if-value.true)
      | else-value w ↦ w.push-is ∙ ap (λ t. if t then 1 else 0) (sym w.if-value.false)
    ] in
    rw c.in_ok-push.ensures.items (packed_next_byte c.args.to.now.items c.args.held c.if-value.push c.args.value c.requires.packed
    c.if-held-eq0.true is)
