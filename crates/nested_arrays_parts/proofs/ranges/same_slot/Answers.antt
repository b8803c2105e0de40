use Rattle.std.proofs.Common.{◌∙◌, sym}
use Rattle.nested_arrays_parts.proofs.SameForms.{one_slot, valid_slot}
use Rattle.nested_arrays_parts.specs.Forms.{bare}
use Rattle.nested_arrays_parts.proofs.ranges.same_slot.Goals as goal

pub returns-then-is_valid-2 : goal.returns-then-is_valid-2
returns-then-is_valid-2 c =
    let left = valid_slot c.args.left.now c.args.i (sym c.is_valid.ensures ∙ c.if-is_valid.true) in
    let right = valid_slot c.args.right.now c.args.j (sym c.is_valid-then-is_valid.ensures ∙ c.if-is_valid-2.true) in
    let one = one_slot (bare c.args.left.now) (bare c.args.right.now) c.args.i c.args.j in
    (λ is. left ∙ one.0 (c.same_values.ensures.0 is) ∙ sym right, λ same. c.same_values.ensures.1 (one.1 (sym left ∙ same ∙ right)))
