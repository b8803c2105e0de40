use Rattle.std.proofs.Common.{◌≤◌, ◌+◌, length, ap, ◌∙◌, arith}
use Rattle.flat_arrays_bytes.specs.ByteStrings.{cut_mask, len_of}
use Rattle.flat_arrays_bytes.proofs.Cuts.{held_after, mask_holds}
use Rattle.flat_arrays_bytes.proofs.column.ByteColumn.slice.Goals as goal

pub cut_of_mask-requires : goal.cut_of_mask-requires
cut_of_mask-requires g c =
    let a = c.self.inside in
    let within : c.args.offset + c.args.count ≤ length a.offsets.lengths = omega (arith, c.requires, ap len_of c.self.view_is) in
    rw c.take.ensures.value (mask_holds (length a.offsets.lengths) (c.args.offset + c.args.count) a.validity within c.self.invariant.0)

pub invariant_of-self : goal.invariant_of-self
invariant_of-self g c =
    let a = c.self.inside in
    let within : c.args.offset + c.args.count ≤ length a.offsets.lengths = omega (arith, c.requires, ap len_of c.self.view_is) in
    held_after a.offsets c.slice.new.self a.values a.validity c.cut_of_mask.result c.args.offset c.args.count c.slice.ensures
    (c.cut_of_mask.ensures ∙ ap (λ mask. cut_mask mask c.args.offset c.args.count) c.take.ensures.value) within c.self.invariant.0 c.self.invariant.1
