use Rattle.std.proofs.Common.{◌∙◌, ◌+◌, ap, arith, false, get_or, length, sym}
use Rattle.nested_arrays_flat.specs.columns.Slots.{truth}
use Rattle.nested_arrays_parts.proofs.BitRanges.{bits_of_same_ranges, ranges_of_same_bits, same_truth}
use Rattle.nested_arrays_parts.proofs.values.same_truths.Goals as goal

pub returns : goal.returns
returns c =
    let left = c.values.result.now in
    let right = c.values-2.result.now in
    let i = c.args.i in
    let j = c.args.j in (
      λ is k inside.
          ap (λ bits. truth (get_or bits (i + k) false)) (sym c.values.ensures)
          ∙ ap truth (bits_of_same_ranges left right i j c.args.count (c.same_range.ensures.0 is) k inside)
          ∙ ap (λ bits. truth (get_or bits (j + k) false)) c.values-2.ensures,
      λ same. c.same_range.ensures.1
          (ranges_of_same_bits left right i j c.args.count (omega (arith, c.requires.left_within, ap length c.values.ensures))
          (omega (arith, c.requires.right_within, ap length c.values-2.ensures)) (λ k inside.
          ap (λ bits. get_or bits (i + k) false) c.values.ensures ∙ same_truth _ _ (same k inside)
          ∙ ap (λ bits. get_or bits (j + k) false) (sym c.values-2.ensures))),
    )
