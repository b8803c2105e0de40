use Rattle.std.proofs.Common.{◌∙◌, ◌+◌, ap, arith, sym, option_copied}
use Rattle.std.proofs.lemmas.Bool.{false≢true}
use Rattle.nested_arrays_flat.specs.columns.StoredColumns.{is_valid_at}
use Rattle.nested_arrays_parts.proofs.Marks.{marks_of_range}
use Rattle.nested_arrays_parts.proofs.SameForms.{bare_ranges, behind_in, joined, rest_of}
use Rattle.nested_arrays_parts.proofs.ranges.same_slots.Goals as goal

pub has_no_nulls-requires : goal.has_no_nulls-requires
has_no_nulls-requires c =
    marks_of_range c.args.left.now (option_copied c.validity.result) c.args.i c.args.count c.whole.ensures c.validity.ensures c.requires.left_within

pub has_no_nulls-requires-then-has_no_nulls : goal.has_no_nulls-requires-then-has_no_nulls
has_no_nulls-requires-then-has_no_nulls c =
    marks_of_range c.args.right.now (option_copied c.validity-then-has_no_nulls.result) c.args.j c.args.count c.whole-2.ensures
    c.validity-then-has_no_nulls.ensures c.requires.right_within

pub returns-then-has_no_nulls-2 : goal.returns-then-has_no_nulls-2
returns-then-has_no_nulls-2 c =
    let whole = bare_ranges c.args.left.now c.args.right.now c.args.i c.args.j c.args.count
    (λ k h. ap (λ mask. is_valid_at mask (c.args.i + k)) (sym c.validity.ensures) ∙ c.has_no_nulls.ensures.0 c.if-has_no_nulls.true k h)
    (λ k h. ap (λ mask. is_valid_at mask (c.args.j + k)) (sym c.validity-then-has_no_nulls.ensures)
    ∙ c.has_no_nulls-then-has_no_nulls.ensures.0 c.if-has_no_nulls-2.true k h) in
    (λ is. whole.0 (c.same_values.ensures.0 is), λ same. c.same_values.ensures.1 (whole.1 same))

pub returns-then-not-same_block : goal.returns-then-not-same_block
returns-then-not-same_block c = (
  λ is. absurd (false≢true is),
  λ same. absurd (false≢true (sym c.if-not-same_block.true
      ∙ c.same_block.ensures.1 (behind_in c.args.left.now c.args.right.now c.args.i c.args.j c.loop-k.k 1024 c.args.count (omega arith) same))),
)

pub loop-k-preserved : goal.loop-k-preserved
loop-k-preserved c = (
  omega arith,
  joined c.args.left.now c.args.right.now c.args.i c.args.j c.loop-k.k 1024 c.loop-k.invariant.1 (c.same_block.ensures.0 c.if-not-same_block.false),
)

pub returns : goal.returns
returns c =
    let rest = rest_of c.args.left.now c.args.right.now c.args.i c.args.j c.loop-k.k c.args.count c.loop-k.invariant.0 in
    (λ is. rest.0 c.loop-k.invariant.1 (c.same_block-2.ensures.0 is), λ same. c.same_block-2.ensures.1 (rest.1 same))
