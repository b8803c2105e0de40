use Rattle.std.proofs.Common.{◌∙◌, ◌+◌, ap, refl, sym, option_copied}
use Rattle.nested_arrays_flat.specs.columns.StoredColumns.{is_valid_at}
use Rattle.nested_arrays_parts.proofs.Marks.{marks_of_range}
use Rattle.nested_arrays_parts.proofs.SameForms.{marked_ranges}
use Rattle.nested_arrays_parts.proofs.ranges.same_block.Goals as goal

pub same_marks-requires-clause-left_within : goal.same_marks-requires-clause-left_within
same_marks-requires-clause-left_within c =
    marks_of_range c.args.left.now (option_copied c.validity.result) c.args.i c.args.count c.whole.ensures c.validity.ensures c.requires.left_within

pub same_marks-requires-clause-right_within : goal.same_marks-requires-clause-right_within
same_marks-requires-clause-right_within c =
    marks_of_range c.args.right.now (option_copied c.validity-2.result) c.args.j c.args.count c.whole-2.ensures c.validity-2.ensures
    c.requires.right_within

pub returns-then-same_values : goal.returns-then-same_values
returns-then-same_values c = (
  λ _. marked_ranges c.args.left.now c.args.right.now c.args.i c.args.j c.args.count
      (λ k h. ap (λ mask. is_valid_at mask (c.args.i + k)) (sym c.validity.ensures) ∙ c.same_marks.ensures c.if-same_marks.true k h
      ∙ ap (λ mask. is_valid_at mask (c.args.j + k)) c.validity-2.ensures)
      (c.same_values.ensures.0 c.if-same_values.true),
  λ _. refl,
)
