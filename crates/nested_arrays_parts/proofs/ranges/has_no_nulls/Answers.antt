use Rattle.std.proofs.Common.{◌≡◌, ◌∙◌, ◌+◌, ◌≤◌, Some, ap, length, option_copied, rules, sym}
use Rattle.std.proofs.lemmas.Bool.{eq-eqb, eqb-true}
use Rattle.nested_arrays_flat.specs.columns.StoredColumns.{is_valid_at}
use Rattle.nested_arrays_parts.proofs.Marks.{marks_set}
use Rattle.nested_arrays_parts.proofs.ranges.has_no_nulls.Goals as goal

pub returns-in-Some : goal.returns-in-Some
returns-in-Some c =
    let there : option_copied c.args.validity ≡ Some c.in-Some.mask.now = search rules in
    let within : c.args.i + c.args.count ≤ length c.in-Some.mask.now = search rules in
    let both = marks_set c.in-Some.mask.now c.args.i c.args.count within in (
      λ is k h. ap (λ mask. is_valid_at mask (c.args.i + k)) there
          ∙ both.0 (sym c.null_count_range.ensures ∙ eqb-true c.null_count_range.result 0 is) k h,
      λ each. eq-eqb c.null_count_range.result 0 (c.null_count_range.ensures
          ∙ both.1 (λ k h. ap (λ mask. is_valid_at mask (c.args.i + k)) (sym there) ∙ each k h)),
    )
