use Rattle.std.proofs.Common.{◌≡◌, ◌∙◌, []}
use Rattle.nested_arrays_sized_builders.specs.SizedStrings.{sized_parts}
use Rattle.nested_arrays_sized_builders.proofs.SizedPushes.{all_taken}
use Rattle.nested_arrays_sized_builders.proofs.sized_strings.MutableFixedSizeBinaryArray.take.Goals as goal

pub returns-clause-column : goal.returns-clause-column
returns-clause-column c =
    let own = c.self.inside in
    let left : c.replace-values.new.dest.items ≡ [] = (λ j. (c.replace-values.ensures.after j).items) ∙ c.new-2.ensures.items in
    let held : c.replace-values.result.items ≡ own.values.items = λ j. (c.replace-values.ensures.value j).items in
    rw (← c.self.view_is)
    (all_taken (sized_parts own.data_type own.marks own.values.items) c.self.invariant c.replace-marks.new.dest c.replace-values.new.dest.items
    (c.replace-marks.ensures.after ∙ c.new.ensures) left c.replace-marks.result c.replace-values.result.items c.replace-marks.ensures.value
    held c.freeze_under.result c.freeze_under.ensures)
