use Rattle.std.proofs.Common.{◌≡◌, ◌∙◌, ◌≤◌, ap, sym, length, take, arith}
use Rattle.std.proofs.lemmas.List.{length-take-le}
use Rattle.nested_arrays_builder_parts.specs.Marks.{marks}
use Rattle.nested_arrays_core.specs.arrays.columns.Kinds.{most_slots}
use Rattle.nested_arrays_builder_parts.proofs.MarkLists.{marks_back, kept_marks}
use Rattle.nested_arrays_builder_parts.proofs.marks.Marks.truncate.Goals as goal

pub invariant_of-self : goal.invariant_of-self
invariant_of-self c =
    let held = marks c.self.inside.len c.take-bitmap.result in
    let same = ap (marks c.self.inside.len) c.take-bitmap.ensures.value in
    let all : length held ≡ c.self.inside.len = ap length same ∙ c.self.invariant.long in
    let inside : c.args.len ≤ length held = omega (arith, ap length (same ∙ c.self.view_is), c.requires) in
    let few : c.args.len ≤ most_slots = omega (arith, inside, all, c.self.invariant.within) in
    kept_marks (take c.args.len held) c.args.len c.first_marks-nulls.result.0 c.first_marks-nulls.result.1
    (length-take-le c.args.len held inside) few c.first_marks-nulls.ensures.counted c.first_marks-nulls.ensures.made

pub returns : goal.returns
returns c =
    let held = marks c.self.inside.len c.take-bitmap.result in
    let same = ap (marks c.self.inside.len) c.take-bitmap.ensures.value ∙ c.self.view_is in
    let inside : c.args.len ≤ length held = omega (arith, ap length same, c.requires) in
    ap (marks c.args.len) c.first_marks-nulls.ensures.made
    ∙ marks_back (take c.args.len held) c.args.len (length-take-le c.args.len held inside)
    ∙ ap (take c.args.len) same
