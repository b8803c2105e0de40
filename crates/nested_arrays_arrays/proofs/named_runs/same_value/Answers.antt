use Rattle.std.proofs.Common.{◌∙◌, sym}
use Rattle.std.proofs.lemmas.Bool.{false≢true}
use Rattle.nested_arrays_parts.proofs.SameForms.{one_slot}
use Rattle.nested_arrays_arrays.proofs.named_runs.same_value.Goals as goal

pub returns-then-not-same_slots_counted-clause-same : goal.returns-then-not-same_slots_counted-clause-same
returns-then-not-same_slots_counted-clause-same g c =
    let one = one_slot c.args.values.now c.args.others.now c.args.place c.args.other in (
      λ is. absurd (false≢true is),
      λ same. absurd (false≢true (sym c.if-not-same_slots_counted.true ∙ c.same_slots_counted.ensures.same.1 (one.1 same))),
    )
