use Rattle.std.proofs.Common.{◌≡◌, ◌∙◌, ◌≤◌, ap, length, arith}
use Rattle.nested_arrays_builder_parts.specs.Open.{Open, first_slots}
use Rattle.nested_arrays_builder_parts.proofs.KeptSlots.{first_kept, first_open, kept_holds_first}
use Rattle.nested_arrays_builder_parts.proofs.flat.FlatBuilder.truncate.Goals as goal

pub invariant_of-self : goal.invariant_of-self
invariant_of-self c =
    let old = c.self.inside in
    let slots = ap (λ (o : Open). o.slots) c.self.view_is in
    first_kept old.data_type old.marks old.values c.self.invariant c.args.len c.truncate-2.new.self c.truncate.new.self
    (omega (arith, ap length slots, c.requires)) c.truncate-2.ensures c.truncate.ensures

pub returns : goal.returns
returns c =
    let old = c.self.inside in
    let slots = ap (λ (o : Open). o.slots) c.self.view_is in
    first_open old.data_type old.marks old.values c.self.invariant c.args.len c.truncate-2.new.self c.truncate.new.self
    (omega (arith, ap length slots, c.requires)) c.truncate-2.ensures c.truncate.ensures
    ∙ ap (λ (o : Open). first_slots o c.args.len) c.self.view_is

pub truncate-requires : goal.truncate-requires
truncate-requires c =
    let old = c.self.inside in
    let slots = ap (λ (o : Open). o.slots) c.self.view_is in
    kept_holds_first old.data_type old.marks old.values c.self.invariant c.args.len (omega (arith, ap length slots, c.requires))
