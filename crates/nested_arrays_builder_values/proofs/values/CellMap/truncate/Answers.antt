use Rattle.std.proofs.Common.{rules, ◌≡◌, ◌∙◌, map, take, sym, ap}
use Rattle.std.proofs.lemmas.List.{take-map}
use Rattle.nested_arrays_builder_parts.specs.Scalars.{scalar_slot}
use Rattle.nested_arrays_builder_values.specs.Hashes.{cell_hash}
use Rattle.nested_arrays_builder_values.proofs.values.CellMap.truncate.Goals as goal

pub invariant_of-self : goal.invariant_of-self
invariant_of-self c =
    let first : c.truncate.new.self.items ≡ take c.args.len c.self.inside.cells.items = search rules in
    c.truncate-2.ensures ∙ ap (take c.args.len) c.self.invariant ∙ take-map cell_hash c.args.len c.self.inside.cells.items
    ∙ sym (ap (map cell_hash) first)

pub returns : goal.returns
returns c =
    let first : c.truncate.new.self.items ≡ take c.args.len c.self.inside.cells.items = search rules in
    ap (map scalar_slot) first ∙ sym (take-map scalar_slot c.args.len c.self.inside.cells.items) ∙ ap (take c.args.len) c.self.view_is
