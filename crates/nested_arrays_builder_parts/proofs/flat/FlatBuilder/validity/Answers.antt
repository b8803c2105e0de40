use Rattle.std.proofs.Common.{◌∙◌, sym}
use Rattle.std.specs.Option.{option_copied}
use Rattle.nested_arrays_builder_parts.proofs.GrownMasks.{nulls_mask, own_mask}
use Rattle.nested_arrays_builder_parts.proofs.flat.FlatBuilder.validity.Goals as goal

pub returns-then-are_nulls : goal.returns-then-are_nulls
returns-then-are_nulls c =
    let own = c.self.inside in
    nulls_mask own.data_type own.marks own.values c.args.self.now c.self.view_is c.self.invariant (sym c.are_nulls.ensures ∙ c.if-are_nulls.true)

pub returns : goal.returns
returns c =
    let own = c.self.inside in
    own_mask own.data_type own.marks own.values c.args.self.now c.self.view_is c.self.invariant (option_copied c.validity.result)
    (sym c.are_nulls.ensures ∙ c.if-are_nulls.false) c.validity.ensures
