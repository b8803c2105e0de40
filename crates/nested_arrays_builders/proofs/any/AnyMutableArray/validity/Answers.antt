use Rattle.std.specs.Option.{option_copied}
use Rattle.nested_arrays_builders.proofs.KeptMasks.{nested_mask}
use Rattle.nested_arrays_builders.proofs.any.AnyMutableArray.validity.Goals as goal

pub returns-in-Nested : goal.returns-in-Nested
returns-in-Nested c = nested_mask c.self.inside.node c.in-Nested.head _ c.args.self.now (option_copied c.validity-in-Nested.result) c.in-Nested.is
    c.self.view_is c.self.invariant c.validity-in-Nested.ensures
