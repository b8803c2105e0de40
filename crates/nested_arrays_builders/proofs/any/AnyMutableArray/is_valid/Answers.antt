use Rattle.nested_arrays_builders.proofs.SameNodes.{nested_mark}
use Rattle.nested_arrays_builders.proofs.any.AnyMutableArray.is_valid.Goals as goal

pub returns-in-Nested : goal.returns-in-Nested
returns-in-Nested c = nested_mark c.self.inside.node c.in-Nested.head _ c.args.self.now c.args.i c.is_valid-in-Nested.result c.in-Nested.is
    c.self.view_is c.self.invariant c.is_valid-in-Nested.ensures
