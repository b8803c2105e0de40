use Rattle.nested_arrays_arrays.proofs.UnionParts.{child_there}
use Rattle.nested_arrays_arrays.proofs.unions.UnionArray.index.Goals as goal

pub returns-in-Some-clause-within : goal.returns-in-Some-clause-within
returns-in-Some-clause-within c = child_there c.args.self.now _ _ _ c.self.inside.fields.items c.args.i c.self.view_is c.self.invariant c.requires

pub returns-in-None-clause-within : goal.returns-in-None-clause-within
returns-in-None-clause-within c = child_there c.args.self.now _ _ _ c.self.inside.fields.items c.args.i c.self.view_is c.self.invariant c.requires
