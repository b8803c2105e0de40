use Rattle.nested_arrays_builder_values.specs.Newest.{IsLinked}
use Rattle.nested_arrays_builder_values.proofs.chains.linked.Given as goal

-- the first hashes are linked
abbrev pub invariant-loop-hash : goal.invariant-loop-hash
invariant-loop-hash l = IsLinked l.count l.heads.items l.before.items l.hashes l.hash-index
