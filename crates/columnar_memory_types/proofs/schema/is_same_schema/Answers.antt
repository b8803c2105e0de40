use Rattle.std.proofs.Common.{rules}
use Rattle.columnar_memory_types.specs.Equality.{same_field-Decides}
use Rattle.columnar_memory_types.proofs.schema.is_same_schema.Goals as goal

pub returns-then-eq : goal.returns-then-eq
returns-then-eq c = let fields = c.eq.ensures.exact same_field-Decides in search (rules, fields)

pub returns-else-eq : goal.returns-else-eq
returns-else-eq c = let fields = c.eq.ensures.exact same_field-Decides in search (rules, fields)
