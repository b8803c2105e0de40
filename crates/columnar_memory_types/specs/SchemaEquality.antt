-- `==` of schemas, which holds of the same values alone.
use Rattle.std.specs.Prelude.{◌≡◌, Bool}
use Rattle.std.specs.Bool.{Decides}
use Rattle.std.specs.Cmp.{IsEquivalence, IsPartialEquivalence}
use Rattle.columnar_memory_types.specs.Sameness.{same, same-Decides, same_equivalence, same_partial_equivalence}
use Rattle.columnar_memory_types.specs.declared.schema.Schema.{Schema}
use Rattle.columnar_memory_types.specs.contracts.schema.Schema as schema

-- whether two schemas are the same
abbrev pub same_schema : Schema → Schema → Bool
same_schema = same schema.the_row.coded

pub same_schema-Decides : (x y : Schema) → Decides (same_schema x y) (x ≡ y)
same_schema-Decides = same-Decides schema.the_row.coded

pub same_schema-per : IsPartialEquivalence same_schema
same_schema-per = same_partial_equivalence schema.the_row.coded

pub same_schema-equivalence : IsEquivalence same_schema
same_schema-equivalence = same_equivalence schema.the_row.coded
