-- `==` of types and fields, which holds of the same values alone.
use Rattle.std.specs.Prelude.{◌≡◌, Bool}
use Rattle.std.specs.Bool.{Decides}
use Rattle.std.specs.Cmp.{IsEquivalence, IsPartialEquivalence}
use Rattle.columnar_memory_types.specs.Sameness.{same, same-Decides, same_equivalence, same_partial_equivalence}
use Rattle.columnar_memory_types.specs.declared.data_type.DataType.{DataType}
use Rattle.columnar_memory_types.specs.declared.data_type.Field.{Field}
use Rattle.columnar_memory_types.specs.contracts.data_type.DataType as data_type
use Rattle.columnar_memory_types.specs.contracts.data_type.Field as field

-- whether two types are the same
abbrev pub same_type : DataType → DataType → Bool
same_type = same data_type.the_row.coded

-- whether two fields are the same
abbrev pub same_field : Field → Field → Bool
same_field = same field.the_row.coded

pub same_type-Decides : (x y : DataType) → Decides (same_type x y) (x ≡ y)
same_type-Decides = same-Decides data_type.the_row.coded

pub same_field-Decides : (x y : Field) → Decides (same_field x y) (x ≡ y)
same_field-Decides = same-Decides field.the_row.coded

pub same_type-per : IsPartialEquivalence same_type
same_type-per = same_partial_equivalence data_type.the_row.coded

pub same_field-per : IsPartialEquivalence same_field
same_field-per = same_partial_equivalence field.the_row.coded

pub same_type-equivalence : IsEquivalence same_type
same_type-equivalence = same_equivalence data_type.the_row.coded

pub same_field-equivalence : IsEquivalence same_field
same_field-equivalence = same_equivalence field.the_row.coded

-- for proofs about `==` of types and fields
pub ruleset equality = (same_type-Decides, same_field-Decides)
