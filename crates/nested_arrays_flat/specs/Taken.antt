-- What taking an array of numbers out of one of any kind answers.
use Rattle.std.specs.Prelude.{◌≡◌, Bool, List, Option, Result, MatchOption, MatchResult}
use Rattle.flat_arrays_core.specs.columnar_memory.declared.DataType.{DataType}
use Rattle.flat_arrays_core.specs.columnar_memory.declared.PhysicalType.TheVariants as physical
use Rattle.flat_arrays_core.specs.columnar_memory.declared.PrimitiveType.{PrimitiveType}
use Rattle.flat_arrays_core.specs.columnar_memory.Layouts.{physical_type}
use Rattle.flat_arrays_core.specs.columnar_memory.Numbers.{Numbers}
use Rattle.flat_arrays_core.specs.Flat.{Flat, flat, IsFlat}
use Rattle.nested_arrays_columns.specs.StoredColumns.{Column, column_type}
use Rattle.nested_arrays_flat.specs.ColumnMasks.{column_mask}
use Rattle.nested_arrays_flat.specs.FlatColumns.{primitive_column}

-- a column lies in memory as numbers of a kind
abbrev pub IsOfKind : PrimitiveType → Column → Type 0
IsOfKind kind column = physical_type (column_type column) ≡ physical.Primitive kind

-- what was given, which is of another kind
abbrev pub IsLeft : PrimitiveType → Column → Column → Type 0
IsLeft kind column other = (other ≡ column) × ¬ IsOfKind kind column

-- the array whose column it is, or what was given, where it is of another kind
abbrev pub Takes : {T : Type 0} → PrimitiveType → (T → Numbers) → Column → Result (Flat T) Column → Type 0
Takes kind number column r = MatchResult r (λ array. primitive_column kind number array ≡ column) (IsLeft kind column)

-- parts are those of the array whose column it is
abbrev pub ArePartsOf : {T : Type 0} → PrimitiveType → (T → Numbers) → Column → DataType → List T → Option (List Bool) → Type 0
ArePartsOf kind number column data_type values validity =
    (primitive_column kind number (flat data_type values validity) ≡ column) × IsFlat (physical.Primitive kind) (flat data_type values validity)

-- the values of the array whose column it is, or none where it is of another kind
abbrev pub Shows : {T : Type 0} → PrimitiveType → (T → Numbers) → Column → Option (List T) → Type 0
Shows kind number column r = MatchOption r (¬ IsOfKind kind column)
    (λ values. primitive_column kind number (flat (column_type column) values (column_mask column)) ≡ column)

-- the array whose column it is, or none where it is of another kind
abbrev pub IsInside : {T : Type 0} → PrimitiveType → (T → Numbers) → Column → Option (Flat T) → Type 0
IsInside kind number column r = MatchOption r (¬ IsOfKind kind column) (λ array. primitive_column kind number array ≡ column)
