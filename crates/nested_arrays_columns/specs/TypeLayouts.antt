-- What the layer of a type is, by how its arrays lie in memory (Arrow columnar format, "Physical Memory Layout").
use Rattle.std.specs.Prelude.{◌≡◌, ℕ, Bool, List, Some}
use Rattle.nested_arrays_columns.specs.columnar_memory.declared.DataType.{DataType}
use Rattle.nested_arrays_columns.specs.columnar_memory.declared.DataType.TheOpen as layer
use Rattle.nested_arrays_columns.specs.columnar_memory.declared.Field.{Field}
use Rattle.nested_arrays_columns.specs.columnar_memory.declared.PhysicalType.{PhysicalType}
use Rattle.nested_arrays_columns.specs.columnar_memory.declared.PhysicalType.TheVariants as physical
use Rattle.nested_arrays_columns.specs.columnar_memory.Layouts.{physical_type}
use Rattle.nested_arrays_columns.specs.Kinds.{kind_of}
use Rattle.nested_arrays_columns.specs.StoredColumns.{type_layer}

-- whether a layer is of types that lie in memory so; of unions nothing more is said
abbrev pub IsLaidAs : PhysicalType → layer.DataType-F DataType Field → Type 0
IsLaidAs physical.Null x = x ≡ layer.Null
IsLaidAs physical.Boolean x = x ≡ layer.Boolean
IsLaidAs (physical.Primitive kind) x = kind_of x ≡ Some kind
IsLaidAs physical.Binary x = x ≡ layer.Binary
IsLaidAs physical.FixedSizeBinary x = (size : ℕ) × (x ≡ layer.FixedSizeBinary size)
IsLaidAs physical.LargeBinary x = x ≡ layer.LargeBinary
IsLaidAs physical.Utf8 x = x ≡ layer.Utf8
IsLaidAs physical.LargeUtf8 x = x ≡ layer.LargeUtf8
IsLaidAs physical.List x = (item : Field) × (x ≡ layer.List item)
IsLaidAs physical.FixedSizeList x = (item : Field) × (size : ℕ) × (x ≡ layer.FixedSizeList item size)
IsLaidAs physical.LargeList x = (item : Field) × (x ≡ layer.LargeList item)
IsLaidAs physical.Struct x = (children : List Field) × (x ≡ layer.Struct children)
IsLaidAs physical.Union x = Unit {0}
IsLaidAs physical.Map x = (entry : Field) × (is_sorted : Bool) × (x ≡ layer.Map entry is_sorted)
IsLaidAs (physical.Dictionary key) x = (value : DataType) × (is_ordered : Bool) × (x ≡ layer.Dictionary key value is_ordered)

-- the layout of a type tells its layer
abbrev pub LayoutsTell : Type 0
LayoutsTell = (t : DataType) (p : PhysicalType) → physical_type t ≡ p → IsLaidAs p (type_layer t)
