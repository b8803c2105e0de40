-- How the arrays of each variant may lie in memory.
use Rattle.std.specs.Prelude.{Bool, true, false}
use Rattle.nested_arrays_parts.specs.columnar_memory.declared.PhysicalType.{PhysicalType}
use Rattle.nested_arrays_parts.specs.columnar_memory.declared.PhysicalType.TheVariants as physical
use Rattle.nested_arrays_arrays.specs.AnyColumns.{column_of}
use Rattle.nested_arrays_arrays.specs.declared.any.Node.{Node}
use Rattle.nested_arrays_arrays.specs.declared.any.Node.TheVariants as variant
use Rattle.nested_arrays_parts.specs.Childless.{is_childless}
use Rattle.nested_arrays_parts.specs.FlatLayouts.{layout_in}

-- whether arrays that lie in memory so are dictionaries
abbrev pub is_keyed : PhysicalType → Bool
is_keyed (physical.Dictionary key) = true
is_keyed _ = false

-- whether the arrays of a variant may lie in memory so
abbrev pub may_lie : Node → PhysicalType → Bool
may_lie (variant.Flat array) layout = is_childless layout
may_lie (variant.List node) physical.List = true
may_lie (variant.List node) physical.LargeList = true
may_lie (variant.FixedSizeList array) physical.FixedSizeList = true
may_lie (variant.Struct array) physical.Struct = true
may_lie (variant.Map array) physical.Map = true
may_lie (variant.Union array) physical.Union = true
may_lie (variant.Dictionary node) layout = is_keyed layout
may_lie _ layout = false

-- whether a variant holds an array without children
abbrev pub is_flat_node : Node → Bool
is_flat_node (variant.Flat array) = true
is_flat_node _ = false

-- whether an array lies in memory as its variant says
abbrev pub lies_well : Node → Bool
lies_well node = may_lie node (layout_in (column_of node))
