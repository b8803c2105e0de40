-- Arrays without children, by how they lie in memory.
use Rattle.std.specs.Prelude.{Bool, true, false}
use Rattle.nested_arrays_flat.specs.columnar_memory.declared.PhysicalType.{PhysicalType}
use Rattle.nested_arrays_flat.specs.columnar_memory.declared.PhysicalType.TheVariants as physical

-- whether arrays that lie in memory so have no children
abbrev pub is_childless : PhysicalType → Bool
is_childless physical.List = false
is_childless physical.FixedSizeList = false
is_childless physical.LargeList = false
is_childless physical.Struct = false
is_childless physical.Union = false
is_childless physical.Map = false
is_childless (physical.Dictionary key) = false
is_childless _ = true
