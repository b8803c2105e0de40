-- How lists lie in memory by the width of their offsets.
use Rattle.std.specs.Prelude.{Bool, true, false}
use Rattle.nested_arrays_builders.specs.columnar_memory.declared.PhysicalType.{PhysicalType}
use Rattle.nested_arrays_builders.specs.columnar_memory.declared.PhysicalType.TheVariants as physical

abbrev pub lists_layout : Bool → PhysicalType
lists_layout true = physical.LargeList
lists_layout false = physical.List
