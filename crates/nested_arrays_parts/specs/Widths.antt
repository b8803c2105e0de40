-- Offsets of lists, of either width.
use Rattle.nested_arrays_flat.specs.columnar_memory.Spans.{Spans}
use Rattle.nested_arrays_flat.specs.columnar_memory.declared.PhysicalType.{PhysicalType}
use Rattle.nested_arrays_flat.specs.columnar_memory.declared.PhysicalType.TheVariants as physical
use Rattle.nested_arrays_parts.specs.declared.offsets.ListOffsets.{ListOffsets}
use Rattle.nested_arrays_parts.specs.declared.offsets.ListOffsets.TheVariants as width

abbrev pub spans_in : ListOffsets → Spans
spans_in (width.Small offsets) = offsets
spans_in (width.Large offsets) = offsets

-- how lists with such offsets lie in memory
abbrev pub layout_of : ListOffsets → PhysicalType
layout_of (width.Small offsets) = physical.List
layout_of (width.Large offsets) = physical.LargeList
