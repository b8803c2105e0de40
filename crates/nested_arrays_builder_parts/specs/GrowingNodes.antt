-- The values that grow in a node.
use Rattle.std.specs.Prelude.{true, false, map, pos}
use Rattle.nested_arrays_core.specs.arrays.columnar_memory.declared.PrimitiveType.TheVariants as kinds
use Rattle.nested_arrays_core.specs.arrays.columnar_memory.Numbers.{one, two, three}
use Rattle.nested_arrays_builder_parts.specs.Growing.{Growing, nothing, truths, whole, strings, sized}
use Rattle.nested_arrays_builder_parts.specs.declared.values.ValuesNode.{ValuesNode}
use Rattle.nested_arrays_builder_parts.specs.declared.values.ValuesNode.TheVariants as variant

abbrev pub growing_of : ValuesNode → Growing
growing_of variant.Nulls = nothing
growing_of (variant.Truths bits) = truths bits
growing_of (variant.Int8 values) = whole kinds.Int8 (map one values.items)
growing_of (variant.Int16 values) = whole kinds.Int16 (map one values.items)
growing_of (variant.Int32 values) = whole kinds.Int32 (map one values.items)
growing_of (variant.Int64 values) = whole kinds.Int64 (map one values.items)
growing_of (variant.Int128 values) = whole kinds.Int128 (map one values.items)
growing_of (variant.Int256 values) = whole kinds.Int256 (map one values.items)
growing_of (variant.UInt8 values) = whole kinds.UInt8 (map (λ x. one (pos x)) values.items)
growing_of (variant.UInt16 values) = whole kinds.UInt16 (map (λ x. one (pos x)) values.items)
growing_of (variant.UInt32 values) = whole kinds.UInt32 (map (λ x. one (pos x)) values.items)
growing_of (variant.UInt64 values) = whole kinds.UInt64 (map (λ x. one (pos x)) values.items)
growing_of (variant.DaysMs values) = whole kinds.DaysMs (map (λ x. two x.0 x.1) values.items)
growing_of (variant.MonthsDaysNs values) = whole kinds.MonthDayNano (map (λ x. three x.0 x.1 x.2) values.items)
growing_of (variant.Binary values) = strings false false values
growing_of (variant.LargeBinary values) = strings false true values
growing_of (variant.FixedSizeBinary size content) = sized size content.items
growing_of (variant.Utf8 values) = strings true false values
growing_of (variant.LargeUtf8 values) = strings true true values
