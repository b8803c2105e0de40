-- Each child of an array is made of fewer columns than the array.
use Rattle.std.specs.Prelude.{◌+◌, ◌*◌, ◌≤◌, max, List}
use Rattle.std.proofs.Common.{arith}
use Rattle.nested_arrays_parts.specs.columns.StoredColumns.{Column, column_size, columns_size, in_columns}
use Rattle.nested_arrays_parts.proofs.columns_lemmas.SoundParts.{most_of_columns}
use Rattle.nested_arrays_arrays.specs.AnyColumns.{column_of}
use Rattle.nested_arrays_arrays.specs.declared.any.Node.{Node}
use Rattle.nested_arrays_arrays.specs.declared.any.Node.TheVariants as variant
use Rattle.nested_arrays_arrays.specs.declared.any.AnyArray.TheDeep.{deep-Node}
use denote.Param.Weighed.{most}

-- no child is deeper than its array
pub node_is_deep : (node : Node) → max (deep-Node node) 0 ≤ 2 * column_size (column_of node) + 1
node_is_deep (variant.Flat array) = omega arith
node_is_deep (variant.List node) = omega arith
node_is_deep (variant.FixedSizeList array) = omega arith
node_is_deep (variant.Struct array) = omega arith
node_is_deep (variant.Map array) = omega arith
node_is_deep (variant.Union array) = omega arith
node_is_deep (variant.Dictionary node) = omega arith

pub children_are_deep : (columns : List Column) → max (most (λ c. 2 * column_size c + 1 + 1) columns) 0 ≤ 2 * (columns_size (in_columns columns) + 1)
children_are_deep columns = omega (arith, most_of_columns columns)
