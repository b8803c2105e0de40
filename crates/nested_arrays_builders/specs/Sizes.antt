-- Each child of a builder has a type of fewer columns than the builder.
use Rattle.std.specs.Prelude.{◌+◌, ◌*◌, ◌≤◌, max, List, [], ◌∷◌}
use Rattle.std.proofs.Common.{arith}
use Rattle.nested_arrays_builder_values.specs.parts.arrays.columns.StoredColumns.{slots}
use Rattle.nested_arrays_builder_values.specs.parts.Open.{Open}
use Rattle.nested_arrays_builders.specs.Nodes.{held_of, parts_of}
use Rattle.nested_arrays_builders.specs.Parts.{seen, parts_column, parts_size, type_size, types_size, IsHeld}
use Rattle.nested_arrays_builders.specs.TypeSizes.{parts_are_smaller}
use Rattle.nested_arrays_builders.specs.declared.any.MutableChildren.{MutableChildren}
use Rattle.nested_arrays_builders.specs.declared.any.MutableChildren.TheVariants as below
use Rattle.nested_arrays_builders.specs.declared.any.MutableNode.{MutableNode}
use Rattle.nested_arrays_builders.specs.declared.any.MutableNode.TheVariants as variant
use Rattle.nested_arrays_builders.specs.declared.any.AnyMutableArray.TheDeep.{deep-MutableNode, deep-MutableChildren}
use denote.Param.Weighed.{most}

most_of_opens : (os : List Open) → most (λ o. 4 * type_size o.data_type + 1) os ≤ 4 * types_size os + 1
most_of_opens [] = omega arith
most_of_opens (o ∷ os) = omega (arith, most_of_opens os)

below_parts : (children : MutableChildren) → deep-MutableChildren children ≤ 4 * parts_size (parts_of children) + 2
below_parts (below.List offsets child) = omega arith
below_parts (below.FixedSizeList size child) = omega arith
below_parts (below.Struct children) = omega (arith, most_of_opens children.items)
below_parts (below.Dictionary keys child) = omega arith

-- no child is deeper than its builder
pub node_is_deep : (node : MutableNode) → IsHeld (held_of node) → max (deep-MutableNode node) 0 ≤ 4 * type_size (seen (held_of node)).data_type
node_is_deep (variant.Flat builder) held = omega arith
node_is_deep (variant.Nested head children) kept =
    let smaller = parts_are_smaller head.data_type head.marks (parts_of children) (slots (parts_column head.data_type head.marks (parts_of children)))
    kept in
    omega (arith, below_parts children, smaller)
