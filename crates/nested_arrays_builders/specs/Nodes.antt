-- What a node holds.
use Rattle.nested_arrays_builders.specs.Parts.{Parts, listed, sized, of_fields, keyed, Held, leaf, nested}
use Rattle.nested_arrays_builders.specs.Widths.{is_large, spans_in}
use Rattle.nested_arrays_builders.specs.declared.any.MutableChildren.{MutableChildren}
use Rattle.nested_arrays_builders.specs.declared.any.MutableChildren.TheVariants as below
use Rattle.nested_arrays_builders.specs.declared.any.MutableNode.{MutableNode}
use Rattle.nested_arrays_builders.specs.declared.any.MutableNode.TheVariants as variant

abbrev pub parts_of : MutableChildren → Parts
parts_of (below.List offsets child) = listed (is_large offsets) (spans_in offsets) child.value
parts_of (below.FixedSizeList size child) = sized size child.value
parts_of (below.Struct children) = of_fields children.items
parts_of (below.Dictionary keys child) = keyed keys.key keys.uses keys.known child.value

abbrev pub held_of : MutableNode → Held
held_of (variant.Flat builder) = leaf builder
held_of (variant.Nested head children) = nested head.data_type head.marks (parts_of children)
