-- The mask of a builder with children is that of its marks.
use Rattle.std.proofs.Common.{◌≡◌, ◌∙◌, List, Bool, length, refl, sym, ap, subst}
use Rattle.std.specs.Prelude.{Option}
use Rattle.nested_arrays_builder_values.specs.parts.arrays.columnar_memory.declared.DataType.{DataType}
use Rattle.nested_arrays_builder_values.specs.parts.arrays.columns.StoredColumns.{slots}
use Rattle.nested_arrays_builder_values.specs.parts.arrays.flat.ColumnMasks.{column_mask}
use Rattle.nested_arrays_builder_values.specs.parts.columns.OpenParts.{mask_from}
use Rattle.nested_arrays_builder_values.specs.parts.Marks.{mask_of_marks}
use Rattle.nested_arrays_builder_values.specs.parts.Open.{Open, column_of, opened}
use Rattle.nested_arrays_builder_values.proofs.parts_lemmas.columns_lemmas.Masks.{mask_by_count}
use Rattle.nested_arrays_builders.specs.KeptColumns.{column_kept}
use Rattle.nested_arrays_builders.specs.Nodes.{held_of, parts_of}
use Rattle.nested_arrays_builders.specs.Parts.{Parts, listed, sized, of_fields, keyed, seen, parts_column, IsHeld, IsKept}
use Rattle.nested_arrays_builders.specs.declared.any.Head.{Head}
use Rattle.nested_arrays_builders.specs.declared.any.MutableChildren.{MutableChildren}
use Rattle.nested_arrays_builders.specs.declared.any.MutableNode.{MutableNode}
use Rattle.nested_arrays_builders.specs.declared.any.MutableNode.TheVariants as variant

parts_mask : (t : DataType) (marks : List Bool) (parts : Parts) → column_mask (parts_column t marks parts) ≡ mask_from marks
parts_mask t marks (listed large spans child) = refl
parts_mask t marks (sized size child) = refl
parts_mask t marks (of_fields children) = refl
parts_mask t marks (keyed key uses known child) = refl

pub nested_mask : (node : MutableNode) (head : Head) (children : MutableChildren) (o : Open) (mask : Option (List Bool))
    → node ≡ variant.Nested head children → seen (held_of node) ≡ o → IsHeld (held_of node) → mask ≡ mask_of_marks head.marks
    → mask ≡ column_mask (column_of o)
nested_mask node head children o mask is view held found =
    let t = head.data_type in
    let parts = parts_of children in
    let own = slots (parts_column t head.marks parts) in
    let seen_as : opened t own ≡ o = sym (ap (λ (n : MutableNode). seen (held_of n)) is) ∙ view in
    let kept : IsKept t head.marks parts own = subst (λ (n : MutableNode). IsHeld (held_of n)) is held in
    found ∙ sym (mask_by_count head.marks) ∙ sym (parts_mask t head.marks parts) ∙ ap column_mask (column_kept t head.marks parts own kept)
    ∙ ap (λ (o : Open). column_mask (column_of o)) seen_as
