-- Builders that stay as they were.
use Rattle.std.proofs.Common.{◌≡◌, ◌∙◌, ℕ, List, Bool, get_or, sym, ap, subst}
use Rattle.std.specs.Prelude.{Some, slice_get}
use Rattle.nested_arrays_builder_values.specs.parts.arrays.columns.FreshColumns.{is_valid}
use Rattle.nested_arrays_builder_values.specs.parts.arrays.columns.Slots.{null}
use Rattle.nested_arrays_builder_values.specs.parts.arrays.columns.StoredColumns.{slots}
use Rattle.nested_arrays_builder_values.specs.parts.Open.{Open, opened}
use Rattle.nested_arrays_builder_values.proofs.parts_lemmas.KeptSlots.{mark_is}
use Rattle.nested_arrays_builders.specs.Nodes.{held_of, parts_of}
use Rattle.nested_arrays_builders.specs.Parts.{nested, seen, parts_column, IsHeld, IsKept}
use Rattle.nested_arrays_builders.specs.declared.any.Head.{Head}
use Rattle.nested_arrays_builders.specs.declared.any.MutableChildren.{MutableChildren}
use Rattle.nested_arrays_builders.specs.declared.any.MutableNode.{MutableNode}
use Rattle.nested_arrays_builders.specs.declared.any.MutableNode.TheVariants as variant
use Rattle.nested_arrays_builders.proofs.HeldNodes.{leaf_is}
use Rattle.nested_arrays_builders.proofs.KeptNodes.{own_kept}

pub leaf_same : (node after : MutableNode) (b c o : Open) → node ≡ variant.Flat b → seen (held_of node) ≡ o → after ≡ variant.Flat c → c ≡ b
    → seen (held_of after) ≡ o
leaf_same node after b c o is view then same = ap (λ (n : MutableNode). seen (held_of n)) then ∙ same ∙ leaf_is node b o is view

module _ (node after : MutableNode) (head : Head) (children below : MutableChildren) (marks : List Bool) (o : Open)
    (is : node ≡ variant.Nested head children) (then : after ≡ variant.Nested (record { data_type = head.data_type; marks = marks }) below)
    (marked : marks ≡ head.marks) (same : parts_of below ≡ parts_of children) where
  held_same : held_of after ≡ held_of node
  held_same = ap held_of then ∙ (λ j. nested head.data_type (marked j) (same j)) ∙ sym (ap held_of is)

  pub nested_same_held : IsHeld (held_of node) → IsHeld (held_of after)
  nested_same_held held = subst IsHeld (sym held_same) held

  pub nested_same_seen : seen (held_of node) ≡ o → seen (held_of after) ≡ o
  nested_same_seen view = ap seen held_same ∙ view

pub nested_mark : (node : MutableNode) (head : Head) (children : MutableChildren) (o : Open) (i : ℕ) (b : Bool) → node ≡ variant.Nested head children
    → seen (held_of node) ≡ o → IsHeld (held_of node) → slice_get head.marks i ≡ Some b → b ≡ is_valid (get_or o.slots i null)
nested_mark node head children o i b is view held found =
    let t = head.data_type in
    let parts = parts_of children in
    let seen_as : opened t (slots (parts_column t head.marks parts)) ≡ o = sym (ap (λ (n : MutableNode). seen (held_of n)) is) ∙ view in
    let kept : IsKept t head.marks parts (slots (parts_column t head.marks parts)) = subst (λ (n : MutableNode). IsHeld (held_of n)) is held in
    mark_is o.slots head.marks i b (own_kept t head.marks parts o seen_as kept).marked found
