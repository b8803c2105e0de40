-- Builders by their nodes: without children, or with.
use Rattle.std.proofs.Common.{◌≡◌, ◌∙◌, ℕ, ◌+◌, ◌≤◌, List, Bool, length, take, sym, ap, subst}
use Rattle.std.specs.Prelude.{true, Result}
use Rattle.nested_arrays_builder_values.specs.parts.arrays.columnar_memory.declared.Error.{Error}
use Rattle.nested_arrays_builder_values.specs.parts.arrays.columns.Cells.{fits_cell}
use Rattle.nested_arrays_builder_values.specs.parts.arrays.columns.Slots.{Slot}
use Rattle.nested_arrays_builder_values.specs.parts.arrays.columns.StoredColumns.{slots}
use Rattle.nested_arrays_builder_values.specs.parts.Open.{Open, opened, first_slots, IsPushed}
use Rattle.nested_arrays_builders.specs.Nodes.{held_of, parts_of}
use Rattle.nested_arrays_builders.specs.Parts.{seen, parts_column, parts_size, type_size, first_parts, takes_slot}
use Rattle.nested_arrays_builders.specs.Parts.{AddsSlot, HoldsCount, IsHeld, IsKept}
use Rattle.nested_arrays_builders.specs.TypeSizes.{parts_are_smaller}
use Rattle.nested_arrays_builders.specs.declared.any.Head.{Head}
use Rattle.nested_arrays_builders.specs.declared.any.MutableChildren.{MutableChildren}
use Rattle.nested_arrays_builders.specs.declared.any.MutableNode.{MutableNode}
use Rattle.nested_arrays_builders.specs.declared.any.MutableNode.TheVariants as variant
use Rattle.nested_arrays_builders.proofs.CutParts.{kept_count, cut_kept, cut_seen}
use Rattle.nested_arrays_builders.proofs.KeptNodes.{own_kept, kept_length}
use Rattle.nested_arrays_builders.proofs.PushedNodes.{pushed_kept, pushed_seen}
use Rattle.nested_arrays_builders.proofs.TakenSlots.{takes_is}

-- ---- without children

pub leaf_held : (node : MutableNode) (b : Open) → node ≡ variant.Flat b → IsHeld (held_of node)
leaf_held node b is = subst (λ (n : MutableNode). IsHeld (held_of n)) (sym is) tt

pub leaf_is : (node : MutableNode) (b o : Open) → node ≡ variant.Flat b → seen (held_of node) ≡ o → b ≡ o
leaf_is node b o is view = sym (ap (λ (n : MutableNode). seen (held_of n)) is) ∙ view

pub leaf_cut : (node after : MutableNode) (b c o : Open) (n : ℕ) → node ≡ variant.Flat b → seen (held_of node) ≡ o → after ≡ variant.Flat c
    → c ≡ first_slots b n → seen (held_of after) ≡ first_slots o n
leaf_cut node after b c o n is view then cut =
    ap (λ (n : MutableNode). seen (held_of n)) then ∙ cut ∙ ap (λ p. first_slots p n) (leaf_is node b o is view)

pub leaf_pushed : {U : Type 0} (node after : MutableNode) (b c o : Open) (s : Slot) (r q : Result U Error) → node ≡ variant.Flat b
    → seen (held_of node) ≡ o → after ≡ variant.Flat c → q ≡ r → IsPushed b s c r → IsPushed o s (seen (held_of after)) q
leaf_pushed node after b c o s r q is view then answer pushed =
    subst (IsPushed o s (seen (held_of after))) (sym answer)
    (subst (λ (p : Open). IsPushed p s (seen (held_of after)) r) (leaf_is node b o is view)
    (subst (λ (p : Open). IsPushed b s p r) (sym (ap (λ (n : MutableNode). seen (held_of n)) then)) pushed))

-- ---- with children

module _ (node : MutableNode) (head : Head) (children : MutableChildren) (o : Open) (is : node ≡ variant.Nested head children)
    (view : seen (held_of node) ≡ o) (held : IsHeld (held_of node)) where
  kept : IsKept head.data_type head.marks (parts_of children) (slots (parts_column head.data_type head.marks (parts_of children)))
  kept = subst (λ (n : MutableNode). IsHeld (held_of n)) is held

  view_is : opened head.data_type (slots (parts_column head.data_type head.marks (parts_of children))) ≡ o
  view_is = sym (ap (λ (n : MutableNode). seen (held_of n)) is) ∙ view

  own : IsKept head.data_type head.marks (parts_of children) o.slots
  own = own_kept head.data_type head.marks (parts_of children) o view_is kept

  pub nested_size : type_size o.data_type ≡ parts_size (parts_of children) + 1
  nested_size = sym (ap (λ (p : Open). type_size p.data_type) view_is)
      ∙ parts_are_smaller head.data_type head.marks (parts_of children) o.slots own

  pub nested_count : HoldsCount (parts_of children) (length head.marks)
  nested_count = kept_count head.data_type head.marks o.slots (parts_of children) own

  pub nested_length : length head.marks ≡ length o.slots
  nested_length = kept_length head.data_type head.marks (parts_of children) o.slots own

  pub nested_takes : (s : Slot) → fits_cell o.data_type s ≡ true → takes_slot (parts_of children) s ≡ true
  nested_takes s fit = sym (takes_is head.data_type head.marks (parts_of children) o.slots s own)
      ∙ ap (λ (p : Open). fits_cell p.data_type s) view_is ∙ fit

  module _ (after : MutableNode) (marks : List Bool) (below : MutableChildren)
      (then : after ≡ variant.Nested (record { data_type = head.data_type; marks = marks }) below) where
    seen_then : seen (held_of after) ≡ opened head.data_type (slots (parts_column head.data_type marks (parts_of below)))
    seen_then = ap (λ (n : MutableNode). seen (held_of n)) then

    held_then : IsKept head.data_type marks (parts_of below) (slots (parts_column head.data_type marks (parts_of below))) → IsHeld (held_of after)
    held_then k = subst (λ (n : MutableNode). IsHeld (held_of n)) (sym then) k

    module _ (n : ℕ) (le : n ≤ length o.slots) (marked : marks ≡ take n head.marks) (cut : parts_of below ≡ first_parts (parts_of children) n) where
      pub nested_cut_held : IsHeld (held_of after)
      nested_cut_held = held_then
          (cut_kept head.data_type head.marks (parts_of children) o view_is kept n le marks (parts_of below) marked cut)

      pub nested_cut_seen : seen (held_of after) ≡ first_slots o n
      nested_cut_seen = seen_then
          ∙ cut_seen head.data_type head.marks (parts_of children) o view_is kept n le marks (parts_of below) marked cut

    module _ {U : Type 0} (s : Slot) (fit : fits_cell o.data_type s ≡ true) (r : Result U Error)
        (adds : AddsSlot head.marks (parts_of children) s marks (parts_of below) r) where
      own_fit : fits_cell head.data_type s ≡ true
      own_fit = ap (λ (p : Open). fits_cell p.data_type s) view_is ∙ fit

      pub nested_push_held : IsHeld (held_of after)
      nested_push_held = held_then (pushed_kept head.data_type head.marks (parts_of children) kept s own_fit marks (parts_of below) r adds)

      pub nested_push_seen : (q : Result U Error) → q ≡ r → IsPushed o s (seen (held_of after)) q
      nested_push_seen q answer =
          subst (IsPushed o s (seen (held_of after))) (sym answer)
          (subst (λ (p : Open). IsPushed o s p r) (sym seen_then)
          (subst (λ (p : Open). IsPushed p s (opened head.data_type (slots (parts_column head.data_type marks (parts_of below)))) r) view_is
          (pushed_seen head.data_type head.marks (parts_of children) kept s own_fit marks (parts_of below) r adds)))
