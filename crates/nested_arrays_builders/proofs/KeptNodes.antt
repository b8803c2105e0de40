-- Builders by the slots that they keep.
use Rattle.std.proofs.Common.{◌≡◌, ◌∙◌, List, Bool, length, sym, ap, subst}
use Rattle.std.proofs.lemmas.List.{length-map}
use Rattle.nested_arrays_builder_values.specs.parts.arrays.columnar_memory.declared.DataType.{DataType}
use Rattle.nested_arrays_builder_values.specs.parts.arrays.columns.FreshColumns.{is_valid}
use Rattle.nested_arrays_builder_values.specs.parts.arrays.columns.Slots.{Slot}
use Rattle.nested_arrays_builder_values.specs.parts.arrays.columns.StoredColumns.{slots}
use Rattle.nested_arrays_builder_values.proofs.parts_lemmas.arrays_lemmas.columns_lemmas.FreshSlots.{fresh_slots}
use Rattle.nested_arrays_builder_values.specs.parts.Open.{Open, opened}
use Rattle.nested_arrays_builders.specs.KeptColumns.{column_kept}
use Rattle.nested_arrays_builders.specs.Parts.{Parts, parts_column, IsKept}

module _ (t : DataType) (marks : List Bool) (parts : Parts) (xs : List Slot) (kept : IsKept t marks parts xs) where
  -- the slots are those that the column has
  pub slots_kept : slots (parts_column t marks parts) ≡ xs
  slots_kept = ap slots (column_kept t marks parts xs kept) ∙ fresh_slots t xs kept.can kept.fit

  pub view_kept : opened t (slots (parts_column t marks parts)) ≡ opened t xs
  view_kept = ap (opened t) slots_kept

  pub kept_again : IsKept t marks parts (slots (parts_column t marks parts))
  kept_again = subst (IsKept t marks parts) (sym slots_kept) kept

  pub kept_length : length marks ≡ length xs
  kept_length = ap length kept.marked ∙ length-map xs is_valid

-- a builder by what is seen of it
module _ (t : DataType) (marks : List Bool) (parts : Parts) (o : Open) (is : opened t (slots (parts_column t marks parts)) ≡ o)
    (kept : IsKept t marks parts (slots (parts_column t marks parts))) where
  pub own_kept : IsKept t marks parts o.slots
  own_kept = subst (λ (o : Open). IsKept t marks parts o.slots) is kept
