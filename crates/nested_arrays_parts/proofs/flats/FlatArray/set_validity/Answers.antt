use Rattle.std.proofs.Common.{◌∙◌, ap, sym}
use Rattle.nested_arrays_flat.specs.columns.SoundColumns.{is_sound}
use Rattle.nested_arrays_parts.specs.FlatNodes.{flat_column}
use Rattle.nested_arrays_parts.proofs.FlatMasks.{replaces_along, sound_replaced}
use Rattle.nested_arrays_parts.proofs.flats.FlatArray.set_validity.Goals as goal

pub returns : goal.returns
returns c = elim c.match-self.branch [
  | goal.in-Null w ↦ replaces_along _ _ _ _ _ _ _ (ap flat_column (sym w.in-Null.is) ∙ c.self.view_is)
      (ap (λ i. flat_column i.node) (sym w.self-inside-is)) (sym w.result-is) w.set_validity.ensures
  | goal.in-Boolean w ↦ replaces_along _ _ _ _ _ _ _ (ap flat_column (sym w.in-Boolean.is) ∙ c.self.view_is)
      (ap (λ i. flat_column i.node) (sym w.self-inside-is)) (sym w.result-is) w.mask_booleans.ensures
  | goal.in-Primitive w ↦ replaces_along _ _ _ _ _ _ _ (ap flat_column (sym w.in-Primitive.is) ∙ c.self.view_is)
      (ap (λ i. flat_column i.node) (sym w.self-inside-is)) (sym w.result-is) w.set_validity-in-Primitive.ensures
  | goal.in-Binary w ↦ replaces_along _ _ _ _ _ _ _ (ap flat_column (sym w.in-Binary.is) ∙ c.self.view_is)
      (ap (λ i. flat_column i.node) (sym w.self-inside-is)) (sym w.result-is) w.mask_strings.ensures
  | goal.in-LargeBinary w ↦ replaces_along _ _ _ _ _ _ _ (ap flat_column (sym w.in-LargeBinary.is) ∙ c.self.view_is)
      (ap (λ i. flat_column i.node) (sym w.self-inside-is)) (sym w.result-is) w.mask_strings-in-LargeBinary.ensures
  | goal.in-FixedSizeBinary w ↦ replaces_along _ _ _ _ _ _ _ (ap flat_column (sym w.in-FixedSizeBinary.is) ∙ c.self.view_is)
      (ap (λ i. flat_column i.node) (sym w.self-inside-is)) (sym w.result-is) w.set_validity-in-FixedSizeBinary.ensures
  | goal.in-Utf8 w ↦ replaces_along _ _ _ _ _ _ _ (ap flat_column (sym w.in-Utf8.is) ∙ c.self.view_is)
      (ap (λ i. flat_column i.node) (sym w.self-inside-is)) (sym w.result-is) w.mask_texts.ensures
  | goal.in-LargeUtf8 w ↦ replaces_along _ _ _ _ _ _ _ (ap flat_column (sym w.in-LargeUtf8.is) ∙ c.self.view_is)
      (ap (λ i. flat_column i.node) (sym w.self-inside-is)) (sym w.result-is) w.mask_texts-in-LargeUtf8.ensures
]

pub invariant_of-self : goal.invariant_of-self
invariant_of-self c =
    sound_replaced c.args.self.now _ c.args.validity c.match-self.result (ap is_sound (sym c.self.view_is) ∙ c.self.invariant) (returns c)
