use Rattle.std.proofs.Common.{◌∙◌, ap, sym}
use Rattle.nested_arrays_parts.specs.columns.SoundColumns.{is_sound}
use Rattle.nested_arrays_parts.proofs.FlatMasks.{replaces_along, sound_replaced}
use Rattle.nested_arrays_arrays.specs.AnyColumns.{column_of}
use Rattle.nested_arrays_arrays.proofs.CutNodes.{fits_at}
use Rattle.nested_arrays_arrays.proofs.any.AnyArray.set_validity.Goals as goal

pub returns : goal.returns
returns c = elim c.match-self.branch [
  | goal.in-Flat w ↦ replaces_along _ _ _ _ _ _ _ (ap column_of (sym w.in-Flat.is) ∙ c.self.view_is)
      (ap (λ i. column_of i.node) (sym w.self-inside-is)) (sym w.result-is) w.set_validity.ensures
  | goal.in-List w ↦ replaces_along _ _ _ _ _ _ _ (ap column_of (sym w.in-List.is) ∙ c.self.view_is)
      (ap (λ i. column_of i.node) (sym w.self-inside-is)) (sym w.result-is) w.mask_lists.ensures.mask
  | goal.in-FixedSizeList w ↦ replaces_along _ _ _ _ _ _ _ (ap column_of (sym w.in-FixedSizeList.is) ∙ c.self.view_is)
      (ap (λ i. column_of i.node) (sym w.self-inside-is)) (sym w.result-is) w.set_validity-in-FixedSizeList.ensures
  | goal.in-Struct w ↦ replaces_along _ _ _ _ _ _ _ (ap column_of (sym w.in-Struct.is) ∙ c.self.view_is)
      (ap (λ i. column_of i.node) (sym w.self-inside-is)) (sym w.result-is) w.set_validity-in-Struct.ensures
  | goal.in-Map w ↦ replaces_along _ _ _ _ _ _ _ (ap column_of (sym w.in-Map.is) ∙ c.self.view_is)
      (ap (λ i. column_of i.node) (sym w.self-inside-is)) (sym w.result-is) w.set_validity-in-Map.ensures
  | goal.in-Union w ↦ replaces_along _ _ _ _ _ _ _ (ap column_of (sym w.in-Union.is) ∙ c.self.view_is)
      (ap (λ i. column_of i.node) (sym w.self-inside-is)) (sym w.result-is) w.set_validity-in-Union.ensures
  | goal.in-Dictionary w ↦ replaces_along _ _ _ _ _ _ _ (ap column_of (sym w.in-Dictionary.is) ∙ c.self.view_is)
      (ap (λ i. column_of i.node) (sym w.self-inside-is)) (sym w.result-is) w.mask_keys.ensures.mask
]

pub invariant_of-self : goal.invariant_of-self
invariant_of-self c = record {
  sound = sound_replaced c.args.self.now _ c.args.validity c.match-self.result (ap is_sound (sym c.self.view_is) ∙ c.self.invariant.sound)
      (returns c);
  fits = elim c.match-self.branch [
    | goal.in-Flat w ↦ fits_at _ _ (ap (λ i. i.node) w.self-inside-is) tt
    | goal.in-List w ↦ fits_at _ _ (ap (λ i. i.node) w.self-inside-is) w.mask_lists.ensures.kept
    | goal.in-FixedSizeList w ↦ fits_at _ _ (ap (λ i. i.node) w.self-inside-is) tt
    | goal.in-Struct w ↦ fits_at _ _ (ap (λ i. i.node) w.self-inside-is) tt
    | goal.in-Map w ↦ fits_at _ _ (ap (λ i. i.node) w.self-inside-is) tt
    | goal.in-Union w ↦ fits_at _ _ (ap (λ i. i.node) w.self-inside-is) tt
    | goal.in-Dictionary w ↦ fits_at _ _ (ap (λ i. i.node) w.self-inside-is) w.mask_keys.ensures.kept
  ];
}
