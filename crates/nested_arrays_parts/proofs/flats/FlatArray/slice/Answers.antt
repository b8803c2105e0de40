use Rattle.std.proofs.Common.{◌∙◌, ap, sym}
use Rattle.nested_arrays_flat.specs.columns.SoundColumns.{is_sound}
use Rattle.nested_arrays_flat.specs.columns.StoredColumns.{cut}
use Rattle.nested_arrays_flat.proofs.ColumnParts.{sound_after}
use Rattle.nested_arrays_parts.specs.FlatNodes.{flat_column}
use Rattle.nested_arrays_parts.proofs.flats.FlatArray.slice.Goals as goal

pub returns : goal.returns
returns c = elim c.match-self.branch [
  | goal.in-Null w ↦ ap (λ i. flat_column i.node) w.self-inside-is ∙ w.slice.ensures
      ∙ ap (λ col. cut col c.args.offset c.args.count) (ap flat_column (sym w.in-Null.is) ∙ c.self.view_is)
  | goal.in-Boolean w ↦ ap (λ i. flat_column i.node) w.self-inside-is ∙ w.slice_booleans.ensures
      ∙ ap (λ col. cut col c.args.offset c.args.count) (ap flat_column (sym w.in-Boolean.is) ∙ c.self.view_is)
  | goal.in-Primitive w ↦ ap (λ i. flat_column i.node) w.self-inside-is ∙ w.slice-in-Primitive.ensures
      ∙ ap (λ col. cut col c.args.offset c.args.count) (ap flat_column (sym w.in-Primitive.is) ∙ c.self.view_is)
  | goal.in-Binary w ↦ ap (λ i. flat_column i.node) w.self-inside-is ∙ w.slice_strings.ensures
      ∙ ap (λ col. cut col c.args.offset c.args.count) (ap flat_column (sym w.in-Binary.is) ∙ c.self.view_is)
  | goal.in-LargeBinary w ↦ ap (λ i. flat_column i.node) w.self-inside-is ∙ w.slice_strings-in-LargeBinary.ensures
      ∙ ap (λ col. cut col c.args.offset c.args.count) (ap flat_column (sym w.in-LargeBinary.is) ∙ c.self.view_is)
  | goal.in-FixedSizeBinary w ↦ ap (λ i. flat_column i.node) w.self-inside-is ∙ w.slice-in-FixedSizeBinary.ensures
      ∙ ap (λ col. cut col c.args.offset c.args.count) (ap flat_column (sym w.in-FixedSizeBinary.is) ∙ c.self.view_is)
  | goal.in-Utf8 w ↦ ap (λ i. flat_column i.node) w.self-inside-is ∙ w.slice_texts.ensures
      ∙ ap (λ col. cut col c.args.offset c.args.count) (ap flat_column (sym w.in-Utf8.is) ∙ c.self.view_is)
  | goal.in-LargeUtf8 w ↦ ap (λ i. flat_column i.node) w.self-inside-is ∙ w.slice_texts-in-LargeUtf8.ensures
      ∙ ap (λ col. cut col c.args.offset c.args.count) (ap flat_column (sym w.in-LargeUtf8.is) ∙ c.self.view_is)
]

pub invariant_of-self : goal.invariant_of-self
invariant_of-self c =
    sound_after c.args.self.now _ c.args.offset c.args.count (ap is_sound (sym c.self.view_is) ∙ c.self.invariant) c.requires (returns c)
