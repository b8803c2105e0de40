use Rattle.std.proofs.Common.{◌∙◌, ap, sym}
use Rattle.nested_arrays_columns.specs.SoundColumns.{is_sound}
use Rattle.nested_arrays_flat.proofs.ColumnParts.{flat_masked, is_flat}
use Rattle.nested_arrays_flat.proofs.SoundFlats.{numbers_flat}
use Rattle.nested_arrays_flat.specs.ColumnMasks.{with_mask}
use Rattle.nested_arrays_flat.specs.Primitives.{column_of}
use Rattle.nested_arrays_flat.proofs.primitive.AnyPrimitive.replace_mask.Goals as goal

pub returns : goal.returns
returns c = elim c.match-self.branch [
  | goal.in-Int8 w ↦ ap (λ i. column_of i.node) w.self-inside-is ∙ w.mask_numbers.ensures
      ∙ ap (λ col. with_mask col c.args.validity) (ap column_of (sym w.in-Int8.is) ∙ c.self.view_is)
  | goal.in-Int16 w ↦ ap (λ i. column_of i.node) w.self-inside-is ∙ w.mask_numbers-in-Int16.ensures
      ∙ ap (λ col. with_mask col c.args.validity) (ap column_of (sym w.in-Int16.is) ∙ c.self.view_is)
  | goal.in-Int32 w ↦ ap (λ i. column_of i.node) w.self-inside-is ∙ w.mask_numbers-in-Int32.ensures
      ∙ ap (λ col. with_mask col c.args.validity) (ap column_of (sym w.in-Int32.is) ∙ c.self.view_is)
  | goal.in-Int64 w ↦ ap (λ i. column_of i.node) w.self-inside-is ∙ w.mask_numbers-in-Int64.ensures
      ∙ ap (λ col. with_mask col c.args.validity) (ap column_of (sym w.in-Int64.is) ∙ c.self.view_is)
  | goal.in-Int128 w ↦ ap (λ i. column_of i.node) w.self-inside-is ∙ w.mask_numbers-in-Int128.ensures
      ∙ ap (λ col. with_mask col c.args.validity) (ap column_of (sym w.in-Int128.is) ∙ c.self.view_is)
  | goal.in-Int256 w ↦ ap (λ i. column_of i.node) w.self-inside-is ∙ w.mask_numbers-in-Int256.ensures
      ∙ ap (λ col. with_mask col c.args.validity) (ap column_of (sym w.in-Int256.is) ∙ c.self.view_is)
  | goal.in-UInt8 w ↦ ap (λ i. column_of i.node) w.self-inside-is ∙ w.mask_numbers-in-UInt8.ensures
      ∙ ap (λ col. with_mask col c.args.validity) (ap column_of (sym w.in-UInt8.is) ∙ c.self.view_is)
  | goal.in-UInt16 w ↦ ap (λ i. column_of i.node) w.self-inside-is ∙ w.mask_numbers-in-UInt16.ensures
      ∙ ap (λ col. with_mask col c.args.validity) (ap column_of (sym w.in-UInt16.is) ∙ c.self.view_is)
  | goal.in-UInt32 w ↦ ap (λ i. column_of i.node) w.self-inside-is ∙ w.mask_numbers-in-UInt32.ensures
      ∙ ap (λ col. with_mask col c.args.validity) (ap column_of (sym w.in-UInt32.is) ∙ c.self.view_is)
  | goal.in-UInt64 w ↦ ap (λ i. column_of i.node) w.self-inside-is ∙ w.mask_numbers-in-UInt64.ensures
      ∙ ap (λ col. with_mask col c.args.validity) (ap column_of (sym w.in-UInt64.is) ∙ c.self.view_is)
  | goal.in-DaysMs w ↦ ap (λ i. column_of i.node) w.self-inside-is ∙ w.mask_numbers-in-DaysMs.ensures
      ∙ ap (λ col. with_mask col c.args.validity) (ap column_of (sym w.in-DaysMs.is) ∙ c.self.view_is)
  | goal.in-MonthsDaysNs w ↦ ap (λ i. column_of i.node) w.self-inside-is ∙ w.mask_numbers-in-MonthsDaysNs.ensures
      ∙ ap (λ col. with_mask col c.args.validity) (ap column_of (sym w.in-MonthsDaysNs.is) ∙ c.self.view_is)
]

pub invariant_of-self : goal.invariant_of-self
invariant_of-self c =
    flat_masked c.args.self.now _ c.args.validity (ap is_flat (sym c.self.view_is) ∙ numbers_flat _)
    (ap is_sound (sym c.self.view_is) ∙ c.self.invariant) c.requires (returns c)
