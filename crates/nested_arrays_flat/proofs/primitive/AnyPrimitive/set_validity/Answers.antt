use Rattle.std.proofs.Common.{◌∙◌, ap, sym}
use Rattle.nested_arrays_columns.specs.SoundColumns.{is_sound, mask_fits}
use Rattle.nested_arrays_flat.proofs.ColumnParts.{flat_takes, is_flat}
use Rattle.nested_arrays_flat.proofs.SoundFlats.{numbers_flat}
use Rattle.nested_arrays_flat.proofs.primitive.AnyPrimitive.set_validity.Goals as goal

pub returns : goal.returns
returns c = (
  flat_takes c.args.self.now c.args.validity (ap is_flat (sym c.self.view_is) ∙ numbers_flat _)
      (ap is_sound (sym c.self.view_is) ∙ c.self.invariant)
      (ap (mask_fits c.args.validity) (sym c.len.ensures) ∙ c.is_mask_of.ensures.0 c.if-not-is_mask_of.false),
  c.replace_mask.ensures,
)
