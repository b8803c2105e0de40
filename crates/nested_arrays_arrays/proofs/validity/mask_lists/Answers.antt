use Rattle.std.proofs.Common.{◌∙◌, ap, sym, refl}
use Rattle.nested_arrays_parts.specs.columns.SoundColumns.{mask_fits}
use Rattle.nested_arrays_parts.specs.Widths.{spans_in}
use Rattle.nested_arrays_arrays.proofs.ArrayParts.{lists_take}
use Rattle.nested_arrays_arrays.proofs.validity.mask_lists.Goals as goal

pub returns-clause-mask : goal.returns-clause-mask
returns-clause-mask c = (
  lists_take c.args.node.now.data_type c.args.node.now.validity c.args.validity (spans_in c.args.node.now.offsets) c.args.node.now.values.value
      c.requires.sound (ap (mask_fits c.args.validity) (sym c.lists.ensures) ∙ sym c.fits.ensures ∙ c.if-not-fits.false),
  refl,
)
