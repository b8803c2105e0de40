use Rattle.std.proofs.Common.{◌∙◌, ap, sym}
use Rattle.nested_arrays_access.specs.columnar_memory.Spans.{offsets_of}
use Rattle.nested_arrays_access.specs.columns.SoundColumns.{mask_fits}
use Rattle.nested_arrays_access.specs.columns.StoredColumns.{column_len}
use Rattle.nested_arrays_access.proofs.arrays_lemmas.ArrayParts.{lists_masked}
use Rattle.nested_arrays_core.proofs.lists.ListArray.set_validity.Goals as goal

pub invariant_of-self : goal.invariant_of-self
invariant_of-self g c = (
  lists_masked c.self.inside.data_type c.self.inside.validity c.args.validity (offsets_of c.self.inside.offsets) c.self.inside.values.value
      c.self.invariant.0
      (ap (mask_fits c.args.validity) (ap column_len c.self.view_is ∙ sym c.len.ensures) ∙ sym c.fits.ensures ∙ c.if-not-fits.false),
  c.self.invariant.1,
)
