use Rattle.std.proofs.Common.{◌≡◌, ◌∙◌, ap, get_or}
use Rattle.nested_arrays_core.specs.arrays.columns.FreshColumns.{is_valid}
use Rattle.nested_arrays_core.specs.arrays.columns.Slots.{null}
use Rattle.nested_arrays_core.specs.arrays.columns.StoredColumns.{slots}
use Rattle.nested_arrays_builder_parts.specs.KeptValues.{kept_column}
use Rattle.nested_arrays_builder_parts.specs.Open.{Open}
use Rattle.nested_arrays_builder_parts.proofs.KeptSlots.{mark_is}
use Rattle.nested_arrays_builder_parts.proofs.flat.FlatBuilder.is_valid.Goals as goal

pub returns : goal.returns
returns c =
    let own = c.self.inside in
    mark_is (slots (kept_column own.data_type own.marks own.values)) own.marks c.args.i c.is_valid.result c.self.invariant.marked c.is_valid.ensures
    ∙ ap (λ (o : Open). is_valid (get_or o.slots c.args.i null)) c.self.view_is
