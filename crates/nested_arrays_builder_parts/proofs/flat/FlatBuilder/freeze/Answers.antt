use Rattle.std.proofs.Common.{◌≡◌, ◌∙◌, ap, subst}
use Rattle.nested_arrays_core.specs.arrays.columnar_memory.Results.{OrOutOfMemory}
use Rattle.nested_arrays_core.specs.arrays.columns.StoredColumns.{Column, slots}
use Rattle.nested_arrays_builder_parts.specs.KeptValues.{kept_column}
use Rattle.nested_arrays_builder_parts.specs.Open.{Open, column_of}
use Rattle.nested_arrays_builder_parts.proofs.KeptSlots.{kept_is_fresh}
use Rattle.nested_arrays_builder_parts.proofs.flat.FlatBuilder.freeze.Goals as goal

pub returns : goal.returns
returns c =
    let own = c.self.inside in
    let column = kept_column own.data_type own.marks own.values in
    subst (λ (to : Column). OrOutOfMemory c.freeze_parts.result (λ array. array ≡ to))
    (kept_is_fresh own.data_type own.marks own.values (slots column) c.self.invariant ∙ ap (λ (o : Open). column_of o) c.self.view_is)
    c.freeze_parts.ensures
