use Rattle.std.proofs.Common.{◌∙◌, ap, sym}
use Rattle.nested_arrays_parts.specs.columnar_memory.Layouts.{physical_type}
use Rattle.nested_arrays_parts.specs.columns.StoredColumns.{column_type}
use Rattle.nested_arrays_arrays.proofs.LaidNodes.{fixed_lists_laid}
use Rattle.nested_arrays_arrays.proofs.fixed_lists.FixedSizeListArray.lies.Goals as goal

pub returns : goal.returns
returns c = ap (λ column. physical_type (column_type column)) (sym c.self.view_is)
    ∙ fixed_lists_laid c.self.inside.data_type c.self.inside.validity c.self.inside.size c.self.inside.values.value c.self.invariant
