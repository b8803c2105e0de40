use Rattle.std.proofs.Common.{◌∙◌, ap, sym}
use Rattle.nested_arrays_parts.specs.columnar_memory.Layouts.{physical_type}
use Rattle.nested_arrays_parts.specs.columns.StoredColumns.{column_type, in_columns}
use Rattle.nested_arrays_arrays.proofs.LaidNodes.{unions_laid}
use Rattle.nested_arrays_arrays.proofs.unions.UnionArray.lies.Goals as goal

pub returns : goal.returns
returns c = ap (λ column. physical_type (column_type column)) (sym c.self.view_is)
    ∙ unions_laid c.self.inside.data_type c.self.inside.types c.self.inside.offsets (in_columns c.self.inside.fields.items) c.self.invariant
