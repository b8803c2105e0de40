-- How arrays without children lie in memory.
use Rattle.std.proofs.Common.{◌≡◌, ◌∙◌, true, refl, sym, ap}
use Rattle.std.proofs.lemmas.Bool.{false≢true}
use Rattle.nested_arrays_flat.specs.columnar_memory.Layouts.{physical_type}
use Rattle.nested_arrays_flat.specs.columnar_memory.declared.DataType.{DataType}
use Rattle.nested_arrays_flat.specs.columnar_memory.declared.PhysicalType.{PhysicalType}
use Rattle.nested_arrays_flat.specs.columnar_memory.declared.PhysicalType.TheVariants as physical
use Rattle.nested_arrays_flat.specs.columns.StoredColumns.{Column, column_type}
use Rattle.nested_arrays_flat.specs.Primitives.{is_primitive}
use Rattle.nested_arrays_parts.specs.Childless.{is_childless}

-- an array whose type lies in memory so has no children
pub childless_by : (c : Column) (t : DataType) (known : PhysicalType) → t ≡ column_type c → physical_type t ≡ known → is_childless known ≡ true
    → is_childless (physical_type (column_type c)) ≡ true
childless_by c t known is lies none = ap (λ d. is_childless (physical_type d)) (sym is) ∙ ap is_childless lies ∙ none

pub primitive_childless : (layout : PhysicalType) → is_primitive layout ≡ true → is_childless layout ≡ true
primitive_childless (physical.Primitive kind) h = refl
primitive_childless _ h = absurd (false≢true h)
