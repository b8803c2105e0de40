use Rattle.std.proofs.Common.{◌∙◌, ap, refl, sym}
use Rattle.nested_arrays_flat.specs.columnar_memory.Layouts.{physical_type}
use Rattle.nested_arrays_flat.specs.columns.StoredColumns.{column_type}
use Rattle.nested_arrays_parts.specs.Childless.{is_childless}
use Rattle.nested_arrays_parts.specs.FlatNodes.{flat_column}
use Rattle.nested_arrays_parts.proofs.LaidFlats.{childless_by, primitive_childless}
use Rattle.nested_arrays_parts.proofs.flats.FlatArray.lies.Goals as goal

pub returns-in-Null : goal.returns-in-Null
returns-in-Null c = childless_by c.args.self.now _ _
    (c.data_type-data_type.ensures.value ∙ ap column_type (ap flat_column (sym c.in-Null.is) ∙ c.self.view_is))
    c.data_type-data_type.ensures.fits refl

pub returns-in-Boolean : goal.returns-in-Boolean
returns-in-Boolean c = childless_by c.args.self.now _ _
    (c.data_type-data_type-in-Boolean.ensures.value ∙ ap column_type (ap flat_column (sym c.in-Boolean.is) ∙ c.self.view_is))
    c.data_type-data_type-in-Boolean.ensures.fits refl

pub returns-in-Primitive : goal.returns-in-Primitive
returns-in-Primitive c = ap (λ t. is_childless (physical_type t))
    (sym (c.data_type-data_type-in-Primitive.ensures.value ∙ ap column_type (ap flat_column (sym c.in-Primitive.is) ∙ c.self.view_is)))
    ∙ primitive_childless _ c.data_type-data_type-in-Primitive.ensures.fits

pub returns-in-Binary : goal.returns-in-Binary
returns-in-Binary c = childless_by c.args.self.now _ _
    (c.data_type-data_type-in-Binary.ensures.value ∙ ap column_type (ap flat_column (sym c.in-Binary.is) ∙ c.self.view_is))
    c.data_type-data_type-in-Binary.ensures.fits refl

pub returns-in-LargeBinary : goal.returns-in-LargeBinary
returns-in-LargeBinary c = childless_by c.args.self.now _ _
    (c.data_type-data_type-in-LargeBinary.ensures.value ∙ ap column_type (ap flat_column (sym c.in-LargeBinary.is) ∙ c.self.view_is))
    c.data_type-data_type-in-LargeBinary.ensures.fits refl

pub returns-in-FixedSizeBinary : goal.returns-in-FixedSizeBinary
returns-in-FixedSizeBinary c = childless_by c.args.self.now _ _
    (c.data_type-data_type-in-FixedSizeBinary.ensures.value ∙ ap column_type (ap flat_column (sym c.in-FixedSizeBinary.is) ∙ c.self.view_is))
    c.data_type-data_type-in-FixedSizeBinary.ensures.fits refl

pub returns-in-Utf8 : goal.returns-in-Utf8
returns-in-Utf8 c = childless_by c.args.self.now _ _
    (c.data_type-data_type-in-Utf8.ensures.value ∙ ap column_type (ap flat_column (sym c.in-Utf8.is) ∙ c.self.view_is))
    c.data_type-data_type-in-Utf8.ensures.fits refl

pub returns-in-LargeUtf8 : goal.returns-in-LargeUtf8
returns-in-LargeUtf8 c = childless_by c.args.self.now _ _
    (c.data_type-data_type-in-LargeUtf8.ensures.value ∙ ap column_type (ap flat_column (sym c.in-LargeUtf8.is) ∙ c.self.view_is))
    c.data_type-data_type-in-LargeUtf8.ensures.fits refl
