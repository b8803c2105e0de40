-- The column of an array without children.
use Rattle.nested_arrays_flat.specs.columns.StoredColumns.{Column}
use Rattle.nested_arrays_flat.specs.FlatColumns.{binary_column, boolean_column, text_column}
use Rattle.nested_arrays_parts.specs.declared.flats.FlatNode.{FlatNode}
use Rattle.nested_arrays_parts.specs.declared.flats.FlatNode.TheVariants as variant

abbrev pub flat_column : FlatNode → Column
flat_column (variant.Null array) = array
flat_column (variant.Boolean array) = boolean_column array
flat_column (variant.Primitive array) = array
flat_column (variant.Binary array) = binary_column array
flat_column (variant.LargeBinary array) = binary_column array
flat_column (variant.FixedSizeBinary array) = array
flat_column (variant.Utf8 array) = text_column array
flat_column (variant.LargeUtf8 array) = text_column array
