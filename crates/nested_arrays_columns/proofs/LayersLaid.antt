-- The layout of a type tells its layer.
use Rattle.std.proofs.Common.{◌≡◌, ◌∙◌, false, refl, sym, subst}
use Rattle.nested_arrays_columns.specs.columnar_memory.declared.DataType.TheOpen as layer
use Rattle.nested_arrays_columns.specs.columnar_memory.declared.IntervalUnit.TheVariants as intervals
use Rattle.nested_arrays_columns.specs.StoredColumns.{type_layer}
use Rattle.nested_arrays_columns.proofs.FreshLengths.{Layer}
use Rattle.nested_arrays_columns.proofs.TypeLayers.{is_extension, layer_layout, layout_is}
use Rattle.nested_arrays_columns.specs.TypeLayouts.{IsLaidAs, LayoutsTell}
use Rattle.nested_arrays_columns.proofs.TypeSteps.{not_extended}

layer_laid : (x : Layer) → is_extension x ≡ false → IsLaidAs (layer_layout x) x
layer_laid (layer.Interval intervals.YearMonth) plain = refl
layer_laid (layer.Interval intervals.DayTime) plain = refl
layer_laid (layer.Interval intervals.MonthDayNano) plain = refl
layer_laid (layer.FixedSizeBinary size) plain = (size, refl)
layer_laid (layer.List item) plain = (item, refl)
layer_laid (layer.LargeList item) plain = (item, refl)
layer_laid (layer.FixedSizeList item size) plain = (item, size, refl)
layer_laid (layer.Struct children) plain = (children, refl)
layer_laid (layer.Union children ids mode) plain = tt
layer_laid (layer.Map entry is_sorted) plain = (entry, is_sorted, refl)
layer_laid (layer.Dictionary key value is_ordered) plain = (value, is_ordered, refl)
layer_laid (layer.Extension name inner metadata) plain = absurd cc
layer_laid _ plain = refl

pub layouts_tell : LayoutsTell
layouts_tell t p is = subst (λ p. IsLaidAs p (type_layer t)) (sym (layout_is t) ∙ is) (layer_laid (type_layer t) (not_extended t))
