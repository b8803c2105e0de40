-- Which types are of nulls alone.
use Rattle.std.proofs.Common.{◌≡◌, ◌∙◌, refl, sym, true, false}
use Rattle.std.specs.Prelude.{◌↔◌, ℕ}
use Rattle.flat_arrays_core.specs.columnar_memory.declared.DataType.{DataType}
use Rattle.flat_arrays_core.specs.columnar_memory.declared.DataType.TheOpen as layer
use Rattle.flat_arrays_core.specs.columnar_memory.declared.IntervalUnit.TheVariants as intervals
use Rattle.flat_arrays_core.specs.columnar_memory.declared.PhysicalType.TheVariants as physical
use Rattle.flat_arrays_core.specs.columnar_memory.Layouts.{physical_type}
use Rattle.nested_arrays_columns.specs.SoundColumns.{is_null_type, is_sound}
use Rattle.nested_arrays_columns.specs.StoredColumns.{nulls, type_layer}
use Rattle.nested_arrays_flat.proofs.Layers.{Layer, is_extension, layer_layout, type_lies}

layer_of_nulls : (x : Layer) → is_extension x ≡ false → layer_layout x ≡ physical.Null → is_null_type x ≡ true
layer_of_nulls layer.Null plain is = refl
layer_of_nulls (layer.Extension name inner metadata) plain is = absurd cc
layer_of_nulls (layer.Interval intervals.YearMonth) plain is = absurd cc
layer_of_nulls (layer.Interval intervals.DayTime) plain is = absurd cc
layer_of_nulls (layer.Interval intervals.MonthDayNano) plain is = absurd cc
layer_of_nulls _ plain is = absurd cc

layout_of_nulls : (x : Layer) → is_null_type x ≡ true → layer_layout x ≡ physical.Null
layout_of_nulls layer.Null is = refl
layout_of_nulls _ is = absurd cc

pub null_types : (t : DataType) → (physical_type t ≡ physical.Null) ↔ (is_null_type (type_layer t) ≡ true)
null_types t =
    let lies = type_lies t in
    (λ is. layer_of_nulls (type_layer t) lies.1 (sym lies.0 ∙ is), λ is. lies.0 ∙ layout_of_nulls (type_layer t) is)

pub nulls_laid : (t : DataType) (n : ℕ) → is_sound (nulls t n) ≡ true → physical_type t ≡ physical.Null
nulls_laid t n h = (null_types t).1 h
