-- Values of a type before any slot is pushed.
use Rattle.std.proofs.Common.{◌≡◌, ◌∙◌, ◌<◌, ℕ, zero, suc, [], Bool, true, false, refl, sym, ap, arith}
use Rattle.std.specs.Prelude.{Some, None, is_some, unwrap_or, nat_le}
use Rattle.std.proofs.lemmas.Bool.{false≢true, le-leb}
use Rattle.nested_arrays_core.specs.arrays.columnar_memory.declared.DataType.{DataType}
use Rattle.nested_arrays_core.specs.arrays.columnar_memory.declared.DataType.TheOpen as layer
use Rattle.nested_arrays_core.specs.arrays.columnar_memory.declared.IntervalUnit.TheVariants as intervals
use Rattle.nested_arrays_core.specs.arrays.columnar_memory.declared.PhysicalType.{PhysicalType}
use Rattle.nested_arrays_core.specs.arrays.columnar_memory.declared.PhysicalType.TheVariants as physical
use Rattle.nested_arrays_core.specs.arrays.columnar_memory.declared.PrimitiveType.{PrimitiveType}
use Rattle.nested_arrays_core.specs.arrays.columnar_memory.declared.PrimitiveType.TheVariants as kinds
use Rattle.nested_arrays_core.specs.arrays.columnar_memory.Layouts.{physical_type}
use Rattle.nested_arrays_core.specs.arrays.columns.FreshLaws.{is_buildable}
use Rattle.nested_arrays_core.specs.arrays.columns.Kinds.{kind_of}
use Rattle.nested_arrays_core.specs.arrays.columns.StoredColumns.{type_layer}
use Rattle.nested_arrays_core.proofs.arrays_lemmas.columns_lemmas.FreshLengths.{Layer, buildable_layer, unlike}
use Rattle.nested_arrays_core.specs.arrays.parts.Childless.{is_childless}
use Rattle.nested_arrays_core.specs.columns.OpenParts.{kind_in}
use Rattle.nested_arrays_core.proofs.columns_lemmas.LayerParts.{kind_by_layout}
use Rattle.nested_arrays_core.proofs.columns_lemmas.TypeSteps.{buildable_by_layer}
use Rattle.nested_arrays_builder_parts.specs.Growing.{Growing, nothing, truths, whole, strings, sized, layout_of, width_of}
use Rattle.nested_arrays_builder_parts.specs.KeptValues.{IsTyped}
use Rattle.nested_arrays_builder_parts.specs.NewValues.{is_float, is_of_floats, IsEmptyFor}
use Rattle.nested_arrays_core.specs.arrays.flat.FlatColumns.{layer_width, byte_width}
use Rattle.nested_arrays_builder_parts.proofs.FlatLayers.{null_layer, boolean_layer, binary_layer, large_binary_layer, text_layer, large_text_layer}
use Rattle.nested_arrays_builder_parts.proofs.FlatLayers.{at_layout, at_width}

-- a type by its layer
by_layer : (t : DataType) (x : Layer) (values : Growing) → type_layer t ≡ x → physical_type t ≡ layout_of values
    → layer_width x ≡ width_of values → buildable_layer x ≡ true → IsTyped t values
by_layer t x values is lies wide can =
    record { lies = lies; wide = ap layer_width is ∙ wide; can = buildable_by_layer t x is ∙ can }

pub new_nulls : (t : DataType) → physical_type t ≡ physical.Null → IsEmptyFor t nothing
new_nulls t lies = (by_layer t layer.Null nothing (at_layout t physical.Null layer.Null null_layer lies) lies refl refl, refl)

pub new_truths : (t : DataType) → physical_type t ≡ physical.Boolean → IsEmptyFor t (truths [])
new_truths t lies = (by_layer t layer.Boolean (truths []) (at_layout t physical.Boolean layer.Boolean boolean_layer lies) lies refl refl, refl)

pub new_binary : (t : DataType) → physical_type t ≡ physical.Binary → IsEmptyFor t (strings false false [])
new_binary t lies =
    (by_layer t layer.Binary (strings false false []) (at_layout t physical.Binary layer.Binary binary_layer lies) lies refl refl, refl)

pub new_large_binary : (t : DataType) → physical_type t ≡ physical.LargeBinary → IsEmptyFor t (strings false true [])
new_large_binary t lies = (
  by_layer t layer.LargeBinary (strings false true []) (at_layout t physical.LargeBinary layer.LargeBinary large_binary_layer lies) lies refl
      refl,
  refl,
)

pub new_texts : (t : DataType) → physical_type t ≡ physical.Utf8 → IsEmptyFor t (strings true false [])
new_texts t lies = (by_layer t layer.Utf8 (strings true false []) (at_layout t physical.Utf8 layer.Utf8 text_layer lies) lies refl refl, refl)

pub new_large_texts : (t : DataType) → physical_type t ≡ physical.LargeUtf8 → IsEmptyFor t (strings true true [])
new_large_texts t lies =
    (by_layer t layer.LargeUtf8 (strings true true []) (at_layout t physical.LargeUtf8 layer.LargeUtf8 large_text_layer lies) lies refl refl, refl)

record OfNumbers (x : Layer) : Type 0 where
  wide : layer_width x ≡ 0
  can : buildable_layer x ≡ true

of_numbers : (x : Layer) (kind : PrimitiveType) → kind_of x ≡ Some kind → is_float kind ≡ false → OfNumbers x
of_numbers layer.Null kind is plain = absurd (unlike (ap is_some is))
of_numbers layer.Boolean kind is plain = absurd (unlike (ap is_some is))
of_numbers layer.Binary kind is plain = absurd (unlike (ap is_some is))
of_numbers layer.LargeBinary kind is plain = absurd (unlike (ap is_some is))
of_numbers (layer.FixedSizeBinary size) kind is plain = absurd (unlike (ap is_some is))
of_numbers layer.Utf8 kind is plain = absurd (unlike (ap is_some is))
of_numbers layer.LargeUtf8 kind is plain = absurd (unlike (ap is_some is))
of_numbers (layer.List item) kind is plain = absurd (unlike (ap is_some is))
of_numbers (layer.LargeList item) kind is plain = absurd (unlike (ap is_some is))
of_numbers (layer.FixedSizeList item size) kind is plain = absurd (unlike (ap is_some is))
of_numbers (layer.Struct children) kind is plain = absurd (unlike (ap is_some is))
of_numbers (layer.Union children ids mode) kind is plain = absurd (unlike (ap is_some is))
of_numbers (layer.Map entry is_sorted) kind is plain = absurd (unlike (ap is_some is))
of_numbers (layer.Dictionary key value is_ordered) kind is plain = absurd (unlike (ap is_some is))
of_numbers (layer.Extension name inner metadata) kind is plain = absurd (unlike (ap is_some is))
of_numbers layer.Float16 kind is plain = absurd (false≢true (sym plain ∙ float kind is))
  where
    float : (kind : PrimitiveType) → Some kinds.Float16 ≡ Some kind → is_float kind ≡ true
    float kind is = ap (λ o. is_float (unwrap_or o kinds.Float16)) (sym is)
of_numbers layer.Float32 kind is plain = absurd (false≢true (sym plain ∙ float kind is))
  where
    float : (kind : PrimitiveType) → Some kinds.Float32 ≡ Some kind → is_float kind ≡ true
    float kind is = ap (λ o. is_float (unwrap_or o kinds.Float32)) (sym is)
of_numbers layer.Float64 kind is plain = absurd (false≢true (sym plain ∙ float kind is))
  where
    float : (kind : PrimitiveType) → Some kinds.Float64 ≡ Some kind → is_float kind ≡ true
    float kind is = ap (λ o. is_float (unwrap_or o kinds.Float64)) (sym is)
of_numbers (layer.Interval unit) kind is plain = record { wide = refl; can = refl }
of_numbers _ kind is plain = record { wide = refl; can = refl }

pub new_whole : (t : DataType) (kind : PrimitiveType) → physical_type t ≡ physical.Primitive kind → is_float kind ≡ false → IsEmptyFor t (whole
    kind [])
new_whole t kind lies plain =
    let of = of_numbers (type_layer t) kind (kind_by_layout t ∙ ap kind_in lies) plain in
    (by_layer t (type_layer t) (whole kind []) refl lies of.wide of.can, refl)

pub new_strings_of_size : (t : DataType) (size : ℕ) → physical_type t ≡ physical.FixedSizeBinary → size ≡ byte_width t → 0 < size
    → IsEmptyFor t (sized size [])
new_strings_of_size t size lies wide some =
    (by_layer t (layer.FixedSizeBinary size) (sized size []) (at_width t size lies (sym wide)) lies refl (le-leb 1 size (omega (arith, some))), refl)

pub no_size : (t : DataType) (size : ℕ) → physical_type t ≡ physical.FixedSizeBinary → size ≡ byte_width t → size ≡ 0 → is_buildable t ≡ false
no_size t size lies wide none = buildable_by_layer t (layer.FixedSizeBinary 0) (at_width t 0 lies (sym wide ∙ none))

pub of_floats : (t : DataType) (kind : PrimitiveType) → physical_type t ≡ physical.Primitive kind → is_float kind ≡ true
    → is_of_floats (physical_type t) ≡ true
of_floats t kind lies is = ap is_of_floats lies ∙ is

pub with_children : (t : DataType) (layout : PhysicalType) → physical_type t ≡ layout → is_childless layout ≡ false → is_childless (physical_type
    t) ≡ false
with_children t layout lies is = ap is_childless lies ∙ is

pub ruleset nodes = (
  new_nulls,
  new_truths,
  new_binary,
  new_large_binary,
  new_texts,
  new_large_texts,
  new_whole,
  new_strings_of_size,
  no_size,
  of_floats,
)

pub ruleset children = (with_children)
