-- Types that have builders, by their layers.
use Rattle.std.proofs.Common.{inl, inr, ◌≡◌, ◌∙◌, ℕ, ◌<◌, List, [], ◌∷◌, length, map, Bool, true, false}
use Rattle.std.proofs.Common.{refl, sym, ap, subst, arith}
use Rattle.std.specs.Prelude.{◌||◌, ◌==◌, ℤ, Option, not}
use Rattle.std.specs.List.{list_any}
use Rattle.std.proofs.lemmas.Bool.{and_parts, le-leb}
use Rattle.std.proofs.lemmas.List.{length-map}
use Rattle.nested_arrays_builder_values.specs.parts.arrays.columnar_memory.declared.DataType.{DataType, map-DataType}
use Rattle.nested_arrays_builder_values.specs.parts.arrays.columnar_memory.declared.DataType.TheFolds.{fold-Field, fold-roll-DataType, fold-roll-Field}
use Rattle.nested_arrays_builder_values.specs.parts.arrays.columnar_memory.declared.DataType.TheFolds.{para-Field, para-roll-DataType, para-roll-Field}
use Rattle.nested_arrays_builder_values.specs.parts.arrays.columnar_memory.declared.DataType.TheOpen as layer
use Rattle.nested_arrays_builder_values.specs.parts.arrays.columnar_memory.declared.DataType.TheVariants as types
use Rattle.nested_arrays_builder_values.specs.parts.arrays.columnar_memory.declared.DataType.TheViews.{out-DataType, roll-DataType}
use Rattle.nested_arrays_builder_values.specs.parts.arrays.columnar_memory.declared.DataType.TheViews.{out-roll-DataType, roll-out-DataType}
use Rattle.nested_arrays_builder_values.specs.parts.arrays.columnar_memory.declared.Error.{Error}
use Rattle.nested_arrays_builder_values.specs.parts.arrays.columnar_memory.declared.Field.{Field}
use Rattle.nested_arrays_builder_values.specs.parts.arrays.columnar_memory.declared.IntegerType.{IntegerType}
use Rattle.nested_arrays_builder_values.specs.parts.arrays.columnar_memory.declared.IntervalUnit.TheVariants as intervals
use Rattle.nested_arrays_builder_values.specs.parts.arrays.columnar_memory.declared.UnionMode.{UnionMode}
use Rattle.nested_arrays_builder_values.specs.parts.arrays.columnar_memory.Layouts.{logical_type, physical_type}
use denote.Hole.Carrier
use Rattle.nested_arrays_builder_values.specs.parts.arrays.columns.StoredColumns.{type_layer}
use Rattle.nested_arrays_builder_values.proofs.parts_lemmas.arrays_lemmas.columns_lemmas.FreshLengths.{Layer, buildable_layer}
use Rattle.nested_arrays_builder_values.proofs.parts_lemmas.arrays_lemmas.columns_lemmas.TypeLayers.{is_extension, layer_layout}
use Rattle.nested_arrays_builder_values.proofs.parts_lemmas.columns_lemmas.TypeSteps.{by_layer, buildable_by_layer, layout_by_layer, not_extended}
use Rattle.nested_arrays_builder_values.proofs.parts_lemmas.MarkLists.{positive}
use Rattle.nested_arrays_builder_values.specs.parts.NewValues.{is_of_floats}
use Rattle.nested_arrays_builder_values.specs.parts.arrays.parts.Childless.{is_childless}
use Rattle.nested_arrays_builders.specs.Begun.{AreNoBuilders, IsNoBuilder, IsPlain}
use Rattle.nested_arrays_builders.specs.BuiltTypes.{are_invalid, floats_step, has_builder, has_floats, have_builders, have_floats}
use Rattle.nested_arrays_builders.specs.BuiltTypes.{invalid_step, is_invalid, is_keyed}

-- ---- layers

abbrev field_layer : Field → layer.Field-F DataType Field
field_layer u = record { name = u.name; data_type = u.data_type; is_nullable = u.is_nullable; metadata = u.metadata }

abbrev floats_field : Field → Bool
floats_field = fold-Field Bool Bool floats_step (λ field. field.data_type)

abbrev floats_layer : Layer → Bool
floats_layer x = floats_step (map-DataType DataType Field Bool Bool has_floats floats_field x)

floats_is : (t : DataType) → has_floats t ≡ floats_layer (type_layer t)
floats_is = by_layer has_floats floats_layer (fold-roll-DataType Bool Bool floats_step (λ field. field.data_type)) (λ name inner metadata. refl)

floats_field_is : (u : Field) → floats_field u ≡ has_floats u.data_type
unfolding roll-DataType denote.Hole.Carrier.roll
floats_field_is u = fold-roll-Field Bool Bool floats_step (λ field. field.data_type) (field_layer u)

any_floats : (us : List Field) → list_any (λ (b : Bool). b) (map floats_field us) ≡ have_floats us
any_floats [] = refl
any_floats (u ∷ us) = λ j. floats_field_is u j || any_floats us j

abbrev invalid_field : Field → Bool
invalid_field = para-Field Bool Bool invalid_step (λ field. field.data_type.1)

abbrev invalid_layer : Layer → Bool
invalid_layer x =
    invalid_step (map-DataType DataType Field (DataType × Bool) (Field × Bool) (λ t. (t, is_invalid t)) (λ u. (u, invalid_field u)) x)

invalid_is : (t : DataType) → is_invalid t ≡ invalid_layer (type_layer t)
invalid_is = by_layer is_invalid invalid_layer (para-roll-DataType Bool Bool invalid_step (λ field. field.data_type.1))
    (λ name inner metadata. refl)

invalid_field_is : (u : Field) → invalid_field u ≡ is_invalid u.data_type
unfolding roll-DataType denote.Hole.Carrier.roll
invalid_field_is u = para-roll-Field Bool Bool invalid_step (λ field. field.data_type.1) (field_layer u)

abbrev answers : List Field → List (Field × Bool)
answers us = map (λ u. (u, invalid_field u)) us

any_invalid : (us : List Field) → list_any (λ (child : Field × Bool). child.1) (answers us) ≡ are_invalid us
any_invalid [] = refl
any_invalid (u ∷ us) = λ j. invalid_field_is u j || any_invalid us j

either_right : (a b : Bool) → b ≡ true → (a || b) ≡ true
either_right true b h = refl
either_right false b h = h

-- ---- types with one type below

-- a type has a builder where another has one, and none for the same reasons
pub record IsBuiltAs (t d : DataType) : Type 0 where
  pub floats : has_floats t ≡ has_floats d
  pub invalid : is_invalid t ≡ is_invalid d

pub built_as : (t d : DataType) → IsBuiltAs t d → has_builder d ≡ true → has_builder t ≡ true
built_as t d same h = (λ j. not (same.floats j || same.invalid j)) ∙ h

pub refused_as : (t d : DataType) (e : Error) → IsBuiltAs t d → IsNoBuilder d e → IsNoBuilder t e
refused_as t d e same (inl out) = inl out
refused_as t d e same (inr (inl floats)) = inr (inl (floats.0, same.floats ∙ floats.1))
refused_as t d e same (inr (inr other)) = inr (inr (other.0, same.invalid ∙ other.1))

module _ (t : DataType) where
  pub list_as : (item : Field) → type_layer t ≡ layer.List item → IsBuiltAs t item.data_type
  list_as item is = record {
    floats = floats_is t ∙ ap floats_layer is ∙ floats_field_is item;
    invalid = invalid_is t ∙ ap invalid_layer is ∙ invalid_field_is item;
  }

  pub large_list_as : (item : Field) → type_layer t ≡ layer.LargeList item → IsBuiltAs t item.data_type
  large_list_as item is = record {
    floats = floats_is t ∙ ap floats_layer is ∙ floats_field_is item;
    invalid = invalid_is t ∙ ap invalid_layer is ∙ invalid_field_is item;
  }

  pub fixed_list_as : (item : Field) (size : ℕ) → type_layer t ≡ layer.FixedSizeList item size → 0 < size → IsBuiltAs t item.data_type
  fixed_list_as item size is some = record {
    floats = floats_is t ∙ ap floats_layer is ∙ floats_field_is item;
    invalid = invalid_is t ∙ ap invalid_layer is ∙ (λ j. positive size some j || invalid_field_is item j);
  }

  pub unsized_invalid : (item : Field) (size : ℕ) → type_layer t ≡ layer.FixedSizeList item size → size ≡ 0 → is_invalid t ≡ true
  unsized_invalid item size is none = invalid_is t ∙ ap invalid_layer is ∙ ap (λ (n : ℕ). (n == 0) || invalid_field item) none

  pub no_bytes_invalid : (size : ℕ) → type_layer t ≡ layer.FixedSizeBinary size → size ≡ 0 → is_invalid t ≡ true
  no_bytes_invalid size is none = invalid_is t ∙ ap invalid_layer is ∙ ap (λ (n : ℕ). n == 0) none

  dictionary_invalid : (key : IntegerType) (value : DataType) (is_ordered : Bool) → type_layer t ≡ layer.Dictionary key value is_ordered
      → is_invalid t ≡ (is_ordered || (is_keyed (physical_type value) || is_invalid value))
  dictionary_invalid key value is_ordered is = invalid_is t ∙ ap invalid_layer is

  pub dictionary_as : (key : IntegerType) (value : DataType) (is_ordered : Bool) → type_layer t ≡ layer.Dictionary key value is_ordered
      → is_ordered ≡ false → is_keyed (physical_type value) ≡ false → IsBuiltAs t value
  dictionary_as key value is_ordered is loose plain = record {
    floats = floats_is t ∙ ap floats_layer is;
    invalid = dictionary_invalid key value is_ordered is ∙ (λ j. loose j || (plain j || is_invalid value));
  }

  pub ordered_invalid : (key : IntegerType) (value : DataType) (is_ordered : Bool) → type_layer t ≡ layer.Dictionary key value is_ordered
      → is_ordered ≡ true → is_invalid t ≡ true
  ordered_invalid key value is_ordered is ordered =
      dictionary_invalid key value is_ordered is ∙ ap (λ b. b || (is_keyed (physical_type value) || is_invalid value)) ordered

  pub keyed_invalid : (key : IntegerType) (value : DataType) (is_ordered : Bool) → type_layer t ≡ layer.Dictionary key value is_ordered
      → is_keyed (physical_type value) ≡ true → is_invalid t ≡ true
  keyed_invalid key value is_ordered is keyed =
      dictionary_invalid key value is_ordered is
      ∙ either_right is_ordered (is_keyed (physical_type value) || is_invalid value) (ap (λ b. b || is_invalid value) keyed)

-- ---- structs

module _ (t : DataType) (us : List Field) (is : type_layer t ≡ layer.Struct us) where
  struct_floats : has_floats t ≡ have_floats us
  struct_floats = floats_is t ∙ ap floats_layer is ∙ any_floats us

  struct_invalid : is_invalid t ≡ ((length us == 0) || are_invalid us)
  struct_invalid =
      let many : length (answers us) ≡ length us = length-map us (λ u. (u, invalid_field u)) in
      invalid_is t ∙ ap invalid_layer is ∙ (λ j. (many j == 0) || any_invalid us j)

  pub empty_struct_invalid : length us ≡ 0 → is_invalid t ≡ true
  empty_struct_invalid none = struct_invalid ∙ ap (λ (n : ℕ). (n == 0) || are_invalid us) none

  pub struct_refused : (e : Error) → AreNoBuilders us e → IsNoBuilder t e
  struct_refused e (inl out) = inl out
  struct_refused e (inr (inl floats)) = inr (inl (floats.0, struct_floats ∙ floats.1))
  struct_refused e (inr (inr other)) =
      inr (inr (other.0, struct_invalid ∙ either_right (length us == 0) (are_invalid us) other.1))

  both_neither : (a b c d : Bool) → not (a || b) ≡ true → not (c || d) ≡ true → not ((a || c) || (b || d)) ≡ true
  both_neither true b c d one more = absurd cc
  both_neither false true c d one more = absurd cc
  both_neither false false c d one more = more

  all_neither : (us : List Field) → have_builders us ≡ true → not (have_floats us || are_invalid us) ≡ true
  all_neither [] h = refl
  all_neither (u ∷ us) h =
      let parts = and_parts (has_builder u.data_type) (have_builders us) h in
      both_neither (has_floats u.data_type) (is_invalid u.data_type) (have_floats us) (are_invalid us) parts.0 (all_neither us parts.1)

  pub struct_built : have_builders us ≡ true → 0 < length us → has_builder t ≡ true
  struct_built all some =
      (λ j. not (struct_floats j || struct_invalid j)) ∙ (λ j. not (have_floats us || (positive (length us) some j || are_invalid us)))
      ∙ all_neither us all

-- ---- the layer of a logical type

layer_of : (t d : DataType) (x : Layer) → d ≡ logical_type t → d ≡ roll-DataType x → type_layer t ≡ x
layer_of t d x logical is = ap out-DataType (sym logical ∙ is) ∙ out-roll-DataType x

module _ (t d : DataType) (logical : d ≡ logical_type t) where
  pub at_list : (item u : Field) → d ≡ types.List item → u ≡ item → type_layer t ≡ layer.List u
  unfolding roll-DataType denote.Hole.Carrier.roll
  at_list item u is got = layer_of t d (layer.List item) logical is ∙ ap layer.List (sym got)

  pub at_large_list : (item u : Field) → d ≡ types.LargeList item → u ≡ item → type_layer t ≡ layer.LargeList u
  unfolding roll-DataType denote.Hole.Carrier.roll
  at_large_list item u is got = layer_of t d (layer.LargeList item) logical is ∙ ap layer.LargeList (sym got)

  pub at_fixed_list : (item : Field) (size : ℕ) (u : Field) → d ≡ types.FixedSizeList item size → u ≡ item
      → type_layer t ≡ layer.FixedSizeList u size
  unfolding roll-DataType denote.Hole.Carrier.roll
  at_fixed_list item size u is got =
      layer_of t d (layer.FixedSizeList item size) logical is ∙ ap (λ u. layer.FixedSizeList u size) (sym got)

  pub at_struct : (us own : List Field) → d ≡ types.Struct us → own ≡ us → type_layer t ≡ layer.Struct own
  unfolding roll-DataType denote.Hole.Carrier.roll
  at_struct us own is got = layer_of t d (layer.Struct us) logical is ∙ ap layer.Struct (sym got)

  pub at_fixed_binary : (size : ℕ) → d ≡ types.FixedSizeBinary size → type_layer t ≡ layer.FixedSizeBinary size
  unfolding roll-DataType denote.Hole.Carrier.roll
  at_fixed_binary size is = layer_of t d (layer.FixedSizeBinary size) logical is

  pub no_map : (entry : Field) (is_sorted : Bool) → d ≡ types.Map entry is_sorted → is_invalid t ≡ true
  unfolding roll-DataType denote.Hole.Carrier.roll
  no_map entry is_sorted is = invalid_is t ∙ ap invalid_layer (layer_of t d (layer.Map entry is_sorted) logical is)

  pub no_union : (us : List Field) (ids : Option (List ℤ)) (mode : UnionMode) → d ≡ types.Union us ids mode → is_invalid t ≡ true
  unfolding roll-DataType denote.Hole.Carrier.roll
  no_union us ids mode is = invalid_is t ∙ ap invalid_layer (layer_of t d (layer.Union us ids mode) logical is)

  pub at_dictionary : (key : IntegerType) (value : DataType) (is_ordered : Bool) (own : DataType) → d ≡ types.Dictionary key value is_ordered
      → own ≡ value → type_layer t ≡ layer.Dictionary key own is_ordered
  unfolding roll-DataType denote.Hole.Carrier.roll
  at_dictionary key value is_ordered own is got =
      layer_of t d (layer.Dictionary key value is_ordered) logical is ∙ ap (λ v. layer.Dictionary key v is_ordered) (sym got)

  pub no_half : d ≡ types.Float16 → has_floats t ≡ true
  unfolding roll-DataType denote.Hole.Carrier.roll
  no_half is = floats_is t ∙ ap floats_layer (layer_of t d layer.Float16 logical is)

  pub no_single : d ≡ types.Float32 → has_floats t ≡ true
  unfolding roll-DataType denote.Hole.Carrier.roll
  no_single is = floats_is t ∙ ap floats_layer (layer_of t d layer.Float32 logical is)

  pub no_double : d ≡ types.Float64 → has_floats t ≡ true
  unfolding roll-DataType denote.Hole.Carrier.roll
  no_double is = floats_is t ∙ ap floats_layer (layer_of t d layer.Float64 logical is)

-- ---- plain types

-- no layer of which there is another arm
pub record IsOther (d : DataType) : Type 0 where
  pub not-List : (item : Field) → d ≡ types.List item → ⊥
  pub not-LargeList : (item : Field) → d ≡ types.LargeList item → ⊥
  pub not-FixedSizeList : (item : Field) (size : ℕ) → d ≡ types.FixedSizeList item size → ⊥
  pub not-Struct : (us : List Field) → d ≡ types.Struct us → ⊥
  pub not-Map : (entry : Field) (is_sorted : Bool) → d ≡ types.Map entry is_sorted → ⊥
  pub not-Union : (us : List Field) (ids : Option (List ℤ)) (mode : UnionMode) → d ≡ types.Union us ids mode → ⊥
  pub not-Dictionary : (key : IntegerType) (value : DataType) (is_ordered : Bool) → d ≡ types.Dictionary key value is_ordered → ⊥
  pub not-Float16 : d ≡ types.Float16 → ⊥
  pub not-Float32 : d ≡ types.Float32 → ⊥
  pub not-Float64 : d ≡ types.Float64 → ⊥
  pub not-FixedSizeBinary : (size : ℕ) → d ≡ types.FixedSizeBinary size → ⊥

record PlainLayer (x : Layer) : Type 0 where
  no_floats : floats_layer x ≡ false
  valid : invalid_layer x ≡ false
  can : buildable_layer x ≡ true
  childless : is_childless (layer_layout x) ≡ true
  whole : is_of_floats (layer_layout x) ≡ false

other_layer : (x : Layer) → is_extension x ≡ false → IsOther (roll-DataType x) → PlainLayer x
unfolding roll-DataType denote.Hole.Carrier.roll
other_layer (layer.List item) plain h = absurd (h.not-List item refl)
other_layer (layer.LargeList item) plain h = absurd (h.not-LargeList item refl)
other_layer (layer.FixedSizeList item size) plain h = absurd (h.not-FixedSizeList item size refl)
other_layer (layer.Struct us) plain h = absurd (h.not-Struct us refl)
other_layer (layer.Map entry is_sorted) plain h = absurd (h.not-Map entry is_sorted refl)
other_layer (layer.Union us ids mode) plain h = absurd (h.not-Union us ids mode refl)
other_layer (layer.Dictionary key value is_ordered) plain h = absurd (h.not-Dictionary key value is_ordered refl)
other_layer layer.Float16 plain h = absurd (h.not-Float16 refl)
other_layer layer.Float32 plain h = absurd (h.not-Float32 refl)
other_layer layer.Float64 plain h = absurd (h.not-Float64 refl)
other_layer (layer.FixedSizeBinary size) plain h = absurd (h.not-FixedSizeBinary size refl)
other_layer (layer.Extension name inner metadata) plain h = absurd cc
other_layer (layer.Interval intervals.YearMonth) plain h = record { no_floats = refl; valid = refl; can = refl; childless = refl; whole = refl }
other_layer (layer.Interval intervals.DayTime) plain h = record { no_floats = refl; valid = refl; can = refl; childless = refl; whole = refl }
other_layer (layer.Interval intervals.MonthDayNano) plain h = record { no_floats = refl; valid = refl; can = refl; childless = refl; whole = refl }
other_layer x plain h = record { no_floats = refl; valid = refl; can = refl; childless = refl; whole = refl }

plain_by_layer : (t : DataType) (x : Layer) → type_layer t ≡ x → PlainLayer x → IsPlain t
plain_by_layer t x is plain = record {
  built = λ j. not ((floats_is t ∙ ap floats_layer is ∙ plain.no_floats) j || (invalid_is t ∙ ap invalid_layer is ∙ plain.valid) j);
  can = buildable_by_layer t x is ∙ plain.can;
  childless = ap is_childless (layout_by_layer t x is) ∙ plain.childless;
  whole = ap is_of_floats (layout_by_layer t x is) ∙ plain.whole;
}

pub others_are_plain : (t d : DataType) → d ≡ logical_type t → IsOther d → IsPlain t
others_are_plain t d logical h =
    plain_by_layer t (type_layer t) refl
    (other_layer (type_layer t) (not_extended t) (subst IsOther (logical ∙ sym (roll-out-DataType (logical_type t))) h))

pub strings_are_plain : (t : DataType) (size : ℕ) → type_layer t ≡ layer.FixedSizeBinary size → 0 < size → IsPlain t
strings_are_plain t size is some =
    plain_by_layer t (layer.FixedSizeBinary size) is (record {
      no_floats = refl;
      valid = positive size some;
      can = le-leb 1 size (omega (arith, some));
      childless = refl;
      whole = refl;
    })
