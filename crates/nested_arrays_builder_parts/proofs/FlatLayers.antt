-- What a column of some slots stores and what fits it, where its type has no children: by how its arrays lie in memory.
use Rattle.std.proofs.Common.{◌≡◌, ◌∙◌, ℕ, List, [], ◌∷◌, ◌++◌, Bool, true, false, length, map, refl, sym, ap}
use Rattle.std.specs.Prelude.{Option, Some, None, is_some, unwrap_or, pos}
use Rattle.std.specs.List.{concat, flat_map}
use Rattle.nested_arrays_core.specs.arrays.columnar_memory.declared.DataType.{DataType}
use Rattle.nested_arrays_core.specs.arrays.columnar_memory.declared.DataType.TheOpen as layer
use Rattle.nested_arrays_core.specs.arrays.columnar_memory.declared.IntervalUnit.TheVariants as intervals
use Rattle.nested_arrays_core.specs.arrays.columnar_memory.declared.PhysicalType.{PhysicalType}
use Rattle.nested_arrays_core.specs.arrays.columnar_memory.declared.PhysicalType.TheVariants as physical
use Rattle.nested_arrays_core.specs.arrays.columnar_memory.declared.PrimitiveType.{PrimitiveType}
use Rattle.nested_arrays_core.specs.arrays.columnar_memory.declared.PrimitiveType.TheVariants as kinds
use Rattle.nested_arrays_core.specs.arrays.columnar_memory.Layouts.{physical_type}
use Rattle.nested_arrays_core.specs.arrays.columnar_memory.Numbers.{Numbers, one, two, three, first_number, second_number, third_number}
use Rattle.nested_arrays_core.specs.arrays.columns.Cells.{fits_cell}
use Rattle.nested_arrays_core.specs.arrays.columns.FreshColumns.{
  is_true,
  number_of,
  pair_of,
  triple_of,
  content_of,
  fixed_content_of,
  mask_of,
  numbers_as,
  sums_from,
  fresh,
}
use Rattle.nested_arrays_core.specs.arrays.columns.Kinds.{kind_of}
use Rattle.nested_arrays_core.specs.arrays.columns.OpenBatch.{is_length, bytes_within, is_within}
use Rattle.nested_arrays_core.specs.arrays.columns.Slots.{Slot}
use Rattle.nested_arrays_core.specs.arrays.columns.StoredColumns.{Stored, bits, numbers, pairs, triples, texts, byte_strings, fixed_bytes, flat, type_layer}
use Rattle.nested_arrays_core.proofs.arrays_lemmas.columns_lemmas.FreshLengths.{Layer, cell_layer, unlike}
use Rattle.nested_arrays_core.proofs.arrays_lemmas.columns_lemmas.TypeLayers.{is_extension, layer_layout}
use Rattle.nested_arrays_core.specs.columns.OpenParts.{is_of_kind, kind_in}
use Rattle.nested_arrays_core.proofs.columns_lemmas.LayerParts.{fresh_nulls, fresh_booleans, fresh_binary, fresh_large_binary, fresh_texts}
use Rattle.nested_arrays_core.proofs.columns_lemmas.LayerParts.{fresh_large_texts, fresh_fixed_binary, fresh_primitive, kind_by_layout}
use Rattle.nested_arrays_core.proofs.columns_lemmas.TypeSteps.{within_layer, cell_by_layer, within_by_layer, layout_by_layer, not_extended}
use Rattle.nested_arrays_builder_parts.specs.Growing.{Growing, nothing, truths, whole, strings, sized, numbers_for, values_of, takes, most_bytes}
use Rattle.nested_arrays_builder_parts.specs.Growing.{numbers_stored, layout_of, width_of, grown_column}
use Rattle.nested_arrays_core.specs.arrays.flat.FlatColumns.{layer_width, byte_width}

-- ---- layers by how they lie in memory

pub null_layer : (x : Layer) → is_extension x ≡ false → layer_layout x ≡ physical.Null → x ≡ layer.Null
null_layer layer.Null plain is = refl
null_layer (layer.Extension name inner metadata) plain is = absurd cc
null_layer (layer.Interval intervals.YearMonth) plain is = absurd cc
null_layer (layer.Interval intervals.DayTime) plain is = absurd cc
null_layer (layer.Interval intervals.MonthDayNano) plain is = absurd cc
null_layer _ plain is = absurd cc

pub boolean_layer : (x : Layer) → is_extension x ≡ false → layer_layout x ≡ physical.Boolean → x ≡ layer.Boolean
boolean_layer layer.Boolean plain is = refl
boolean_layer (layer.Extension name inner metadata) plain is = absurd cc
boolean_layer (layer.Interval intervals.YearMonth) plain is = absurd cc
boolean_layer (layer.Interval intervals.DayTime) plain is = absurd cc
boolean_layer (layer.Interval intervals.MonthDayNano) plain is = absurd cc
boolean_layer _ plain is = absurd cc

pub binary_layer : (x : Layer) → is_extension x ≡ false → layer_layout x ≡ physical.Binary → x ≡ layer.Binary
binary_layer layer.Binary plain is = refl
binary_layer (layer.Extension name inner metadata) plain is = absurd cc
binary_layer (layer.Interval intervals.YearMonth) plain is = absurd cc
binary_layer (layer.Interval intervals.DayTime) plain is = absurd cc
binary_layer (layer.Interval intervals.MonthDayNano) plain is = absurd cc
binary_layer _ plain is = absurd cc

pub large_binary_layer : (x : Layer) → is_extension x ≡ false → layer_layout x ≡ physical.LargeBinary → x ≡ layer.LargeBinary
large_binary_layer layer.LargeBinary plain is = refl
large_binary_layer (layer.Extension name inner metadata) plain is = absurd cc
large_binary_layer (layer.Interval intervals.YearMonth) plain is = absurd cc
large_binary_layer (layer.Interval intervals.DayTime) plain is = absurd cc
large_binary_layer (layer.Interval intervals.MonthDayNano) plain is = absurd cc
large_binary_layer _ plain is = absurd cc

pub text_layer : (x : Layer) → is_extension x ≡ false → layer_layout x ≡ physical.Utf8 → x ≡ layer.Utf8
text_layer layer.Utf8 plain is = refl
text_layer (layer.Extension name inner metadata) plain is = absurd cc
text_layer (layer.Interval intervals.YearMonth) plain is = absurd cc
text_layer (layer.Interval intervals.DayTime) plain is = absurd cc
text_layer (layer.Interval intervals.MonthDayNano) plain is = absurd cc
text_layer _ plain is = absurd cc

pub large_text_layer : (x : Layer) → is_extension x ≡ false → layer_layout x ≡ physical.LargeUtf8 → x ≡ layer.LargeUtf8
large_text_layer layer.LargeUtf8 plain is = refl
large_text_layer (layer.Extension name inner metadata) plain is = absurd cc
large_text_layer (layer.Interval intervals.YearMonth) plain is = absurd cc
large_text_layer (layer.Interval intervals.DayTime) plain is = absurd cc
large_text_layer (layer.Interval intervals.MonthDayNano) plain is = absurd cc
large_text_layer _ plain is = absurd cc

pub sized_layer : (x : Layer) (size : ℕ) → is_extension x ≡ false → layer_layout x ≡ physical.FixedSizeBinary → layer_width x ≡ size
    → x ≡ layer.FixedSizeBinary size
sized_layer (layer.FixedSizeBinary own) size plain is wide = ap layer.FixedSizeBinary wide
sized_layer (layer.Extension name inner metadata) size plain is wide = absurd cc
sized_layer (layer.Interval intervals.YearMonth) size plain is wide = absurd cc
sized_layer (layer.Interval intervals.DayTime) size plain is wide = absurd cc
sized_layer (layer.Interval intervals.MonthDayNano) size plain is wide = absurd cc
sized_layer _ size plain is wide = absurd cc

-- a type's layer by how its arrays lie in memory
pub at_layout : (t : DataType) (layout : PhysicalType) (x : Layer)
    → ((y : Layer) → is_extension y ≡ false → layer_layout y ≡ layout → y ≡ x) → physical_type t ≡ layout → type_layer t ≡ x
at_layout t layout x by is = by (type_layer t) (not_extended t) (sym (layout_by_layer t (type_layer t) refl) ∙ is)

-- ---- numbers

map_twice : {A B C : Type 0} (f : B → C) (g : A → B) (xs : List A) → map f (map g xs) ≡ map (λ x. f (g x)) xs
map_twice f g [] = refl
map_twice f g (x ∷ xs) = ap (λ rest. f (g x) ∷ rest) (map_twice f g xs)

plain_numbers : (kind : PrimitiveType) (xs : List Slot) → map number_of xs ≡ map first_number (map (λ s. one (number_of s)) xs)
plain_numbers kind xs = sym (map_twice first_number (λ s. one (number_of s)) xs)

numbers_are : (kind : PrimitiveType) (xs : List Slot) → numbers_as kind xs ≡ numbers_stored kind (map (numbers_for kind) xs)
numbers_are kinds.DaysMs xs = ap (pairs kinds.DaysMs) (sym (map_twice (λ n. (first_number n, second_number n)) (numbers_for kinds.DaysMs) xs))
numbers_are kinds.MonthDayNano xs = ap (triples kinds.MonthDayNano)
    (sym (map_twice (λ n. (first_number n, second_number n, third_number n)) (numbers_for kinds.MonthDayNano) xs))
numbers_are kinds.Int8 xs = ap (numbers kinds.Int8) (plain_numbers kinds.Int8 xs)
numbers_are kinds.Int16 xs = ap (numbers kinds.Int16) (plain_numbers kinds.Int16 xs)
numbers_are kinds.Int32 xs = ap (numbers kinds.Int32) (plain_numbers kinds.Int32 xs)
numbers_are kinds.Int64 xs = ap (numbers kinds.Int64) (plain_numbers kinds.Int64 xs)
numbers_are kinds.Int128 xs = ap (numbers kinds.Int128) (plain_numbers kinds.Int128 xs)
numbers_are kinds.Int256 xs = ap (numbers kinds.Int256) (plain_numbers kinds.Int256 xs)
numbers_are kinds.UInt8 xs = ap (numbers kinds.UInt8) (plain_numbers kinds.UInt8 xs)
numbers_are kinds.UInt16 xs = ap (numbers kinds.UInt16) (plain_numbers kinds.UInt16 xs)
numbers_are kinds.UInt32 xs = ap (numbers kinds.UInt32) (plain_numbers kinds.UInt32 xs)
numbers_are kinds.UInt64 xs = ap (numbers kinds.UInt64) (plain_numbers kinds.UInt64 xs)
numbers_are kinds.Float16 xs = ap (numbers kinds.Float16) (plain_numbers kinds.Float16 xs)
numbers_are kinds.Float32 xs = ap (numbers kinds.Float32) (plain_numbers kinds.Float32 xs)
numbers_are kinds.Float64 xs = ap (numbers kinds.Float64) (plain_numbers kinds.Float64 xs)

-- which slots fit, and their limits
record OfKind (x : Layer) (kind : PrimitiveType) : Type 0 where
  cells : cell_layer x ≡ is_of_kind kind
  rooms : (xs : List Slot) → within_layer x xs ≡ is_length xs

of_kind : (x : Layer) (kind : PrimitiveType) → kind_of x ≡ Some kind → OfKind x kind
of_kind layer.Null kind is = absurd (unlike (ap is_some is))
of_kind layer.Boolean kind is = absurd (unlike (ap is_some is))
of_kind layer.Binary kind is = absurd (unlike (ap is_some is))
of_kind layer.LargeBinary kind is = absurd (unlike (ap is_some is))
of_kind (layer.FixedSizeBinary size) kind is = absurd (unlike (ap is_some is))
of_kind layer.Utf8 kind is = absurd (unlike (ap is_some is))
of_kind layer.LargeUtf8 kind is = absurd (unlike (ap is_some is))
of_kind (layer.List item) kind is = absurd (unlike (ap is_some is))
of_kind (layer.LargeList item) kind is = absurd (unlike (ap is_some is))
of_kind (layer.FixedSizeList item size) kind is = absurd (unlike (ap is_some is))
of_kind (layer.Struct children) kind is = absurd (unlike (ap is_some is))
of_kind (layer.Union children ids mode) kind is = absurd (unlike (ap is_some is))
of_kind (layer.Map entry is_sorted) kind is = absurd (unlike (ap is_some is))
of_kind (layer.Dictionary key value is_ordered) kind is = absurd (unlike (ap is_some is))
of_kind (layer.Extension name inner metadata) kind is = absurd (unlike (ap is_some is))
of_kind (layer.Interval intervals.YearMonth) kind is = record { cells = ap (λ k. is_of_kind (unwrap_or k kind)) is; rooms = λ xs. refl }
of_kind (layer.Interval intervals.DayTime) kind is = record { cells = ap (λ k. is_of_kind (unwrap_or k kind)) is; rooms = λ xs. refl }
of_kind (layer.Interval intervals.MonthDayNano) kind is = record { cells = ap (λ k. is_of_kind (unwrap_or k kind)) is; rooms = λ xs. refl }
of_kind _ kind is = record { cells = ap (λ k. is_of_kind (unwrap_or k kind)) is; rooms = λ xs. refl }

-- ---- strings

joined_strings : (xs : List Slot) → flat_map content_of xs ≡ concat (map content_of xs)
joined_strings [] = refl
joined_strings (x ∷ xs) = ap (λ rest. content_of x ++ rest) (joined_strings xs)

-- ---- types by how their arrays lie in memory

-- as many slots as these values allow, and the bytes of strings within their offsets
abbrev pub values_within : Growing → List Slot → Bool
values_within (strings of_text is_large values) xs = bytes_within (most_bytes is_large) xs
values_within _ xs = is_length xs

pub record AreValuesOf (t : DataType) (values : Growing) : Type 0 where
  pub stores : (xs : List Slot) → fresh t xs ≡ grown_column t (length xs) (mask_of xs) (values_of values xs)
  pub cells : (slot : Slot) → fits_cell t slot ≡ takes values slot
  pub rooms : (xs : List Slot) → is_within t xs ≡ values_within values xs

module _ (t : DataType) (x : Layer) (is : type_layer t ≡ x) where
  cells_at : (slot : Slot) → fits_cell t slot ≡ cell_layer x slot
  cells_at slot = ap (λ (test : Slot → Bool). test slot) (cell_by_layer t x is)

  rooms_at : (xs : List Slot) → is_within t xs ≡ within_layer x xs
  rooms_at xs = ap (λ (test : List Slot → Bool). test xs) (within_by_layer t x is)

lengths_are : (xs : List Slot) → sums_from 0 (map (λ slot. length (content_of slot)) xs) ≡ sums_from 0 (map length (map content_of xs))
lengths_are xs = ap (sums_from 0) (sym (map_twice length content_of xs))

texts_are : (t : DataType) (xs : List Slot)
    → flat t (mask_of xs) (texts (sums_from 0 (map (λ slot. length (content_of slot)) xs)) (flat_map content_of xs))
    ≡ flat t (mask_of xs) (texts (sums_from 0 (map length (map content_of xs))) (concat (map content_of xs)))
texts_are t xs = λ j. flat t (mask_of xs) (texts (lengths_are xs j) (joined_strings xs j))

strings_are : (t : DataType) (xs : List Slot)
    → flat t (mask_of xs) (byte_strings (sums_from 0 (map (λ slot. length (content_of slot)) xs)) (flat_map content_of xs))
    ≡ flat t (mask_of xs) (byte_strings (sums_from 0 (map length (map content_of xs))) (concat (map content_of xs)))
strings_are t xs = λ j. flat t (mask_of xs) (byte_strings (lengths_are xs j) (joined_strings xs j))

pub at_width : (t : DataType) (size : ℕ) → physical_type t ≡ physical.FixedSizeBinary → byte_width t ≡ size
    → type_layer t ≡ layer.FixedSizeBinary size
at_width t size lies wide = sized_layer (type_layer t) size (not_extended t) (sym (layout_by_layer t (type_layer t) refl) ∙ lies) wide

-- a type whose arrays lie in memory as these values do is one of them
pub values_of_type : (t : DataType) (values : Growing) → physical_type t ≡ layout_of values → byte_width t ≡ width_of values → AreValuesOf t values
values_of_type t nothing lies wide =
    let is = at_layout t physical.Null layer.Null null_layer lies in
    record { stores = fresh_nulls t is; cells = cells_at t layer.Null is; rooms = rooms_at t layer.Null is }
values_of_type t (truths values) lies wide =
    let is = at_layout t physical.Boolean layer.Boolean boolean_layer lies in
    record { stores = fresh_booleans t is; cells = cells_at t layer.Boolean is; rooms = rooms_at t layer.Boolean is }
values_of_type t (whole kind values) lies wide =
    let of = of_kind (type_layer t) kind (kind_by_layout t ∙ ap kind_in lies) in
    record {
      stores = λ xs. fresh_primitive t kind lies xs ∙ ap (flat t (mask_of xs)) (numbers_are kind xs);
      cells = λ slot. cells_at t (type_layer t) refl slot ∙ ap (λ (test : Slot → Bool). test slot) of.cells;
      rooms = λ xs. rooms_at t (type_layer t) refl xs ∙ of.rooms xs;
    }
values_of_type t (strings true true values) lies wide =
    let is = at_layout t physical.LargeUtf8 layer.LargeUtf8 large_text_layer lies in
    record { stores = λ xs. fresh_large_texts t is xs ∙ texts_are t xs; cells = cells_at t layer.LargeUtf8 is; rooms = rooms_at t layer.LargeUtf8 is }
values_of_type t (strings true false values) lies wide =
    let is = at_layout t physical.Utf8 layer.Utf8 text_layer lies in
    record { stores = λ xs. fresh_texts t is xs ∙ texts_are t xs; cells = cells_at t layer.Utf8 is; rooms = rooms_at t layer.Utf8 is }
values_of_type t (strings false true values) lies wide =
    let is = at_layout t physical.LargeBinary layer.LargeBinary large_binary_layer lies in
    record {
      stores = λ xs. fresh_large_binary t is xs ∙ strings_are t xs;
      cells = cells_at t layer.LargeBinary is;
      rooms = rooms_at t
          layer.LargeBinary is;
    }
values_of_type t (strings false false values) lies wide =
    let is = at_layout t physical.Binary layer.Binary binary_layer lies in
    record { stores = λ xs. fresh_binary t is xs ∙ strings_are t xs; cells = cells_at t layer.Binary is; rooms = rooms_at t layer.Binary is }
values_of_type t (sized size content) lies wide =
    let is = at_width t size lies wide in
    record {
      stores = fresh_fixed_binary t size is;
      cells = cells_at t (layer.FixedSizeBinary size) is;
      rooms = rooms_at t (layer.FixedSizeBinary
          size) is;
    }
