-- Which lists are sound, and which are fresh.
use Rattle.std.proofs.Common.{◌≡◌, ◌∙◌, ◌<◌, ◌≤◌, ◌+◌, ◌-◌, ℕ, List, [], ◌∷◌, ◌++◌, length, Bool, true, false, refl, sym, ap, subst, arith}
use Rattle.std.specs.Prelude.{Option, Some, None, ◌&&◌, ◌==◌, is_some, unwrap_or, nat_le, min, if◌then◌else◌}
use Rattle.std.specs.List.{list_all}
use mathlib.Core.Logic.{inl, inr}
use denote.Hole.Carrier
use Rattle.std.proofs.lemmas.Bool.{and_from, eq-eqb, false≢true, le-leb, leb-true, cases_Bool}
use Rattle.std.proofs.lemmas.List.{append-nil, length-append, length-map}
use Rattle.nested_arrays_nulls.specs.columnar_memory.declared.DataType.{DataType}
use Rattle.nested_arrays_nulls.specs.columnar_memory.declared.DataType.TheOpen as layer
use Rattle.nested_arrays_nulls.specs.columnar_memory.declared.DataType.TheViews.{roll-DataType}
use Rattle.nested_arrays_nulls.specs.columnar_memory.declared.Field.{Field}
use Rattle.nested_arrays_nulls.specs.columnar_memory.Bits.{unset_count}
use Rattle.nested_arrays_nulls.specs.columnar_memory.Equality.{same_type}
use Rattle.nested_arrays_nulls.specs.columnar_memory.Layouts.{physical_type}
use Rattle.nested_arrays_nulls.specs.columnar_memory.Spans.{Spans, last_of, offsets_of, spans_of}
use Rattle.nested_arrays_nulls.specs.columns.Children.{joined_items}
use Rattle.nested_arrays_nulls.specs.columns.FreshColumns.{fresh, is_valid, mask_of}
use Rattle.nested_arrays_nulls.specs.columns.FreshLaws.{is_buildable}
use Rattle.nested_arrays_nulls.specs.columns.Kinds.{most_offset, most_slots}
use Rattle.nested_arrays_nulls.specs.columns.OpenBatch.{fits, is_length, most_long, most_short}
use Rattle.nested_arrays_nulls.specs.columns.Slots.{Slot, null}
use Rattle.nested_arrays_nulls.specs.columns.SoundColumns.{are_offsets, has_item_type, is_sound, mask_fits}
use Rattle.nested_arrays_nulls.specs.columns.StoredColumns.{Column, column_len, column_type, lists, type_layer}
use Rattle.nested_arrays_nulls.specs.flat.ColumnMasks.{column_mask}
use Rattle.nested_arrays_nulls.specs.generic.ListTypes.{has_list_item_type, items_field, items_in, list_type}
use Rattle.nested_arrays_nulls.specs.arrays.ItemTypes.{item_field}
use Rattle.nested_arrays_cells.specs.parts.Marks.{marks, mask_of_marks}
use Rattle.nested_arrays_cells.specs.taken.builders.columns.OpenParts.{is_list, item_of, item_spans, marks_of, most_items}
use Rattle.nested_arrays_cells.proofs.columns_lemmas.Conditions.{parts_of_4}
use Rattle.nested_arrays_cells.proofs.columns_lemmas.FreshLengths.{Layer}
use Rattle.nested_arrays_cells.proofs.columns_lemmas.TypeLayers.{layer_itself}
use Rattle.nested_arrays_cells.proofs.columns_lemmas.Below.{buildable_large_list, buildable_list, items_few, items_fit_below}
use Rattle.nested_arrays_cells.proofs.columns_lemmas.LayerParts.{fresh_items}
use Rattle.nested_arrays_cells.proofs.columns_lemmas.Laws.{large_lists_fit_by_items, lists_fit_by_items, one_more_list, one_more_large_list}
use Rattle.nested_arrays_cells.proofs.columns_lemmas.Masks.{mask_by_count, mask_is}
use Rattle.nested_arrays_cells.proofs.columns_lemmas.Pieces.{item_spans_are}
use Rattle.nested_arrays_nulls.proofs.arrays_lemmas.ListParts.{lists_parts, lists_whole}
use Rattle.nested_arrays_nulls.proofs.arrays_lemmas.parts_lemmas.OffsetLists.{offsets_end_within}
use Rattle.nested_arrays_nulls.proofs.arrays_lemmas.columns_lemmas.SoundParts.{sound_items}
use Rattle.nested_arrays_nulls.proofs.arrays_lemmas.columnar_memory_lemmas.buffer_lemmas.Runs.{spans_of-offsets_of}
use Rattle.nested_arrays_cells.proofs.parts_lemmas.MarkLists.{marks_back}
use Rattle.nested_arrays_generic_builders.specs.ListBuilders.{lists_of}

-- ---- types

pub there : {A : Type 0} (o : Option A) → is_some o ≡ true → (a : A) × (o ≡ Some a)
there (Some a) h = (a, refl)
there None h = absurd (false≢true h)

unlike : {A : Type 0} (a : A) → None ≡ Some a → ⊥
unlike a h = false≢true (ap is_some h)

-- the layer of lists with offsets of a width
abbrev pub list_layer : Bool → Field → Layer
list_layer false item = layer.List item
list_layer true item = layer.LargeList item

layer_is : (large : Bool) (x : Layer) (item : Field) → items_field large x ≡ Some item → x ≡ list_layer large item
layer_is false (layer.List own) item is = ap (λ (o : Option Field). layer.List (unwrap_or o own)) is
layer_is true (layer.LargeList own) item is = ap (λ (o : Option Field). layer.LargeList (unwrap_or o own)) is
layer_is false _ item is = absurd (unlike item is)
layer_is true _ item is = absurd (unlike item is)

item_there : (large : Bool) (item : Field) → item_of (list_layer large item) ≡ Some item
item_there false item = refl
item_there true item = refl

items_typed : (large : Bool) (item : Field) (child : DataType) → has_item_type (list_layer large item) child ≡ same_type item.data_type child
items_typed false item child = refl
items_typed true item child = refl

own_items : (large : Bool) (item : Field) (child : DataType) → has_list_item_type large (list_layer large item) child ≡ same_type item.data_type child
own_items false item child = refl
own_items true item child = refl

-- types of lists of a width are so
pub listed_lies : (large : Bool) (field : Field) → is_some (items_field large (type_layer (lists_of large field))) ≡ true
unfolding roll-DataType denote.Hole.Carrier.roll
listed_lies false field = ap (λ (x : Layer). is_some (items_field false x)) (layer_itself (layer.List field) refl)
listed_lies true field = ap (λ (x : Layer). is_some (items_field true x)) (layer_itself (layer.LargeList field) refl)

pub default_lies : (large : Bool) (t : DataType) → is_some (items_field large (type_layer (list_type large t))) ≡ true
default_lies false t = listed_lies false (item_field t)
default_lies true t = listed_lies true (item_field t)

-- ---- sound lists

pub record AreSound (t : DataType) (mask : Option (List Bool)) (s : Spans) (child : Column) : Type 0 where
  pub typed : has_item_type (type_layer t) (column_type child) ≡ true
  pub few : last_of s ≤ most_offset (physical_type t)
  pub within : last_of s ≤ column_len child
  pub masked : mask_fits mask (length s.lengths) ≡ true
  pub items : is_sound child ≡ true

pub sound_parts : (t : DataType) (mask : Option (List Bool)) (s : Spans) (child : Column) → is_sound (lists t mask (offsets_of s) child) ≡ true
    → AreSound t mask s child
sound_parts t mask s child sound =
    let limit = min (most_offset (physical_type t)) (column_len child) in
    let parts = lists_parts t mask s child sound in
    let own = parts_of_4 (has_item_type (type_layer t) (column_type child)) (are_offsets (offsets_of s) limit)
    (mask_fits mask (length (offsets_of s) - 1)) (is_sound child) sound in record {
      typed = parts.0;
      few = omega (arith, offsets_end_within s limit own.1);
      within = parts.1;
      masked = parts.2;
      items = sound_items t mask (offsets_of s) child sound;
    }

pub sound_whole : (t : DataType) (mask : Option (List Bool)) (s : Spans) (child : Column) → AreSound t mask s child
    → is_sound (lists t mask (offsets_of s) child) ≡ true
sound_whole t mask s child h = lists_whole t mask s child h.typed h.few h.within h.masked h.items

pub marks_fit : (ms : List Bool) (n : ℕ) → length ms ≡ n → mask_fits (mask_of_marks ms) n ≡ true
marks_fit ms n long = chosen (unset_count ms == 0)
  where
    chosen : (b : Bool) → mask_fits (if b then None else Some ms) n ≡ true
    chosen true = refl
    chosen false = eq-eqb (length ms) n long

-- ---- fresh lists

module _ (large : Bool) (t : DataType) (item : Field) (is : items_field large (type_layer t) ≡ Some item) where
  pub layered : type_layer t ≡ list_layer large item
  layered = layer_is large (type_layer t) item is

  pub item_is : item_of (type_layer t) ≡ Some item
  item_is = ap item_of layered ∙ item_there large item

  pub typed_as : (child : DataType) → has_item_type (type_layer t) child ≡ same_type item.data_type child
  typed_as child = ap (λ (x : Layer). has_item_type x child) layered ∙ items_typed large item child

  pub typed_by_width : (child : DataType) → has_list_item_type large (type_layer t) child ≡ same_type item.data_type child
  typed_by_width child = ap (λ (x : Layer). has_list_item_type large x child) layered ∙ own_items large item child

  -- the column that stores some lists, by their marks and spans
  pub stored_lists : (xs : List Slot)
      → lists t (mask_of_marks (marks_of xs)) (offsets_of (item_spans xs)) (fresh item.data_type (joined_items xs)) ≡ fresh t xs
  stored_lists xs =
      let mask : mask_of_marks (marks_of xs) ≡ mask_of xs = sym (mask_is xs ∙ mask_by_count (marks_of xs)) in
      (λ j. lists t (mask j) (item_spans_are xs j) (fresh item.data_type (joined_items xs))) ∙ sym (fresh_items t item item_is xs)

  -- marks, spans and items by the lists that they store
  pub marks_stored : (ms : List Bool) (s : Spans) (child : Column) (xs : List Slot) → lists t (mask_of_marks ms) (offsets_of s) child ≡ fresh t xs
      → length ms ≡ length xs → ms ≡ marks_of xs
  marks_stored ms s child xs same long =
      let mask : mask_of_marks ms ≡ mask_of_marks (marks_of xs) =
      ap column_mask (same ∙ sym (stored_lists xs)) in
      let both : length (marks_of xs) ≡ length ms = length-map xs is_valid ∙ sym long in
      sym (marks_back ms (length ms) refl) ∙ ap (marks (length ms)) mask ∙ marks_back (marks_of xs) (length ms) both

  pub spans_stored : (ms : List Bool) (s : Spans) (child : Column) (xs : List Slot) → lists t (mask_of_marks ms) (offsets_of s) child ≡ fresh t xs
      → s ≡ item_spans xs
  spans_stored ms s child xs same =
      let offsets : offsets_of s ≡ offsets_of (item_spans xs) = ap offsets_in (same ∙ sym (stored_lists xs)) in
      sym (spans_of-offsets_of s) ∙ ap spans_of offsets ∙ spans_of-offsets_of (item_spans xs)
    where
      offsets_in : Column → List ℕ
      offsets_in (lists t mask offsets child) = offsets
      offsets_in _ = []

  pub items_stored : (ms : List Bool) (s : Spans) (child : Column) (xs : List Slot) → lists t (mask_of_marks ms) (offsets_of s) child ≡ fresh t xs
      → child ≡ fresh item.data_type (joined_items xs)
  items_stored ms s child xs same = ap items_in (same ∙ sym (stored_lists xs))

  -- lists that fit, and a null
  pub one_null_fits : (xs : List Slot) → fits t xs ≡ true → length xs < most_slots → fits t (xs ++ null ∷ []) ≡ true
  one_null_fits xs fit few =
      let more = le-leb (length xs + 1) most_slots (omega (arith, few)) in
      let below : fits item.data_type (joined_items xs ++ []) ≡ true =
      ap (fits item.data_type) (append-nil (joined_items xs)) ∙ items_fit_below t item item_is xs fit in
      by_width large layered more below (items_few t item item_is xs fit)
    where
      by_width : (large : Bool) → type_layer t ≡ list_layer large item → nat_le (length xs + 1) most_slots ≡ true
          → fits item.data_type (joined_items xs ++ []) ≡ true → length (joined_items xs) ≤ most_items (type_layer t)
          → fits t (xs ++ null ∷ []) ≡ true
      by_width false layered more below few =
          let most : most_items (type_layer t) ≡ most_short = ap most_items layered in
          let count = le-leb (length (joined_items xs) + 0) most_short (omega (arith, few, most)) in
          one_more_list t item layered xs null fit
          ∙ and_from (nat_le (length xs + 1) most_slots && nat_le (length (joined_items xs) + 0) most_short)
          (fits item.data_type (joined_items xs ++ []))
          (and_from (nat_le (length xs + 1) most_slots) (nat_le (length (joined_items xs) + 0) most_short) more count) below
      by_width true layered more below few =
          let most : most_items (type_layer t) ≡ most_long = ap most_items layered in
          let count = le-leb (length (joined_items xs) + 0) most_long (omega (arith, few, most)) in
          one_more_large_list t item layered xs null fit
          ∙ and_from (nat_le (length xs + 1) most_slots && nat_le (length (joined_items xs) + 0) most_long)
          (fits item.data_type (joined_items xs ++ []))
          (and_from (nat_le (length xs + 1) most_slots) (nat_le (length (joined_items xs) + 0) most_long) more count) below

  -- lists that fit are no more than a column may have
  pub few_fit : (xs : List Slot) → fits t xs ≡ true → length xs ≤ most_slots
  few_fit xs fit = by_width large layered
    where
      by_width : (large : Bool) → type_layer t ≡ list_layer large item → length xs ≤ most_slots
      by_width false layered =
          let parts = parts_of_4 (list_all is_list xs) (is_length xs) (nat_le (length (joined_items xs)) most_short)
          (fits item.data_type (joined_items xs)) (sym (lists_fit_by_items t item layered xs) ∙ fit) in
          leb-true (length xs) most_slots parts.1
      by_width true layered =
          let parts = parts_of_4 (list_all is_list xs) (is_length xs) (nat_le (length (joined_items xs)) most_long)
          (fits item.data_type (joined_items xs)) (sym (large_lists_fit_by_items t item layered xs) ∙ fit) in
          leb-true (length xs) most_slots parts.1

  pub too_many : (xs : List Slot) → most_slots < length xs → fits t xs ≡ false
  too_many xs many =
      elim (cases_Bool (fits t xs)) [ inl fit ↦ absurd (omega (arith, few_fit xs fit, many)) | inr unfit ↦ unfit ]

  pub list_buildable : is_buildable t ≡ is_buildable item.data_type
  list_buildable = by_width large layered
    where
      by_width : (large : Bool) → type_layer t ≡ list_layer large item → is_buildable t ≡ is_buildable item.data_type
      by_width false layered = buildable_list t item layered
      by_width true layered = buildable_large_list t item layered
