-- Columns of lists whose slots stand one behind the other, over items that do.
use Rattle.std.proofs.Common.{◌≡◌, ◌≢◌, ◌∙◌, ◌<◌, ◌≤◌, ◌+◌, ℕ, List, ◌++◌, length, take, sum, get_or, Bool, true, false, refl, sym, ap, subst, arith}
use Rattle.std.specs.Prelude.{Some, ◌&&◌, ◌⊎◌, if◌then◌else◌, nat_le, Result, Ok, Err}
use Rattle.std.specs.List.{list_all}
use Rattle.std.proofs.Math.Seq.{take-append-add}
use Rattle.std.proofs.lemmas.Bool.{and_from, false≢true, false_from_ne_true, le-leb, leb-true}
use Rattle.std.proofs.lemmas.Grind.{flat_map-append}
use Rattle.std.proofs.lemmas.List.{get_or-append-add, get_or_append_left, length-append, map-append, take-append-le, take_all, take_at}
use Rattle.std.proofs.lemmas.List.Folds.{list_all-append}
use Rattle.std.proofs.lemmas.List.Sums.{sum_by-append}
use mathlib.Core.Logic.{inl, inr}
use Rattle.nested_arrays_sized_builders.specs.nulls.columnar_memory.declared.DataType.{DataType}
use Rattle.nested_arrays_sized_builders.specs.nulls.columnar_memory.declared.Error.{Error}
use Rattle.nested_arrays_sized_builders.specs.nulls.columnar_memory.declared.Field.{Field}
use Rattle.nested_arrays_sized_builders.specs.nulls.columnar_memory.Equality.{same_type}
use Rattle.nested_arrays_sized_builders.specs.nulls.columnar_memory.Error.{IsInvalidArgument, IsOutOfMemory, IsOverflow}
use Rattle.nested_arrays_sized_builders.specs.nulls.columnar_memory.Spans.{Spans, extended, first_spans, last_of, offset_at, offsets_of}
use Rattle.nested_arrays_sized_builders.specs.nulls.columns.Children.{items_of, joined_items}
use Rattle.nested_arrays_sized_builders.specs.nulls.columns.FreshColumns.{fresh, is_valid}
use Rattle.nested_arrays_sized_builders.specs.nulls.columns.FreshLaws.{is_buildable}
use Rattle.nested_arrays_sized_builders.specs.nulls.columns.Kinds.{most_slots}
use Rattle.nested_arrays_sized_builders.specs.nulls.columns.OpenBatch.{fits, is_length}
use Rattle.nested_arrays_sized_builders.specs.nulls.columns.Slots.{Slot, null, items, in_slots, window}
use Rattle.nested_arrays_sized_builders.specs.nulls.columns.SoundColumns.{is_sound}
use Rattle.nested_arrays_sized_builders.specs.nulls.columns.StoredColumns.{Column, column_len, column_type, lists, slot_at, slots, type_layer}
use Rattle.nested_arrays_sized_builders.specs.nulls.generic.ListTypes.{items_field}
use Rattle.nested_arrays_sized_builders.specs.cells.parts.Marks.{mask_of_marks}
use Rattle.nested_arrays_sized_builders.specs.cells.parts.Open.{opened}
use Rattle.nested_arrays_sized_builders.specs.cells.taken.OpenColumns.{Becomes, IsFresh, KeepsFirst}
use Rattle.nested_arrays_sized_builders.specs.cells.taken.builders.columns.OpenParts.{is_list, item_spans, marks_of}
use Rattle.nested_arrays_sized_builders.specs.ListBuilders.{AreLists, HasNoRoomFor, ListParts, lists_column, with_lists}
use Rattle.nested_arrays_sized_builders.proofs.columns_lemmas.Below.{items_fit_below}
use Rattle.nested_arrays_sized_builders.proofs.columns_lemmas.Laws.{large_lists_fit_by_items, lists_fit_by_items}
use Rattle.nested_arrays_sized_builders.proofs.columns_lemmas.Pieces.{item_spans_last}
use Rattle.nested_arrays_sized_builders.proofs.lists_lemmas.ListSlots.{list_at, list_slots}
use Rattle.nested_arrays_sized_builders.proofs.lists_lemmas.ListsStored.{item_is, items_stored, layered, list_buildable, list_layer, marks_fit}
use Rattle.nested_arrays_sized_builders.proofs.lists_lemmas.ListsStored.{marks_stored, sound_parts, spans_stored, stored_lists, too_many, typed_as}
use Rattle.nested_arrays_sized_builders.proofs.lists_lemmas.ListsStored.{there, typed_by_width}
use Rattle.nested_arrays_sized_builders.proofs.lists_lemmas.OpenLists.{first_left}
use Rattle.nested_arrays_sized_builders.proofs.nulls_lemmas.arrays_lemmas.columns_lemmas.ColumnSizes.{slots_lengths}
use Rattle.nested_arrays_sized_builders.proofs.nulls_lemmas.arrays_lemmas.columns_lemmas.Conditions.{parts_of_4}
use Rattle.nested_arrays_sized_builders.proofs.nulls_lemmas.arrays_lemmas.columns_lemmas.FreshPlaces.{at_window}
use Rattle.nested_arrays_sized_builders.proofs.nulls_lemmas.arrays_lemmas.columns_lemmas.Windows.{window_same}
use Rattle.nested_arrays_sized_builders.proofs.nulls_lemmas.columnar_memory_lemmas.buffer_lemmas.Runs.{offset_at-le-last_of, offset_at-more}
use Rattle.nested_arrays_sized_builders.proofs.nulls_lemmas.flat_lemmas.Offsets.{spans_count}
use Rattle.nested_arrays_sized_builders.proofs.nulls_lemmas.generic_lemmas.ListParts.{list_whole}
use Rattle.nested_arrays_sized_builders.proofs.GrownColumns.{becomes_by, begins, fresh_sound}
use Rattle.nested_arrays_sized_builders.proofs.taken_lemmas.FlatSlots.{unchanged}
use Rattle.nested_arrays_sized_builders.proofs.taken_lemmas.OpenColumns.{open_fresh, open_slots, open_type}
use Rattle.nested_arrays_dictionary_builders.specs.JoinedColumns.{AddsColumn, AreAlike, AreApart, Joins}
use Rattle.nested_arrays_dictionary_builders.specs.JoinedLists.{JoinsItems}
use Rattle.nested_arrays_dictionary_builders.proofs.JoinedSlots.{window_joins}

-- ---- slots

-- what stands at a place behind the slots of a first column
pub at_second : (a b c : Column) → slots c ≡ slots a ++ slots b → (i : ℕ) → i < column_len b → slot_at c (column_len a + i) ≡ slot_at b i
at_second a b c same i h =
    let long : column_len c ≡ column_len a + column_len b =
    omega (arith, slots_lengths a, slots_lengths b, slots_lengths c, ap length same, length-append (slots a) (slots b)) in
    at_window (slot_at c) (column_len c) (slots c) (column_len a + i) null refl (omega (arith, h, long))
    ∙ ap (λ (xs : List Slot). get_or xs (column_len a + i) null) same
    ∙ ap (λ (k : ℕ). get_or (slots a ++ slots b) (k + i) null) (sym (slots_lengths a))
    ∙ get_or-append-add (slots a) (slots b) i null
    ∙ sym (at_window (slot_at b) (column_len b) (slots b) i null refl h)

module _ (ms bs : List Bool) (s r : Spans) (child second grown : Column) (counted : length ms ≡ length s.lengths)
    (other_counted : length bs ≡ length r.lengths) (other_first : r.start ≡ 0) (closed : last_of s ≡ column_len child)
    (other_closed : last_of r ≡ column_len second) (joined : slots grown ≡ slots child ++ slots second) where
  abbrev spans : Spans
  spans = extended s r.lengths

  abbrev both : List Bool
  both = ms ++ bs

  list_first : (i : ℕ) → i < length s.lengths → list_at (slot_at grown) both spans i ≡ list_at (slot_at child) ms s i
  list_first i h =
      let mark = get_or_append_left ms bs false i (omega (arith, h, counted)) in
      let begin : offset_at spans i ≡ offset_at s i =
      ap (λ (ks : List ℕ). s.start + sum ks) (take-append-le i s.lengths r.lengths (omega (arith, h))) in
      let size = get_or_append_left s.lengths r.lengths 0 i h in
      let ends : offset_at s i + get_or s.lengths i 0 ≤ column_len child =
      omega (arith, closed, offset_at-more s i h, offset_at-le-last_of s (i + 1)) in
      let span = window_same (slot_at grown) (slot_at child) (offset_at s i) (offset_at s i) (get_or s.lengths i 0)
      (λ j lt. begins child grown (slots second) joined (offset_at s i + j) (omega (arith, lt, ends))) in
      (λ j. if mark j then items (in_slots (window (slot_at grown) (begin j) (size j))) else null)
      ∙ (λ j. if get_or ms i false then items (in_slots (span j)) else null)

  list_second : (i : ℕ) → i < length r.lengths → list_at (slot_at grown) both spans (length s.lengths + i) ≡ list_at (slot_at second) bs r i
  list_second i h =
      let mark = ap (λ (k : ℕ). get_or both (k + i) false) (sym counted) ∙ get_or-append-add ms bs i false in
      let begin : offset_at spans (length s.lengths + i) ≡ column_len child + offset_at r i =
      omega (
        arith,
        closed,
        other_first,
        ap sum (take-append-add s.lengths r.lengths i),
        sum_by-append (λ x. x) s.lengths (take i r.lengths),
      ) in
      let size = get_or-append-add s.lengths r.lengths i 0 in
      let ends : offset_at r i + get_or r.lengths i 0 ≤ column_len second =
      omega (arith, other_closed, offset_at-more r i h, offset_at-le-last_of r (i + 1)) in
      let span = window_same (slot_at grown) (slot_at second) (column_len child + offset_at r i) (offset_at r i) (get_or r.lengths i 0)
      (λ j lt.
      let at : column_len child + offset_at r i + j ≡ column_len child + (offset_at r i + j) = omega arith in
      ap (slot_at grown) at ∙ at_second child second grown joined (offset_at r i + j) (omega (arith, lt, ends))) in
      (λ j. if mark j then items (in_slots (window (slot_at grown) (begin j) (size j))) else null)
      ∙ (λ j. if get_or bs i false then items (in_slots (span j)) else null)

  both_slots : (t u : DataType) → slots (lists t (mask_of_marks both) (offsets_of spans) grown)
      ≡ slots (lists t (mask_of_marks ms) (offsets_of s) child) ++ slots (lists u (mask_of_marks bs) (offsets_of r) second)
  both_slots t u =
      let n = length s.lengths in
      let m = length r.lengths in
      let all : length both ≡ length (s.lengths ++ r.lengths) =
      omega (arith, counted, other_counted, length-append ms bs, length-append s.lengths r.lengths) in
      list_slots t both spans grown all
      ∙ ap (window (list_at (slot_at grown) both spans) 0) (length-append s.lengths r.lengths)
      ∙ window_joins (list_at (slot_at grown) both spans) 0 n m
      ∙ (λ j. window_same (list_at (slot_at grown) both spans) (list_at (slot_at child) ms s) 0 0 n
      (λ i h. list_first (0 + i) (omega (arith, h))) j
      ++ window_same (list_at (slot_at grown) both spans) (list_at (slot_at second) bs r) (0 + n) 0 m rest j)
      ∙ (λ j. sym (list_slots t ms s child counted) j ++ sym (list_slots u bs r second other_counted) j)
    where
      rest : (i : ℕ) → i < length r.lengths
          → list_at (slot_at grown) both spans (0 + length s.lengths + i) ≡ list_at (slot_at second) bs r (0 + i)
      rest i h =
          let at : 0 + length s.lengths + i ≡ length s.lengths + i = omega arith in
          let from : i ≡ 0 + i = omega arith in
          ap (list_at (slot_at grown) both spans) at ∙ list_second i h ∙ ap (list_at (slot_at second) bs r) from

-- ---- fresh lists

module _ (large : Bool) (t : DataType) (item : Field) (is : items_field large (type_layer t) ≡ Some item)
    (ms : List Bool) (s : Spans) (child : Column) (counted : length ms ≡ length s.lengths)
    (f : IsFresh (lists t (mask_of_marks ms) (offsets_of s) child)) where
  abbrev xs : List Slot
  xs = slots (lists t (mask_of_marks ms) (offsets_of s) child)

  own_marks : ms ≡ marks_of xs
  own_marks =
      let long : length xs ≡ length s.lengths = slots_lengths (lists t (mask_of_marks ms) (offsets_of s) child) ∙ spans_count s in
      marks_stored large t item is ms s child xs f.stored (counted ∙ sym long)

  own_spans : s ≡ item_spans xs
  own_spans = spans_stored large t item is ms s child xs f.stored

  own_items : child ≡ fresh item.data_type (joined_items xs)
  own_items = items_stored large t item is ms s child xs f.stored

  items_fit : fits item.data_type (joined_items xs) ≡ true
  items_fit = items_fit_below t item (item_is large t item is) xs f.fit

  items_can : is_buildable item.data_type ≡ true
  items_can = sym (list_buildable large t item is) ∙ f.can

  child_fresh : IsFresh child
  child_fresh = subst IsFresh (sym own_items) (open_fresh (opened item.data_type (joined_items xs)) items_fit items_can)

  child_slots : slots child ≡ joined_items xs
  child_slots = ap slots own_items ∙ open_slots (opened item.data_type (joined_items xs)) items_fit items_can

  child_type : column_type child ≡ item.data_type
  child_type = ap column_type own_items ∙ open_type (opened item.data_type (joined_items xs))

  -- the last list ends where the items do
  pub fresh_closed : last_of s ≡ column_len child
  fresh_closed = omega (arith, ap last_of own_spans, item_spans_last xs, ap length child_slots, slots_lengths child)

-- ---- lists that fit

-- the greatest offset of a width
abbrev pub greatest_offset : Bool → ℕ
greatest_offset large = if large then 0x7fff_ffff_ffff_ffff else 0x7fff_ffff

abbrev shaped : DataType → Field → ℕ → List Slot → Bool
shaped t item most xs = list_all is_list xs && is_length xs && nat_le (length (joined_items xs)) most && fits item.data_type (joined_items xs)

fits_by : (large : Bool) (t : DataType) (item : Field) → type_layer t ≡ list_layer large item → (xs : List Slot)
    → fits t xs ≡ shaped t item (greatest_offset large) xs
fits_by false t item is xs = lists_fit_by_items t item is xs
fits_by true t item is xs = large_lists_fit_by_items t item is xs

-- ---- joined lists

module _ (large : Bool) (t u : DataType) (item other_item : Field) (is : items_field large (type_layer t) ≡ Some item)
    (other_is : items_field large (type_layer u) ≡ Some other_item) (ms bs : List Bool) (s r : Spans) (child second : Column)
    (counted : length ms ≡ length s.lengths) (other_counted : length bs ≡ length r.lengths) (other_first : r.start ≡ 0)
    (closed : last_of s ≡ column_len child) (other_closed : last_of r ≡ column_len second) where
  abbrev old : Column
  old = lists t (mask_of_marks ms) (offsets_of s) child

  abbrev other : Column
  other = lists u (mask_of_marks bs) (offsets_of r) second

  abbrev of_type : Column
  of_type = lists t (mask_of_marks bs) (offsets_of r) second

  abbrev last : ℕ
  last = last_of (extended s r.lengths)

  last_is : last ≡ column_len child + column_len second
  last_is = omega (arith, closed, other_closed, other_first, sum_by-append (λ x. x) s.lengths r.lengths)

  old_long : length (slots old) ≡ length s.lengths
  old_long = slots_lengths old ∙ spans_count s

  other_long : length (slots other) ≡ length r.lengths
  other_long = slots_lengths other ∙ spans_count r

  as_type : AreAlike old other → IsFresh of_type
  as_type alike = subst (λ (d : DataType). IsFresh (lists d (mask_of_marks bs) (offsets_of r) second)) alike.2 alike.1

  -- of lists that are alike the items are
  pub items_alike : AreAlike old other → AreAlike child second
  items_alike alike = (
    child_fresh large t item is ms s child counted alike.0,
    child_fresh large t item is bs r second other_counted (as_type alike),
    child_type large t item is bs r second other_counted (as_type alike) ∙ sym (child_type large t item is ms s child counted alike.0),
  )

  -- the items of the lists of both
  items_of_both : AreAlike old other → joined_items (slots old ++ slots other) ≡ slots child ++ slots second
  items_of_both alike =
      flat_map-append items_of (slots old) (slots other)
      ∙ (λ j. sym (child_slots large t item is ms s child counted alike.0) j
      ++ sym (child_slots large t item is bs r second other_counted (as_type alike)) j)

  -- ---- refusals

  pub past_unfit : greatest_offset large < last → AreAlike old other → fits t (slots old ++ slots other) ≡ false
  past_unfit past alike = false_from_ne_true (fits t (slots old ++ slots other)) (λ fit.
      let zs = slots old ++ slots other in
      let parts = parts_of_4 (list_all is_list zs) (is_length zs) (nat_le (length (joined_items zs)) (greatest_offset large))
      (fits item.data_type (joined_items zs)) (sym (fits_by large t item (layered large t item is) zs) ∙ fit) in
      let most = leb-true (length (joined_items zs)) (greatest_offset large) parts.2 in
      omega (
        arith,
        past,
        last_is,
        most,
        ap length (items_of_both alike),
        length-append (slots child) (slots second),
        slots_lengths child,
        slots_lengths second,
      ))

  pub many_unfit : most_slots < length ms + length bs → fits t (slots old ++ slots other) ≡ false
  many_unfit many =
      too_many large t item is (slots old ++ slots other)
      (omega (arith, many, length-append (slots old) (slots other), old_long, other_long, counted, other_counted))

  pub items_unfit : (AreAlike child second → fits (column_type child) (slots child ++ slots second) ≡ false) → AreAlike old other
      → fits t (slots old ++ slots other) ≡ false
  items_unfit why alike = false_from_ne_true (fits t (slots old ++ slots other)) (λ fit.
      let zs = slots old ++ slots other in
      let own : fits (column_type child) (slots child ++ slots second) ≡ true =
      (λ j. fits (child_type large t item is ms s child counted alike.0 j) (sym (items_of_both alike) j))
      ∙ items_fit_below t item (item_is large t item is) zs fit in
      false≢true (sym (why (items_alike alike)) ∙ own))

  -- ---- lists of both

  module _ (grown : Column) (few : last ≤ greatest_offset large) (room : length ms + length bs ≤ most_slots) (joins : Joins child second grown) where
    abbrev new : Column
    new = lists t (mask_of_marks (ms ++ bs)) (offsets_of (extended s r.lengths)) grown

    all_counted : length (ms ++ bs) ≡ length (s.lengths ++ r.lengths)
    all_counted = omega (arith, counted, other_counted, length-append ms bs, length-append s.lengths r.lengths)

    lists_sound : is_sound old ≡ true → is_sound other ≡ true → (is_sound new ≡ true) × (slots new ≡ slots old ++ slots other)
    lists_sound h g =
        let own = sound_parts t (mask_of_marks ms) s child h in
        let its = sound_parts u (mask_of_marks bs) r second g in
        let below = joins.sound own.items its.items in
        let typed = typed_by_width large t item is (column_type grown) ∙ ap (same_type item.data_type) joins.typed
        ∙ sym (typed_as large t item is (column_type child)) ∙ own.typed in (
          (list_whole large (greatest_offset large) t (mask_of_marks (ms ++ bs)) (extended s r.lengths) grown refl typed few
              (omega (arith, last_is, joins.long)) (marks_fit (ms ++ bs) (length (s.lengths ++ r.lengths)) all_counted) below.0).0,
          both_slots ms bs s r child second grown counted other_counted other_first closed other_closed below.1 t u,
        )

    lists_fresh : AreAlike old other → IsFresh new
    lists_fresh alike =
        let xs = slots old in
        let ys = slots other in
        let g = as_type alike in
        let first = child_fresh large t item is ms s child counted alike.0 in
        let rest = child_fresh large t item is bs r second other_counted g in
        let own_type = child_type large t item is ms s child counted alike.0 in
        let grown_fresh = joins.fresh (items_alike alike) in
        let below = joins.sound (fresh_sound child first) (fresh_sound second rest) in
        let grown_slots : slots grown ≡ joined_items (xs ++ ys) = below.1 ∙ sym (items_of_both alike) in
        let grown_stored : grown ≡ fresh item.data_type (joined_items (xs ++ ys)) =
        grown_fresh.stored ∙ (λ j. fresh ((joins.typed ∙ own_type) j) (grown_slots j)) in
        let marks_both : marks_of (xs ++ ys) ≡ ms ++ bs =
        map-append is_valid xs ys
        ∙ (λ j. sym (own_marks large t item is ms s child counted alike.0) j ++ sym (own_marks large t item is bs r second other_counted g) j) in
        let spans_both : item_spans (xs ++ ys) ≡ extended s r.lengths =
        (λ j. record { start = 0; lengths = map-append (λ x. length (items_of x)) xs ys j })
        ∙ (λ j. extended (sym (own_spans large t item is ms s child counted alike.0) j)
        (sym (own_spans large t item is bs r second other_counted g) j).lengths) in
        let stored : new ≡ fresh t (xs ++ ys) =
        (λ j. lists t (mask_of_marks (sym marks_both j)) (offsets_of (sym spans_both j)) (grown_stored j))
        ∙ stored_lists large t item is (xs ++ ys) in
        let same = both_slots ms bs s r child second grown counted other_counted other_first closed other_closed below.1 t u in
        let below_fit : fits item.data_type (joined_items (xs ++ ys)) ≡ true =
        sym (λ j. fits ((joins.typed ∙ own_type) j) (grown_slots j)) ∙ grown_fresh.fit in record {
          stored = stored ∙ ap (fresh t) (sym same);
          fit = ap (fits t) same ∙ both_fit alike below_fit (ap length grown_slots);
          can = alike.0.can;
        }
      where
        shapes : (d : DataType) (zs : List Slot) → type_layer d ≡ list_layer large item → fits d zs ≡ true → list_all is_list zs ≡ true
        shapes d zs layer fit =
            (parts_of_4 (list_all is_list zs) (is_length zs) (nat_le (length (joined_items zs)) (greatest_offset large))
            (fits item.data_type (joined_items zs)) (sym (fits_by large d item layer zs) ∙ fit)).0

        both_fit : AreAlike old other → fits item.data_type (joined_items (slots old ++ slots other)) ≡ true
            → length (slots grown) ≡ length (joined_items (slots old ++ slots other)) → fits t (slots old ++ slots other) ≡ true
        both_fit alike below long =
            let zs = slots old ++ slots other in
            let layer = layered large t item is in
            let each : list_all is_list zs ≡ true =
            list_all-append is_list (slots old) (slots other)
            ∙ and_from (list_all is_list (slots old)) (list_all is_list (slots other)) (shapes t (slots old) layer alike.0.fit)
            (shapes t (slots other) layer (as_type alike).fit) in
            let count = le-leb (length zs) most_slots
            (omega (arith, room, length-append (slots old) (slots other), old_long, other_long, counted, other_counted)) in
            let most = le-leb (length (joined_items zs)) (greatest_offset large)
            (omega (arith, few, last_is, joins.long, slots_lengths grown, long)) in
            fits_by large t item layer zs
            ∙ and_from (list_all is_list zs && is_length zs && nat_le (length (joined_items zs)) (greatest_offset large))
            (fits item.data_type (joined_items zs))
            (and_from (list_all is_list zs && is_length zs) (nat_le (length (joined_items zs)) (greatest_offset large))
            (and_from (list_all is_list zs) (is_length zs) each count) most) below

    pub lists_join : Joins old other new
    lists_join = record {
      typed = refl;
      long = omega (arith, spans_count s, spans_count r, spans_count (extended s r.lengths), length-append s.lengths r.lengths);
      sound = lists_sound;
      fresh = lists_fresh;
    }

  -- ---- lists that are cut back

  -- the spans of the lists alone are left, over items that are as they were
  pub lists_back : (mid left : Column) → Becomes child (slots child) mid → KeepsFirst mid (last_of s) left → Becomes old (slots old) (lists t
      (mask_of_marks ms) (offsets_of s) left)
  lists_back mid left same kept =
      let n = length s.lengths in
      let spans_all : first_spans s n ≡ s = λ j. record { start = s.start; lengths = take_all n s.lengths (omega arith) j } in
      let marks_all : take n ms ≡ ms = take_all n ms (omega (arith, counted)) in
      let slots_all : take n (slots old) ≡ slots old = take_all n (slots old) (omega (arith, old_long)) in
      let whole : (c : Column) → column_len c ≡ column_len child → take (last_of s) (slots c) ≡ slots c =
      λ c long. take_all (last_of s) (slots c) (omega (arith, closed, long, slots_lengths c)) in
      let mid_long : column_len mid ≡ column_len child = same.long ∙ slots_lengths child in
      let long : length (slots mid) ≡ length (slots child) = slots_lengths mid ∙ same.long in
      let again : Becomes child (slots child) left =
      becomes_by (λ (zs : List Slot). zs) child mid left (slots child) long same
      (subst (λ (zs : List Slot). Becomes mid zs left) (whole mid mid_long) kept) in
      let keeps : KeepsFirst child (last_of (first_spans s n)) left =
      subst (λ (zs : List Slot). Becomes child zs left)
      (sym (ap (λ (k : Spans). take (last_of k) (slots child)) spans_all ∙ whole child refl)) again in
      subst (λ (zs : List Slot). Becomes old zs (lists t (mask_of_marks ms) (offsets_of s) left)) slots_all
      (subst (λ (c : Column). KeepsFirst old n c) (λ j. lists t (mask_of_marks (marks_all j)) (offsets_of (spans_all j)) left)
      (first_left large t item is ms s child counted n (omega arith) left keeps))

-- ---- builders of lists

module _ {M : Type 0} (column : M → Column) (large : Bool) (old other : ListParts M) (are : AreLists large old.data_type old.marks old.spans)
    (other_are : AreLists large other.data_type other.marks other.spans) where
  abbrev before : Column
  before = lists_column column old

  abbrev after : Column
  after = lists_column column other

  named : (item : Field) × (items_field large (type_layer old.data_type) ≡ Some item)
  named = there (items_field large (type_layer old.data_type)) are.lies

  other_named : (item : Field) × (items_field large (type_layer other.data_type) ≡ Some item)
  other_named = there (items_field large (type_layer other.data_type)) other_are.lies

  -- lists over items that none of them has are not alike others
  pub open_lists : last_of old.spans ≢ column_len (column old.values) → AreAlike before after → ⊥
  open_lists apart alike =
      apart (fresh_closed large old.data_type named.0 named.1 old.marks old.spans (column old.values) are.counted alike.0)

  pub other_open : last_of other.spans ≢ column_len (column other.values) → AreAlike before after → ⊥
  other_open apart alike =
      apart (fresh_closed large other.data_type other_named.0 other_named.1 other.marks other.spans (column other.values) other_are.counted alike.1)

  module _ (closed : last_of old.spans ≡ column_len (column old.values)) (other_closed : last_of other.spans ≡ column_len (column other.values))
    where
      -- marks and spans that found no room
      pub spans_refused : (greatest : ℕ) → greatest ≡ greatest_offset large → (new : ListParts M) (e : Error)
          → (new ≡ old) × (IsOutOfMemory e ⊎ (IsOverflow e × HasNoRoomFor greatest old.marks old.spans other.marks other.spans))
          → Becomes before (slots before) (lists_column column new) × AreApart before after e
      spans_refused greatest most new e h =
          (subst (λ (p : ListParts M). Becomes before (slots before) (lists_column column p)) (sym h.0) (unchanged before), why h.1)
        where
          unfit : HasNoRoomFor greatest old.marks old.spans other.marks other.spans → AreAlike before after
              → fits old.data_type (slots before ++ slots after) ≡ false
          unfit (inl many) alike =
              many_unfit large old.data_type other.data_type named.0 other_named.0 named.1 other_named.1 old.marks other.marks old.spans
              other.spans (column old.values) (column other.values) are.counted other_are.counted other_are.first closed other_closed many
          unfit (inr past) alike =
              let total = sum_by-append (λ x. x) old.spans.lengths other.spans.lengths in
              past_unfit large old.data_type other.data_type named.0 other_named.0 named.1 other_named.1 old.marks other.marks old.spans
              other.spans (column old.values) (column other.values) are.counted other_are.counted other_are.first closed other_closed
              (omega (arith, past, most, total)) alike

          why : IsOutOfMemory e ⊎ (IsOverflow e × HasNoRoomFor greatest old.marks old.spans other.marks other.spans) → AreApart before after e
          why (inl memory) = inl memory
          why (inr over) = inr (inl (over.0, unfit over.1))

      -- items that found none
      items_refused : (e : Error) → AreApart (column old.values) (column other.values) e → AreApart before after e
      items_refused e (inl memory) = inl memory
      items_refused e (inr (inl over)) =
          inr (inl (
            over.0,
            items_unfit large old.data_type other.data_type named.0 other_named.0 named.1 other_named.1 old.marks other.marks old.spans other.spans
                (column old.values) (column other.values) are.counted other_are.counted other_are.first closed other_closed over.1,
          ))
      items_refused e (inr (inr refused)) =
          inr (inr (
            refused.0,
            λ alike. refused.1 (items_alike large old.data_type other.data_type named.0 other_named.0 named.1 other_named.1 old.marks other.marks
                old.spans other.spans (column old.values) (column other.values) are.counted other_are.counted other_are.first closed other_closed
                alike),
          ))

      pub lists_joined : {U : Type 0} (greatest : ℕ) → greatest ≡ greatest_offset large → (held : ℕ) → held ≡ length old.marks
          → length old.marks + length other.marks ≤ most_slots → last_of old.spans + sum other.spans.lengths ≤ greatest → (new : ListParts M)
          (r : Result U Error) → JoinsItems column (with_lists old other) other.values held new r
          → AddsColumn before after (lists_column column new) r
      lists_joined greatest most held is room few new (Ok u) h =
          let total = sum_by-append (λ x. x) old.spans.lengths other.spans.lengths in
          subst (λ (p : ListParts M). Joins before after (lists_column column p)) (sym h.0)
          (lists_join large old.data_type other.data_type named.0 other_named.0 named.1 other_named.1 old.marks other.marks old.spans other.spans
          (column old.values) (column other.values) are.counted other_are.counted other_are.first closed other_closed (column new.values)
          (omega (arith, few, most, total)) room h.1)
      lists_joined greatest most held is room few new (Err e) h = (back, items_refused e h.2)
        where
          spans_are : first_spans (extended old.spans other.spans.lengths) held ≡ old.spans
          spans_are = λ j. record {
            start = old.spans.start;
            lengths = take_at old.spans.lengths other.spans.lengths held (sym (is ∙ are.counted)) j;
          }

          back : Becomes before (slots before) (lists_column column new)
          back =
              let marks_are : new.marks ≡ old.marks = h.0.1 ∙ take_at old.marks other.marks held (sym is) in
              let kept : KeepsFirst (column h.1.0) (last_of old.spans) (column new.values) =
              subst (λ (s : Spans). KeepsFirst (column h.1.0) (last_of s) (column new.values)) spans_are h.1.2 in
              subst (λ (c : Column). Becomes before (slots before) c)
              (λ j. lists (sym h.0.0 j) (mask_of_marks (sym marks_are j)) (offsets_of (sym (h.0.2 ∙ spans_are) j)) (column new.values))
              (lists_back large old.data_type other.data_type named.0 other_named.0 named.1 other_named.1 old.marks other.marks old.spans other.spans
              (column old.values) (column other.values) are.counted other_are.counted other_are.first closed other_closed (column h.1.0)
              (column new.values) h.1.1 kept)
