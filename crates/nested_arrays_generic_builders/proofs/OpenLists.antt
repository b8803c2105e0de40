-- What pushes, cuts and taking out make of the column of a builder of lists.
use Rattle.std.proofs.Common.{◌≡◌, ◌∙◌, ◌<◌, ◌≤◌, ◌+◌, ◌-◌, ℕ, zero, suc, List, []}
use Rattle.std.proofs.Common.{◌∷◌, ◌++◌, length, take, Bool, true, false, refl, sym, ap, subst}
use Rattle.std.proofs.Common.{arith, drop, get_or}
use Rattle.std.specs.Prelude.{Option, Some, Result, Ok, Err, ◌⊎◌, if◌then◌else◌}
use Rattle.std.proofs.lemmas.Bool.{cases_Bool, false≢true}
use Rattle.std.proofs.lemmas.List.{append-nil, length-append, length-take-le, get_or-take, take_all}
use Rattle.std.proofs.lemmas.List.Sums.{sum_by_push}
use mathlib.Core.Logic.{inl, inr}
use Rattle.nested_arrays_nulls.specs.columnar_memory.declared.DataType.{DataType}
use Rattle.nested_arrays_nulls.specs.columnar_memory.declared.Error.{Error}
use Rattle.nested_arrays_nulls.specs.columnar_memory.declared.Field.{Field}
use Rattle.nested_arrays_nulls.specs.columnar_memory.Equality.{same_type-Decides}
use Rattle.nested_arrays_nulls.specs.columnar_memory.Error.{IsOutOfMemory, IsOutOfSpec, IsOverflow}
use Rattle.nested_arrays_nulls.specs.columnar_memory.Results.{OrOutOfMemory}
use Rattle.nested_arrays_nulls.specs.columnar_memory.Spans.{Spans, extended, first_spans, last_of, no_spans, offset_at, offsets_of}
use Rattle.nested_arrays_nulls.specs.columns.Children.{items_of, joined_items}
use Rattle.nested_arrays_nulls.specs.columns.FreshColumns.{fresh}
use Rattle.nested_arrays_nulls.specs.columns.FreshLaws.{is_buildable}
use Rattle.nested_arrays_nulls.specs.columns.Kinds.{most_slots}
use Rattle.nested_arrays_nulls.specs.columns.OpenBatch.{fits}
use Rattle.nested_arrays_nulls.specs.columns.Slots.{Slot, null, window}
use Rattle.nested_arrays_nulls.specs.columns.SoundColumns.{has_item_type, is_sound}
use Rattle.nested_arrays_nulls.specs.columns.StoredColumns.{Column, column_len, column_type, lists, slot_at, slots, type_layer}
use Rattle.nested_arrays_nulls.specs.generic.ListTypes.{items_field}
use Rattle.nested_arrays_cells.specs.parts.Marks.{mask_of_marks}
use Rattle.nested_arrays_cells.specs.parts.Open.{opened}
use Rattle.nested_arrays_cells.specs.taken.OpenColumns.{AddsNull, Becomes, IsEmptied, IsFresh, IsFrozen, KeepsFirst, TakesColumn, slots_and}
use Rattle.nested_arrays_cells.specs.taken.builders.columns.OpenParts.{item_spans, marks_of}
use Rattle.nested_arrays_cells.proofs.taken_lemmas.OpenColumns.{open_fresh, open_slots, open_sound, open_type}
use Rattle.nested_arrays_cells.proofs.columns_lemmas.ColumnSizes.{slots_lengths}
use Rattle.nested_arrays_cells.proofs.columns_lemmas.FreshPlaces.{at_window}
use Rattle.nested_arrays_cells.proofs.columns_lemmas.Below.{buildable_list, buildable_large_list, items_fit_below}
use Rattle.nested_arrays_cells.proofs.columns_lemmas.FirstOnes.{items_cut}
use Rattle.nested_arrays_cells.proofs.columns_lemmas.Limits.{first_ones_fit}
use Rattle.nested_arrays_cells.proofs.columns_lemmas.Masks.{marks_cut, marks_one_more}
use Rattle.nested_arrays_cells.proofs.columns_lemmas.Pieces.{item_spans_cut, item_spans_one_more, joined_one_more}
use Rattle.nested_arrays_nulls.proofs.generic_lemmas.ListParts.{list_whole}
use Rattle.nested_arrays_nulls.proofs.arrays_lemmas.flat_lemmas.Offsets.{spans_count}
use Rattle.nested_arrays_nulls.proofs.arrays_lemmas.columnar_memory_lemmas.buffer_lemmas.Runs.{offset_at-le-last_of}
use Rattle.nested_arrays_generic_builders.specs.ListBuilders.{AddsList, AddsNullList, AreLists, ClosesColumn, ClosesList, FreezesParts}
use Rattle.nested_arrays_generic_builders.specs.ListBuilders.{ListParts, list_parts, list_slot, lists_column, no_lists}
use Rattle.nested_arrays_generic_builders.proofs.ListSlots.{first_lists, list_at, list_slots, one_list_more, window_rest}
use Rattle.nested_arrays_generic_builders.proofs.ListsStored.{items_stored, list_buildable, marks_fit, marks_stored, one_null_fits}
use Rattle.nested_arrays_generic_builders.proofs.ListsStored.{item_is, sound_parts, sound_whole, spans_stored}
use Rattle.nested_arrays_generic_builders.proofs.ListsStored.{stored_lists, there, too_many, typed_as, typed_by_width}

-- the slots of a column, again
pub same_becomes : (c : Column) → Becomes c (slots c) c
same_becomes c = record { typed = refl; long = sym (slots_lengths c); sound = λ h. (h, refl); fresh = λ f. f }

-- all of its first slots, where there are no more
pub all_kept : (c : Column) (n : ℕ) → column_len c ≤ n → KeepsFirst c n c
all_kept c n le =
    let all : take n (slots c) ≡ slots c = take_all n (slots c) (omega (arith, slots_lengths c, le)) in
    subst (λ (xs : List Slot). Becomes c xs c) (sym all) (same_becomes c)

module _ (large : Bool) (t : DataType) (item : Field) (is : items_field large (type_layer t) ≡ Some item)
    (ms : List Bool) (s : Spans) (child : Column) (counted : length ms ≡ length s.lengths) where
  abbrev old : Column
  old = lists t (mask_of_marks ms) (offsets_of s) child

  old_long : length (slots old) ≡ length s.lengths
  old_long = slots_lengths old ∙ spans_count s

  -- ---- a null more

  abbrev new : Column
  new = lists t (mask_of_marks (ms ++ false ∷ [])) (offsets_of (extended s (0 ∷ []))) child

  more_counted : length (ms ++ false ∷ []) ≡ length (s.lengths ++ 0 ∷ [])
  more_counted = omega (arith, length-append ms (false ∷ []), length-append s.lengths (0 ∷ []), counted)

  new_slots : slots new ≡ slots old ++ null ∷ []
  new_slots =
      let more : length (s.lengths ++ 0 ∷ []) ≡ length s.lengths + 1 = length-append s.lengths (0 ∷ []) in
      list_slots t (ms ++ false ∷ []) (extended s (0 ∷ [])) child more_counted
      ∙ ap (window (list_at (slot_at child) (ms ++ false ∷ []) (extended s (0 ∷ []))) 0) more
      ∙ one_list_more (slot_at child) ms s false 0 counted
      ∙ ap (λ (xs : List Slot). xs ++ null ∷ []) (sym (list_slots t ms s child counted))

  new_long : column_len new ≡ length (slots old ++ null ∷ [])
  new_long =
      omega (arith, spans_count (extended s (0 ∷ [])), length-append s.lengths (0 ∷ []), old_long, length-append (slots old) (null ∷ []))

  last_same : last_of (extended s (0 ∷ [])) ≡ last_of s
  last_same = omega (arith, sum_by_push (λ (n : ℕ). n) s.lengths 0)

  new_sound : is_sound old ≡ true → is_sound new ≡ true
  new_sound h =
      let parts = sound_parts t (mask_of_marks ms) s child h in
      sound_whole t (mask_of_marks (ms ++ false ∷ [])) (extended s (0 ∷ [])) child (record {
        typed = parts.typed;
        few = omega (arith, parts.few, last_same);
        within = omega (arith, parts.within, last_same);
        masked = marks_fit (ms ++ false ∷ []) (length (s.lengths ++ 0 ∷ [])) more_counted;
        items = parts.items;
      })

  new_fresh : length ms < most_slots → IsFresh old → IsFresh new
  new_fresh few f =
      let xs = slots old in
      let marked = marks_stored large t item is ms s child xs f.stored (counted ∙ sym old_long) in
      let spanned = spans_stored large t item is ms s child xs f.stored in
      let below = items_stored large t item is ms s child xs f.stored in
      let marks_more : marks_of (xs ++ null ∷ []) ≡ ms ++ false ∷ [] =
      marks_one_more xs null ∙ ap (λ (bits : List Bool). bits ++ false ∷ []) (sym marked) in
      let spans_more : item_spans (xs ++ null ∷ []) ≡ extended s (0 ∷ []) =
      item_spans_one_more xs null ∙ ap (λ (spans : Spans). extended spans (0 ∷ [])) (sym spanned) in
      let items_more : fresh item.data_type (joined_items (xs ++ null ∷ [])) ≡ child =
      ap (fresh item.data_type) (joined_one_more items_of xs null ∙ append-nil (joined_items xs)) ∙ sym below in
      let stored : new ≡ fresh t (xs ++ null ∷ []) =
      (λ j. lists t (mask_of_marks (sym marks_more j)) (offsets_of (sym spans_more j)) (sym items_more j))
      ∙ stored_lists large t item is (xs ++ null ∷ []) in record {
        stored = stored ∙ ap (fresh t) (sym new_slots);
        fit = ap (fits t) new_slots ∙ one_null_fits large t item is xs f.fit (omega (arith, few, old_long, counted));
        can = f.can;
      }

  pub null_added : length ms < most_slots → Becomes old (slots_and old null) new
  null_added few = record { typed = refl; long = new_long; sound = λ h. (new_sound h, new_slots); fresh = new_fresh few }

  pub full : length ms ≡ most_slots → fits t (slots_and old null) ≡ false
  full many =
      too_many large t item is (slots old ++ null ∷ []) (omega (arith, length-append (slots old) (null ∷ []), old_long, counted, many))

  -- ---- a list more

  module _ (greatest : ℕ) (most : greatest ≡ (if large then 0x7fff_ffff_ffff_ffff else 0x7fff_ffff)) (le : last_of s ≤ column_len child)
      (few : column_len child ≤ greatest) where
    abbrev more : Column
    more = lists t (mask_of_marks (ms ++ true ∷ [])) (offsets_of (extended s ((column_len child - last_of s) ∷ []))) child

    longer : length (ms ++ true ∷ []) ≡ length (s.lengths ++ (column_len child - last_of s) ∷ [])
    longer =
        omega (arith, length-append ms (true ∷ []), length-append s.lengths ((column_len child - last_of s) ∷ []), counted)

    more_slots : slots more ≡ slots_and old (list_slot (drop (last_of s) (slots child)))
    more_slots =
        let count = column_len child - last_of s in
        let next : length (s.lengths ++ count ∷ []) ≡ length s.lengths + 1 = length-append s.lengths (count ∷ []) in
        let from : 0 + last_of s ≡ last_of s = omega arith in
        let rest : window (slot_at child) (last_of s) count ≡ drop (last_of s) (slots child) =
        ap (λ (k : ℕ). window (slot_at child) k count) (sym from) ∙ sym (window_rest (slot_at child) 0 (column_len child) (last_of s) le) in
        list_slots t (ms ++ true ∷ []) (extended s (count ∷ [])) child longer
        ∙ ap (window (list_at (slot_at child) (ms ++ true ∷ []) (extended s (count ∷ []))) 0) next
        ∙ one_list_more (slot_at child) ms s true count counted
        ∙ (λ j. sym (list_slots t ms s child counted) j ++ list_slot (rest j) ∷ [])

    more_sound : is_sound old ≡ true → is_sound more ≡ true
    more_sound h =
        let count = column_len child - last_of s in
        let parts = sound_parts t (mask_of_marks ms) s child h in
        let ends : last_of (extended s (count ∷ [])) ≡ column_len child = omega (arith, le, sum_by_push (λ (n : ℕ). n) s.lengths count) in
        let typed = typed_by_width large t item is (column_type child) ∙ sym (typed_as large t item is (column_type child)) ∙ parts.typed in
        (list_whole large greatest t (mask_of_marks (ms ++ true ∷ [])) (extended s (count ∷ [])) child most typed (omega (arith, ends, few))
        (omega (arith, ends)) (marks_fit (ms ++ true ∷ []) (length (s.lengths ++ count ∷ [])) longer) parts.items).0

    pub list_added : AddsList old child (last_of s) more
    list_added = record {
      typed = refl;
      long = omega (
        arith,
        spans_count s,
        spans_count (extended s ((column_len child - last_of s) ∷ [])),
        length-append s.lengths ((column_len child - last_of s) ∷ []),
      );
      sound = λ h. (more_sound h, more_slots);
    }

  -- ---- the first lists

  module _ (k : ℕ) (le : k ≤ length s.lengths) (kept : Column) (keeps : KeepsFirst child (last_of (first_spans s k)) kept) where
    abbrev cut : Column
    cut = lists t (mask_of_marks (take k ms)) (offsets_of (first_spans s k)) kept

    cut_counted : length (take k ms) ≡ length (take k s.lengths)
    cut_counted = omega (arith, length-take-le k ms (omega (arith, le, counted)), length-take-le k s.lengths le)

    cut_long : column_len cut ≡ length (take k (slots old))
    cut_long =
        omega (arith, spans_count (first_spans s k), length-take-le k s.lengths le, length-take-le k (slots old) (omega (arith, le, old_long)))

    fewer : last_of (first_spans s k) ≤ last_of s
    fewer = offset_at-le-last_of s k

    module _ (sound : is_sound child ≡ true) (within : last_of (first_spans s k) ≤ column_len child) where
      kept_long : column_len kept ≡ last_of (first_spans s k)
      kept_long =
          keeps.long ∙ length-take-le (last_of (first_spans s k)) (slots child) (omega (arith, within, slots_lengths child))

      same_items : (i : ℕ) → i < last_of (first_spans s k) → slot_at kept i ≡ slot_at child i
      same_items i h =
          at_window (slot_at kept) (column_len kept) (slots kept) i null refl (omega (arith, h, kept_long))
          ∙ ap (λ (xs : List Slot). get_or xs i null) (keeps.sound sound).1
          ∙ get_or-take (last_of (first_spans s k)) (slots child) i null h
          ∙ sym (at_window (slot_at child) (column_len child) (slots child) i null refl (omega (arith, h, within)))

      cut_slots : slots cut ≡ take k (slots old)
      cut_slots =
          list_slots t (take k ms) (first_spans s k) kept cut_counted
          ∙ ap (window (list_at (slot_at kept) (take k ms) (first_spans s k)) 0) (length-take-le k s.lengths le)
          ∙ first_lists (slot_at child) (slot_at kept) ms s k le same_items
          ∙ ap (take k) (sym (list_slots t ms s child counted))

    cut_sound : is_sound old ≡ true → (is_sound cut ≡ true) × (slots cut ≡ take k (slots old))
    cut_sound h =
        let parts = sound_parts t (mask_of_marks ms) s child h in
        let within : last_of (first_spans s k) ≤ column_len child = omega (arith, fewer, parts.within) in (
          sound_whole t (mask_of_marks (take k ms)) (first_spans s k) kept (record {
            typed = ap (λ (own : DataType). has_item_type (type_layer t) own) keeps.typed ∙ parts.typed;
            few = omega (arith, fewer, parts.few);
            within = omega (arith, kept_long parts.items within);
            masked = marks_fit (take k ms) (length (take k s.lengths)) cut_counted;
            items = (keeps.sound parts.items).0;
          }),
          cut_slots parts.items within,
        )

    cut_fresh : IsFresh old → IsFresh cut
    cut_fresh f =
        let xs = slots old in
        let joined = joined_items xs in
        let marked = marks_stored large t item is ms s child xs f.stored (counted ∙ sym old_long) in
        let spanned = spans_stored large t item is ms s child xs f.stored in
        let below = items_stored large t item is ms s child xs f.stored in
        let fit = items_fit_below t item (item_is large t item is) xs f.fit in
        let can : is_buildable item.data_type ≡ true = sym (list_buildable large t item is) ∙ f.can in
        let own = open_fresh (opened item.data_type joined) fit can in
        let child_fresh : IsFresh child = subst IsFresh (sym below) own in
        let child_sound : is_sound child ≡ true = ap is_sound below ∙ open_sound (opened item.data_type joined) fit can in
        let child_slots : slots child ≡ joined = ap slots below ∙ open_slots (opened item.data_type joined) fit can in
        let child_type : column_type child ≡ item.data_type = ap column_type below ∙ open_type (opened item.data_type joined) in
        let old_sound : is_sound old ≡ true = ap is_sound f.stored ∙ open_sound (opened t xs) f.fit f.can in
        let kept_fresh = keeps.fresh child_fresh in
        let kept_slots : slots kept ≡ joined_items (take k xs) =
        (keeps.sound child_sound).1 ∙ ap (take (last_of (first_spans s k))) child_slots
        ∙ ap (λ (spans : Spans). take (offset_at spans k) joined) spanned ∙ sym (items_cut k xs) in
        let kept_stored : kept ≡ fresh item.data_type (joined_items (take k xs)) =
        kept_fresh.stored ∙ (λ j. fresh ((keeps.typed ∙ child_type) j) (kept_slots j)) in
        let marks_first : marks_of (take k xs) ≡ take k ms = marks_cut k xs ∙ ap (take k) (sym marked) in
        let spans_first : item_spans (take k xs) ≡ first_spans s k =
        item_spans_cut k xs ∙ ap (λ (spans : Spans). first_spans spans k) (sym spanned) in
        let stored : cut ≡ fresh t (take k xs) =
        (λ j. lists t (mask_of_marks (sym marks_first j)) (offsets_of (sym spans_first j)) (kept_stored j))
        ∙ stored_lists large t item is (take k xs) in
        let same : slots cut ≡ take k xs = (cut_sound old_sound).1 in record {
          stored = stored ∙ ap (fresh t) (sym same);
          fit = ap (fits t) same ∙ first_ones_fit t k xs f.fit;
          can = f.can;
        }

    pub first_left : KeepsFirst old k cut
    first_left = record { typed = refl; long = cut_long; sound = cut_sound; fresh = cut_fresh }

  -- ---- none left

  pub none_left : (left : Column) → IsEmptied child left → IsEmptied old (lists t (mask_of_marks []) (offsets_of no_spans) left)
  none_left left h = record { typed = refl; long = refl; begun = begun }
    where
      begun : is_sound old ≡ true → lists t (mask_of_marks []) (offsets_of no_spans) left ≡ fresh t []
      begun sound =
          let parts = sound_parts t (mask_of_marks ms) s child sound in
          let own : item.data_type ≡ column_type child =
          (same_type-Decides item.data_type (column_type child)).0 (sym (typed_as large t item is (column_type child)) ∙ parts.typed) in
          ap (lists t (mask_of_marks []) (offsets_of no_spans)) (h.begun parts.items ∙ ap (λ (own : DataType). fresh own []) (sym own))
          ∙ stored_lists large t item is []

  pub unsound_below : is_sound child ≡ false → is_sound old ≡ false
  unsound_below below =
      elim (cases_Bool (is_sound old)) [
        | inl sound ↦ absurd (false≢true (sym below ∙ (sound_parts t (mask_of_marks ms) s child sound).items))
        | inr unsound ↦ unsound
      ]

-- ---- builders of lists

module _ {M : Type 0} (column : M → Column) (large : Bool) (old : ListParts M) (are : AreLists large old.data_type old.marks old.spans) where
  named : (item : Field) × (items_field large (type_layer old.data_type) ≡ Some item)
  named = there (items_field large (type_layer old.data_type)) are.lies

  pub pushed_null : {U : Type 0} (new : ListParts M) (r : Result U Error) → AddsNullList old new r
      → AddsNull (lists_column column old) (lists_column column new) r
  pushed_null after (Ok u) h =
      subst (λ (p : ListParts M). Becomes (lists_column column old) (slots_and (lists_column column old) null) (lists_column column p)) (sym h.0)
      (null_added large old.data_type named.0 named.1 old.marks old.spans (column old.values) are.counted h.1)
  pushed_null after (Err e) h = (
    subst (λ (p : ListParts M). Becomes (lists_column column old) (slots (lists_column column old)) (lists_column column p)) (sym h.0)
        (same_becomes (lists_column column old)),
    why e h.1,
  )
    where
      why : (e : Error) → IsOutOfMemory e ⊎ (IsOverflow e × (length old.marks ≡ most_slots))
          → IsOutOfMemory e ⊎ (IsOverflow e × (IsFresh (lists_column column old)
          → fits (column_type (lists_column column old)) (slots_and (lists_column column old) null) ≡ false))
      why e (inl memory) = inl memory
      why e (inr over) =
          inr (over.0, λ _. full large old.data_type named.0 named.1 old.marks old.spans (column old.values) are.counted over.1)

  pub closed_lists : {U : Type 0} (greatest : ℕ) → greatest ≡ (if large then 0x7fff_ffff_ffff_ffff else 0x7fff_ffff) → (new : ListParts M)
      (r : Result U Error) → ClosesList greatest (column_len (column old.values)) old new r
      → ClosesColumn (lists_column column old) (column old.values) (last_of old.spans) (lists_column column new) r
  closed_lists greatest most after (Ok u) h =
      subst (λ (p : ListParts M). AddsList (lists_column column old) (column old.values) (last_of old.spans) (lists_column column p)) (sym h.0)
      (list_added large old.data_type named.0 named.1 old.marks old.spans (column old.values) are.counted greatest most h.1 h.2)
  closed_lists greatest most after (Err e) h = ap (lists_column column) h.0

  pub kept_lists : (k : ℕ) (values : M) → k ≤ length old.marks → KeepsFirst (column old.values) (last_of (first_spans old.spans k)) (column values)
      → KeepsFirst (lists_column column old) k
      (lists_column column (list_parts old.data_type (take k old.marks) (first_spans old.spans k) values))
  kept_lists k values le keeps =
      first_left large old.data_type named.0 named.1 old.marks old.spans (column old.values) are.counted k (omega (arith, le, are.counted))
      (column values) keeps

  pub left_empty : (values : M) → IsEmptied (column old.values) (column values)
      → IsEmptied (lists_column column old) (lists_column column (no_lists old.data_type values))
  left_empty values h =
      none_left large old.data_type named.0 named.1 old.marks old.spans (column old.values) are.counted (column values) h

  pub unsound_items : is_sound (column old.values) ≡ false → is_sound (lists_column column old) ≡ false
  unsound_items below =
      unsound_below large old.data_type named.0 named.1 old.marks old.spans (column old.values) are.counted below

  -- an array that can't be made of the parts that were taken out
  pub refused_lists : {A : Type 0} (content : A → Column) (values : M) (ms : List Bool) (s : Spans) (e : Error) → ms ≡ [] → s ≡ no_spans
      → IsEmptied (column old.values) (column values)
      → IsOutOfMemory e ⊎ (IsOutOfSpec e × (is_sound (column old.values) ≡ false))
      → TakesColumn (lists_column column old) (lists_column column (list_parts old.data_type ms s values)) content (Err e)
  refused_lists content values ms s e none first left why =
      let empty : no_lists old.data_type values ≡ list_parts old.data_type ms s values =
      (λ j. list_parts old.data_type (sym none j) (sym first j) values) in (
        subst (λ (p : ListParts M). IsEmptied (lists_column column old) (lists_column column p)) empty (left_empty values left),
        elim why [ inl memory ↦ inl memory | inr below ↦ inr (below.0, unsound_items below.1) ],
      )

  -- the array that is made of them, or none
  pub frozen_lists : (values : M) (ms : List Bool) (s : Spans) (kept : List Bool) (spans : Spans) (items : Column) (r : Result Column Error)
      → ms ≡ [] → s ≡ no_spans → kept ≡ old.marks → spans ≡ old.spans → items ≡ column old.values
      → IsEmptied (column old.values) (column values)
      → IsFrozen (λ array. array) (lists old.data_type (mask_of_marks kept) (offsets_of spans) items) r
      → TakesColumn (lists_column column old) (lists_column column (list_parts old.data_type ms s values)) (λ array. array) r
  frozen_lists values ms s kept spans items r none first marked spanned below left frozen =
      let empty : no_lists old.data_type values ≡ list_parts old.data_type ms s values =
      (λ j. list_parts old.data_type (sym none j) (sym first j) values) in
      let whole : lists old.data_type (mask_of_marks kept) (offsets_of spans) items ≡ lists_column column old =
      (λ j. lists old.data_type (mask_of_marks (marked j)) (offsets_of (spanned j)) (below j)) in (
        subst (λ (p : ListParts M). IsEmptied (lists_column column old) (lists_column column p)) empty (left_empty values left),
        subst (λ (c : Column). IsFrozen (λ (array : Column). array) c r) whole frozen,
      )

  -- what is taken out of a builder of lists
  pub taken_lists : (values : M) (ms : List Bool) (s : Spans) (kept : List Bool) (spans : Result Spans Error) (items r : Result Column Error)
      → ms ≡ [] → s ≡ no_spans → kept ≡ old.marks → OrOutOfMemory spans (λ (o : Spans). o ≡ old.spans)
      → TakesColumn (column old.values) (column values) (λ (array : Column). array) items → FreezesParts old.data_type kept spans items r
      → TakesColumn (lists_column column old) (lists_column column (list_parts old.data_type ms s values)) (λ (array : Column). array) r
  taken_lists values ms s kept spans (Err e) r none first marked spanned taken is =
      subst (λ (r : Result Column Error). TakesColumn (lists_column column old) (lists_column column (list_parts old.data_type ms s values))
      (λ (array : Column). array) r) (sym is)
      (refused_lists (λ (array : Column). array) values ms s e none first taken.0 taken.1)
  taken_lists values ms s kept (Err e) (Ok items) r none first marked memory taken is =
      subst (λ (r : Result Column Error). TakesColumn (lists_column column old) (lists_column column (list_parts old.data_type ms s values))
      (λ (array : Column). array) r) (sym is)
      (refused_lists (λ (array : Column). array) values ms s e none first taken.0 (inl memory))
  taken_lists values ms s kept (Ok spans) (Ok items) r none first marked spanned taken frozen =
      frozen_lists values ms s kept spans items r none first marked spanned taken.1.0 taken.0 frozen
