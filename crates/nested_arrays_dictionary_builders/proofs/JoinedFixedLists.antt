-- Columns of lists of one size whose slots stand one behind the other, over items that do.
use Rattle.std.proofs.Common.{◌≡◌, ◌∙◌, ◌<◌, ◌≤◌, ◌+◌, ◌*◌, ℕ, List, ◌++◌, length, take, get_or, Bool, true, false, refl, sym, ap, subst, arith}
use Rattle.std.specs.Prelude.{◌&&◌, ◌⊎◌, ◌/◌, if◌then◌else◌, Result, Ok, Err}
use Rattle.std.specs.List.{list_all}
use Rattle.std.proofs.Math.Nat.{mul-add, mul-add-div}
use Rattle.std.proofs.lemmas.Bool.{and_from, false≢true, false_from_ne_true, le-leb}
use Rattle.std.proofs.lemmas.Grind.{flat_map-append}
use Rattle.std.proofs.lemmas.List.{get_or-append-add, get_or_append_left, length-append, map-append, take_all, take_at}
use Rattle.std.proofs.lemmas.List.Folds.{list_all-append}
use mathlib.Core.Logic.{inl, inr}
use Rattle.nested_arrays_sized_builders.specs.nulls.arrays.Lengths.{size_of}
use Rattle.nested_arrays_sized_builders.specs.nulls.columnar_memory.declared.DataType.{DataType}
use Rattle.nested_arrays_sized_builders.specs.nulls.columnar_memory.declared.Error.{Error}
use Rattle.nested_arrays_sized_builders.specs.nulls.columnar_memory.Error.{IsOutOfMemory, IsOverflow}
use Rattle.nested_arrays_sized_builders.specs.nulls.columns.Children.{fixed_items_of, joined_fixed_items}
use Rattle.nested_arrays_sized_builders.specs.nulls.columns.FreshColumns.{is_valid}
use Rattle.nested_arrays_sized_builders.specs.nulls.columns.Kinds.{most_slots}
use Rattle.nested_arrays_sized_builders.specs.nulls.columns.OpenBatch.{fits, is_length}
use Rattle.nested_arrays_sized_builders.specs.nulls.columns.Slots.{Slot, null, items, in_slots, window}
use Rattle.nested_arrays_sized_builders.specs.nulls.columns.SoundColumns.{has_fixed_item_type, is_sound}
use Rattle.nested_arrays_sized_builders.specs.nulls.columns.StoredColumns.{Column, column_len, column_type, fixed_lists, slot_at, slots, type_layer}
use Rattle.nested_arrays_sized_builders.specs.cells.parts.Marks.{mask_of_marks}
use Rattle.nested_arrays_sized_builders.specs.cells.taken.OpenColumns.{Becomes, IsFresh, KeepsFirst}
use Rattle.nested_arrays_sized_builders.specs.cells.taken.builders.columns.OpenParts.{is_list_sized, marks_of}
use Rattle.nested_arrays_sized_builders.specs.FixedListBuilders.{FixedListParts, KeepsMarks, fixed_list_parts, fixed_lists_column, lists_made}
use Rattle.nested_arrays_sized_builders.specs.FixedListBuilders.{lists_over, marks_for, with_fixed_lists, with_items}
use Rattle.nested_arrays_sized_builders.proofs.columns_lemmas.Below.{fixed_items_fit_below}
use Rattle.nested_arrays_sized_builders.proofs.columns_lemmas.Laws.{fixed_lists_fit}
use Rattle.nested_arrays_sized_builders.proofs.columns_lemmas.Limits.{fits_length}
use Rattle.nested_arrays_sized_builders.proofs.lists_lemmas.ListsStored.{marks_fit}
use Rattle.nested_arrays_sized_builders.proofs.nulls_lemmas.arrays_lemmas.columns_lemmas.ColumnSizes.{slots_lengths}
use Rattle.nested_arrays_sized_builders.proofs.nulls_lemmas.arrays_lemmas.columns_lemmas.Windows.{window_same}
use Rattle.nested_arrays_sized_builders.proofs.taken_lemmas.FlatSlots.{unchanged}
use Rattle.nested_arrays_sized_builders.proofs.FilledMarks.{for_first, for_many, for_mask}
use Rattle.nested_arrays_sized_builders.proofs.FixedColumns.{child_fresh, child_slots, child_type, count_is, fixed_slots, fresh_marks, list_of}
use Rattle.nested_arrays_sized_builders.proofs.FixedColumns.{named, own_fit, same_list, sound_parts, sound_whole, stored_as}
use Rattle.nested_arrays_sized_builders.proofs.FixedLists.{same_left}
use Rattle.nested_arrays_sized_builders.proofs.GrownColumns.{becomes_by, begins, fresh_sound}
use Rattle.nested_arrays_sized_builders.proofs.MarkedSlots.{masked_at}
use Rattle.nested_arrays_sized_builders.proofs.SizedColumns.{ends_within}
use Rattle.nested_arrays_dictionary_builders.specs.JoinedColumns.{AddsColumn, AreAlike, AreApart, Joins}
use Rattle.nested_arrays_dictionary_builders.specs.JoinedFixedLists.{JoinsFixedItems}
use Rattle.nested_arrays_dictionary_builders.proofs.JoinedLists.{at_second}
use Rattle.nested_arrays_dictionary_builders.proofs.JoinedSlots.{window_joins}

-- ---- slots of lists that have a mark each

module _ (t u : DataType) (some : 0 < size_of t) (sized : size_of u ≡ size_of t) (ms bs : List Bool) (n m : ℕ) (child second grown : Column)
    (counted : length ms ≡ n) (other_counted : length bs ≡ m) (whole : column_len child ≡ size_of t * n)
    (other_whole : column_len second ≡ size_of t * m) (joined : slots grown ≡ slots child ++ slots second) where
  abbrev size : ℕ
  size = size_of t

  abbrev at_grown : ℕ → Slot
  at_grown = list_of size (slot_at grown)

  abbrev at_child : ℕ → Slot
  at_child = list_of size (slot_at child)

  abbrev at_other : ℕ → Slot
  at_other = list_of size (slot_at second)

  both_whole : column_len grown ≡ size * (n + m)
  both_whole =
      omega (
        arith,
        slots_lengths grown,
        ap length joined,
        length-append (slots child) (slots second),
        slots_lengths child,
        slots_lengths second,
        whole,
        other_whole,
        mul-add size n m,
      )

  both_counted : length (ms ++ bs) ≡ n + m
  both_counted = omega (arith, length-append ms bs, counted, other_counted)

  both_count : column_len grown / size ≡ n + m
  both_count = count_is t some (column_len grown) (n + m) both_whole

  mark_first : (i : ℕ) → i < n → masked_at at_grown (ms ++ bs) i ≡ masked_at at_child ms i
  mark_first i h =
      let mark = get_or_append_left ms bs false i (omega (arith, h, counted)) in
      let own = same_list size n (slot_at child) (slot_at grown)
      (λ k lt. begins child grown (slots second) joined k (omega (arith, lt, whole))) i h in
      λ j. if mark j then own j else null

  list_behind : (i : ℕ) → i < m → at_grown (n + i) ≡ at_other i
  list_behind i h =
      let from : size * (n + i) ≡ column_len child + size * i = omega (arith, whole, mul-add size n i) in
      ap (λ (k : ℕ). items (in_slots (window (slot_at grown) k size))) from
      ∙ ap (λ (xs : List Slot). items (in_slots xs))
      (window_same (slot_at grown) (slot_at second) (column_len child + size * i) (size * i) size
      (λ k lt.
      let at : column_len child + size * i + k ≡ column_len child + (size * i + k) = omega arith in
      ap (slot_at grown) at
      ∙ at_second child second grown joined (size * i + k) (omega (arith, lt, ends_within size i m h, other_whole))))

  mark_behind : (i : ℕ) → i < m → masked_at at_grown (ms ++ bs) (n + i) ≡ masked_at at_other bs i
  mark_behind i h =
      let mark = ap (λ (k : ℕ). get_or (ms ++ bs) (k + i) false) (sym counted) ∙ get_or-append-add ms bs i false in
      let own = list_behind i h in
      λ j. if mark j then own j else null

  other_slots : slots (lists_over u bs second) ≡ window (masked_at at_other bs) 0 m
  other_slots =
      let other_some : 0 < size_of u = omega (arith, some, sized) in
      let own : column_len second ≡ size_of u * m = other_whole ∙ ap (λ (k : ℕ). k * m) (sym sized) in
      fixed_slots u other_some bs second m other_counted (count_is u other_some (column_len second) m own)
      ∙ ap (λ (k : ℕ). window (masked_at (list_of k (slot_at second)) bs) 0 m) sized

  both_slots : slots (lists_over t (ms ++ bs) grown) ≡ slots (lists_over t ms child) ++ slots (lists_over u bs second)
  both_slots =
      fixed_slots t some (ms ++ bs) grown (n + m) both_counted both_count
      ∙ window_joins (masked_at at_grown (ms ++ bs)) 0 n m
      ∙ (λ j. window_same (masked_at at_grown (ms ++ bs)) (masked_at at_child ms) 0 0 n (λ i h. mark_first (0 + i) (omega (arith, h))) j
      ++ window_same (masked_at at_grown (ms ++ bs)) (masked_at at_other bs) (0 + n) 0 m rest j)
      ∙ (λ j. sym (fixed_slots t some ms child n counted (count_is t some (column_len child) n whole)) j ++ sym other_slots j)
    where
      rest : (i : ℕ) → i < m → masked_at at_grown (ms ++ bs) (0 + n + i) ≡ masked_at at_other bs (0 + i)
      rest i h =
          let at : 0 + n + i ≡ n + i = omega arith in
          let from : i ≡ 0 + i = omega arith in
          ap (masked_at at_grown (ms ++ bs)) at ∙ mark_behind i h ∙ ap (masked_at at_other bs) from

  both_sound : column_type grown ≡ column_type child → has_fixed_item_type (type_layer t) size (column_type child) ≡ true → is_sound grown ≡ true
      → is_sound (lists_over t (ms ++ bs) grown) ≡ true
  both_sound typed own sound =
      sound_whole t some (mask_of_marks (ms ++ bs)) grown (record {
        typed = ap (λ (d : DataType). has_fixed_item_type (type_layer t) size d) typed ∙ own;
        whole = both_whole ∙ ap (λ (k : ℕ). size * k) (sym both_count);
        masked = marks_fit (ms ++ bs) (column_len grown / size) (both_counted ∙ sym both_count);
        items = sound;
      })

-- ---- fresh lists

module _ (t : DataType) (some : 0 < size_of t) (ms : List Bool) (child : Column) (f : IsFresh (lists_over t ms child)) where
  abbrev own : Column
  own = lists_over t ms child

  abbrev own_count : ℕ
  own_count = column_len child / size_of t

  own_whole : column_len child ≡ size_of t * own_count
  own_whole = (sound_parts t some (mask_of_marks ms) child (fresh_sound own f)).whole

  -- their marks are those of their slots
  own_marks : marks_of (slots own) ≡ marks_for own_count ms
  own_marks =
      let fit = (sound_parts t some (mask_of_marks ms) child (fresh_sound own f)).masked in
      let filled : lists_over t (marks_for own_count ms) child ≡ own = λ j. fixed_lists t (for_mask ms own_count fit j) (size_of t) child in
      let long : length (marks_for own_count ms) ≡ length (slots (lists_over t (marks_for own_count ms) child)) =
      for_many own_count ms ∙ sym (slots_lengths (lists_over t (marks_for own_count ms) child)) in
      ap (λ (c : Column). marks_of (slots c)) (sym filled)
      ∙ sym (fresh_marks t some (marks_for own_count ms) child (subst IsFresh (sym filled) f) long)

-- ---- joined lists

module _ (t u : DataType) (some : 0 < size_of t) (sized : size_of u ≡ size_of t) (ms bs : List Bool) (child second : Column) where
  abbrev old : Column
  old = lists_over t ms child

  abbrev other : Column
  other = lists_over u bs second

  abbrev of_type : Column
  of_type = lists_over t bs second

  abbrev count : ℕ
  count = column_len child / size_of t

  abbrev others : ℕ
  others = column_len second / size_of u

  other_some : 0 < size_of u
  other_some = omega (arith, some, sized)

  as_type : AreAlike old other → IsFresh of_type
  as_type alike = subst (λ (d : DataType). IsFresh (lists_over d bs second)) alike.2 alike.1

  type_slots : AreAlike old other → slots of_type ≡ slots other
  type_slots alike = ap (λ (d : DataType). slots (lists_over d bs second)) (sym alike.2)

  -- of lists that are alike the items are
  pub items_alike : AreAlike old other → AreAlike child second
  items_alike alike = (
    child_fresh t some ms child alike.0,
    child_fresh t some bs second (as_type alike),
    child_type t some bs second (as_type alike) ∙ sym (child_type t some ms child alike.0),
  )

  -- the items of the lists of both
  items_of_both : AreAlike old other → joined_fixed_items (size_of t) (slots old ++ slots other) ≡ slots child ++ slots second
  items_of_both alike =
      let its : joined_fixed_items (size_of t) (slots other) ≡ slots second =
      ap (joined_fixed_items (size_of t)) (sym (type_slots alike)) ∙ sym (child_slots t some bs second (as_type alike)) in
      flat_map-append (fixed_items_of (size_of t)) (slots old) (slots other)
      ∙ (λ j. sym (child_slots t some ms child alike.0) j ++ its j)

  -- ---- refusals

  pub many_unfit : most_slots < count + others → fits t (slots old ++ slots other) ≡ false
  many_unfit many = false_from_ne_true (fits t (slots old ++ slots other)) (λ fit.
      omega (
        arith,
        many,
        fits_length t (slots old ++ slots other) fit,
        length-append (slots old) (slots other),
        slots_lengths old,
        slots_lengths other,
      ))

  pub items_unfit : (AreAlike child second → fits (column_type child) (slots child ++ slots second) ≡ false) → AreAlike old other
      → fits t (slots old ++ slots other) ≡ false
  items_unfit why alike = false_from_ne_true (fits t (slots old ++ slots other)) (λ fit.
      let item = named t some in
      let below = (fixed_items_fit_below t item.0 (size_of t) item.1 (slots old ++ slots other) fit).1 in
      let own : fits (column_type child) (slots child ++ slots second) ≡ true =
      (λ j. fits (child_type t some ms child alike.0 j) (sym (items_of_both alike) j)) ∙ below in
      false≢true (sym (why (items_alike alike)) ∙ own))

  -- ---- lists of both

  module _ (whole : column_len child ≡ size_of t * count) (grown : Column) (room : count + others ≤ most_slots)
      (joins : Joins child second grown) where
    abbrev both : List Bool
    both = marks_for count ms ++ marks_for others bs

    abbrev joint : Column
    joint = lists_over t both grown

    new_long : column_len joint ≡ column_len old + column_len other
    new_long =
        let all : column_len grown ≡ size_of t * count + column_len second = omega (arith, joins.long, whole) in
        ap (λ (k : ℕ). k / size_of t) all ∙ mul-add-div some count (column_len second)
        ∙ ap (λ (k : ℕ). count + column_len second / k) (sym sized)

    lists_sound : is_sound old ≡ true → is_sound other ≡ true → (is_sound joint ≡ true) × (slots joint ≡ slots old ++ slots other)
    lists_sound h g =
        let own = sound_parts t some (mask_of_marks ms) child h in
        let its = sound_parts u other_some (mask_of_marks bs) second g in
        let its_whole : column_len second ≡ size_of t * others = its.whole ∙ ap (λ (k : ℕ). k * others) sized in
        let below = joins.sound own.items its.items in
        let filled : lists_over t (marks_for count ms) child ≡ old = λ j. fixed_lists t (for_mask ms count own.masked j) (size_of t) child in
        let its_filled : lists_over u (marks_for others bs) second ≡ other =
        λ j. fixed_lists u (for_mask bs others its.masked j) (size_of u) second in (
          both_sound t u some sized (marks_for count ms) (marks_for others bs) count others child second grown (for_many count ms)
              (for_many others bs) whole its_whole below.1 joins.typed own.typed below.0,
          both_slots t u some sized (marks_for count ms) (marks_for others bs) count others child second grown (for_many count ms)
              (for_many others bs) whole its_whole below.1
              ∙ (λ j. slots (filled j) ++ slots (its_filled j)),
        )

    lists_fresh : AreAlike old other → IsFresh joint
    lists_fresh alike =
        let g = as_type alike in
        let xs = slots old in
        let ys = slots other in
        let size = size_of t in
        let item = named t some in
        let grown_fresh = joins.fresh (items_alike alike) in
        let sound = lists_sound (fresh_sound old alike.0) (fresh_sound other alike.1) in
        let below = joins.sound (fresh_sound child (items_alike alike).0) (fresh_sound second (items_alike alike).1) in
        let held : slots grown ≡ joined_fixed_items size (xs ++ ys) = below.1 ∙ sym (items_of_both alike) in
        let its_marks : marks_of ys ≡ marks_for others bs =
        ap marks_of (sym (type_slots alike)) ∙ own_marks t some bs second g
        ∙ ap (λ (k : ℕ). marks_for (column_len second / k) bs) (sym sized) in
        let marks_both : marks_of (xs ++ ys) ≡ both =
        map-append is_valid xs ys ∙ (λ j. own_marks t some ms child alike.0 j ++ its_marks j) in
        let item_type : column_type grown ≡ item.0.data_type = joins.typed ∙ child_type t some ms child alike.0 in
        let items_fit : fits item.0.data_type (joined_fixed_items size (xs ++ ys)) ≡ true =
        (λ j. fits (sym item_type j) (sym held j)) ∙ grown_fresh.fit in
        let its_lists : list_all (is_list_sized size) ys ≡ true =
        ap (list_all (is_list_sized size)) (sym (type_slots alike)) ∙ (own_fit t some bs second g).0 in
        let each : list_all (is_list_sized size) (xs ++ ys) ≡ true =
        list_all-append (is_list_sized size) xs ys
        ∙ and_from (list_all (is_list_sized size) xs) (list_all (is_list_sized size) ys) (own_fit t some ms child alike.0).0 its_lists in
        let few = le-leb (length (xs ++ ys)) most_slots (omega (arith, room, length-append xs ys, slots_lengths old, slots_lengths other)) in
        let fit : fits t (xs ++ ys) ≡ true =
        fixed_lists_fit t item.0 size item.1 (xs ++ ys)
        ∙ and_from (list_all (is_list_sized size) (xs ++ ys) && is_length (xs ++ ys)) (fits item.0.data_type (joined_fixed_items size (xs ++ ys)))
        (and_from (list_all (is_list_sized size) (xs ++ ys)) (is_length (xs ++ ys)) each few) items_fit in
        stored_as t some ms child alike.0 both grown (xs ++ ys) grown_fresh joins.typed held marks_both sound.1 fit

    pub lists_join : Joins old other joint
    lists_join = record { typed = refl; long = new_long; sound = lists_sound; fresh = lists_fresh }

  -- ---- lists that are cut back

  -- the first lists are left, which are closed, over items that were as before and were cut to theirs
  pub lists_back : column_len child ≡ size_of t * count → (mid left : Column) → Becomes child (slots child) mid
      → KeepsFirst mid (size_of t * count) left → Becomes old (slots old) (lists_over t (marks_for count ms) left)
  lists_back whole mid left same kept = record {
    typed = refl;
    long = ap (λ (k : ℕ). k / size_of t) (again.long ∙ slots_lengths child) ∙ sym (slots_lengths old);
    sound = λ h. let first = (cut h).sound h in (ap is_sound (is h) ∙ first.0, ap slots (is h) ∙ first.1);
    fresh = λ f. let h = fresh_sound old f in subst IsFresh (sym (is h)) ((cut h).fresh f);
  }
    where
      again : Becomes child (slots child) left
      again =
          let mid_whole : take (size_of t * count) (slots mid) ≡ slots mid =
          take_all (size_of t * count) (slots mid) (omega (arith, same.long, slots_lengths child, slots_lengths mid, whole)) in
          becomes_by (λ (xs : List Slot). xs) child mid left (slots child) (slots_lengths mid ∙ same.long) same
          (subst (λ (xs : List Slot). Becomes mid xs left) mid_whole kept)

      cut : is_sound old ≡ true → Becomes old (slots old) (lists_over t (take count ms) left)
      cut h = same_left t some ms child left again

      is : is_sound old ≡ true → lists_over t (marks_for count ms) left ≡ lists_over t (take count ms) left
      is h =
          let fit = (sound_parts t some (mask_of_marks ms) child h).masked in
          λ j. fixed_lists t (for_first ms count fit j) (size_of t) left

-- ---- builders of lists of one size

-- items that were refused, and the lists that were cut back to their first
pub items_cut : {M : Type 0} (column : M → Column) (old mid new : FixedListParts M) (more : M) (n : ℕ) (e : Error)
    → mid ≡ with_items old mid.values → Becomes (column old.values) (slots (column old.values)) (column mid.values)
    → AreApart (column old.values) (column more) e → KeepsMarks mid n new
    → KeepsFirst (column mid.values) (size_of mid.data_type * n) (column new.values)
    → KeepsMarks old n new × ((held : M) × Becomes (column old.values) (slots (column old.values)) (column held)
    × KeepsFirst (column held) (size_of old.data_type * n) (column new.values)) × AreApart (column old.values) (column more) e
items_cut {M} column old mid new more n e is same why marks cut =
    let typed : mid.data_type ≡ old.data_type = ap (λ (p : FixedListParts M). p.data_type) is in (
      (marks.0 ∙ typed, marks.1 ∙ ap (λ (p : FixedListParts M). take n p.marks) is),
      (
        mid.values,
        same,
        subst (λ (d : DataType). KeepsFirst (column mid.values) (size_of d * n) (column new.values)) typed cut,
      ),
      why,
    )

module _ {M : Type 0} (column : M → Column) (old other : FixedListParts M) (some : 0 < size_of old.data_type) where
  abbrev t : DataType
  t = old.data_type

  abbrev child : Column
  child = column old.values

  abbrev second : Column
  second = column other.values

  abbrev before : Column
  before = fixed_lists_column column old

  abbrev after : Column
  after = fixed_lists_column column other

  -- lists of another size are not alike
  pub other_size : ¬ (size_of other.data_type ≡ size_of t) → AreAlike before after → ⊥
  other_size apart alike = apart (ap size_of alike.2)

  -- nor are lists of items of another type
  pub other_items : ¬ (column_type second ≡ column_type child) → AreAlike before after → ⊥
  other_items apart alike =
      apart (items_alike t other.data_type some (ap size_of alike.2) old.marks other.marks child second alike).2

  -- nor are lists over items that none of them has
  pub open_items : ¬ (column_len child ≡ size_of t * lists_made column old) → AreAlike before after → ⊥
  open_items apart alike = apart (own_whole t some old.marks child alike.0)

  module _ (sized : size_of other.data_type ≡ size_of t) where
    -- marks that found no room
    pub marks_refused : (new : FixedListParts M) (e : Error) → (new ≡ fixed_list_parts t (take (lists_made column old) old.marks) old.values)
        × (IsOutOfMemory e ⊎ (IsOverflow e × (most_slots < lists_made column old + lists_made column other)))
        → Becomes before (slots before) (fixed_lists_column column new) × AreApart before after e
    marks_refused new e h = (
      subst (λ (p : FixedListParts M). Becomes before (slots before) (fixed_lists_column column p)) (sym h.0)
          (same_left t some old.marks child child (unchanged child)),
      why h.1,
    )
      where
        why : IsOutOfMemory e ⊎ (IsOverflow e × (most_slots < lists_made column old + lists_made column other)) → AreApart before after e
        why (inl memory) = inl memory
        why (inr over) = inr (inl (
          over.0,
          λ _. many_unfit t other.data_type some sized old.marks other.marks child second over.1,
        ))

    -- items that found none
    items_refused : (e : Error) → AreApart child second e → AreApart before after e
    items_refused e (inl memory) = inl memory
    items_refused e (inr (inl over)) =
        inr (inl (over.0, items_unfit t other.data_type some sized old.marks other.marks child second over.1))
    items_refused e (inr (inr refused)) =
        inr (inr (refused.0, λ alike. refused.1 (items_alike t other.data_type some sized old.marks other.marks child second alike)))

    pub fixed_lists_joined : {U : Type 0} (held : ℕ) → column_len child ≡ size_of t * lists_made column old → held ≡ lists_made column old
        → lists_made column old + lists_made column other ≤ most_slots → (new : FixedListParts M) (r : Result U Error)
        → JoinsFixedItems column (with_fixed_lists column old other) other.values held new r
        → AddsColumn before after (fixed_lists_column column new) r
    fixed_lists_joined held whole is room new (Ok u) h =
        subst (λ (p : FixedListParts M). Joins before after (fixed_lists_column column p)) (sym h.0)
        (lists_join t other.data_type some sized old.marks other.marks child second whole (column new.values) room h.1)
    fixed_lists_joined held whole is room new (Err e) h = (back, items_refused e h.2)
      where
        back : Becomes before (slots before) (fixed_lists_column column new)
        back =
            let n = lists_made column old in
            let first = marks_for n old.marks in
            let marks_are : new.marks ≡ first =
            h.0.1 ∙ take_at first (marks_for (lists_made column other) other.marks) held (for_many n old.marks ∙ sym is) in
            let kept : KeepsFirst (column h.1.0) (size_of t * n) (column new.values) =
            subst (λ (k : ℕ). KeepsFirst (column h.1.0) (size_of t * k) (column new.values)) is h.1.2 in
            subst (λ (c : Column). Becomes before (slots before) c)
            (λ j. lists_over (sym h.0.0 j) (sym marks_are j) (column new.values))
            (lists_back t other.data_type some sized old.marks other.marks child second whole (column h.1.0) (column new.values) h.1.1 kept)
