-- What a null, a list, a cut and taking out make of the column of lists of one size, whose marks may be more or fewer than the lists.
use Rattle.std.proofs.Common.{◌≡◌, ◌∙◌, ◌<◌, ◌≤◌, ◌+◌, ◌-◌, ◌*◌, ℕ, List, [], ◌∷◌, ◌++◌, length, take, replicate, get_or, Bool, true, false}
use Rattle.std.proofs.Common.{refl, sym, ap, subst, arith}
use Rattle.std.specs.Prelude.{Option, ◌&&◌, ◌/◌, nat_le}
use Rattle.std.proofs.Math.Bool.{and-false}
use Rattle.std.proofs.Math.Nat.{add-div_right, mul-add, mul-div-le, mul-le-mul_left}
use Rattle.std.proofs.lemmas.Bool.{and_from, cases_Bool, false≢true, le-leb}
use Rattle.std.proofs.lemmas.List.{get_or-take, length-append, length-replicate, length-take-le, take_all}
use mathlib.Core.Logic.{inl, inr}
use Rattle.nested_arrays_generic_builders.specs.nulls.arrays.Lengths.{size_of}
use Rattle.nested_arrays_generic_builders.specs.nulls.columnar_memory.declared.DataType.{DataType}
use Rattle.nested_arrays_generic_builders.specs.nulls.columnar_memory.Equality.{same_type-Decides}
use Rattle.nested_arrays_generic_builders.specs.nulls.columns.Children.{fixed_items_of, joined_fixed_items}
use Rattle.nested_arrays_generic_builders.specs.nulls.columns.FreshColumns.{fresh}
use Rattle.nested_arrays_generic_builders.specs.nulls.columns.Kinds.{most_slots}
use Rattle.nested_arrays_generic_builders.specs.nulls.columns.OpenBatch.{fits}
use Rattle.nested_arrays_generic_builders.specs.nulls.columns.Slots.{Slot, null, window}
use Rattle.nested_arrays_generic_builders.specs.nulls.columns.SoundColumns.{has_fixed_item_type, is_sound, mask_fits}
use Rattle.nested_arrays_generic_builders.specs.nulls.columns.StoredColumns.{Column, column_len, column_type, fixed_lists, slot_at, slots, type_layer}
use Rattle.nested_arrays_generic_builders.specs.cells.parts.Marks.{mask_of_marks}
use Rattle.nested_arrays_generic_builders.specs.cells.parts.columns.OpenParts.{marks_of}
use Rattle.nested_arrays_generic_builders.specs.cells.taken.OpenColumns.{Becomes, IsEmptied, IsFresh, KeepsFirst, slots_and}
use Rattle.nested_arrays_generic_builders.specs.ListBuilders.{list_slot}
use Rattle.nested_arrays_generic_builders.proofs.ListsStored.{marks_fit}
use Rattle.nested_arrays_generic_builders.proofs.cells_lemmas.columns_lemmas.ColumnSizes.{slots_lengths}
use Rattle.nested_arrays_generic_builders.proofs.cells_lemmas.columns_lemmas.FreshPlaces.{at_window}
use Rattle.nested_arrays_generic_builders.proofs.cells_lemmas.columns_lemmas.FirstOnes.{fixed_items_cut}
use Rattle.nested_arrays_generic_builders.proofs.cells_lemmas.columns_lemmas.Limits.{first_ones_fit}
use Rattle.nested_arrays_generic_builders.proofs.cells_lemmas.columns_lemmas.Masks.{marks_cut, marks_one_more}
use Rattle.nested_arrays_generic_builders.proofs.cells_lemmas.columns_lemmas.OneMore.{fixed_list_fits_one_more}
use Rattle.nested_arrays_generic_builders.proofs.cells_lemmas.columns_lemmas.Pieces.{joined_one_more}
use Rattle.nested_arrays_sized_builders.specs.FixedListBuilders.{AddsFixedList, Extends, lists_over, marks_for}
use Rattle.nested_arrays_sized_builders.proofs.FixedColumns.{child_fresh, child_slots, child_type, count_is, fixed_slots, fresh_marks, grown_slots}
use Rattle.nested_arrays_sized_builders.proofs.FixedColumns.{grown_sound, list_of, named, own_fit, same_list, sound_parts, sound_whole}
use Rattle.nested_arrays_sized_builders.proofs.FixedColumns.{stored_as, stored_lists, typed_as}
use Rattle.nested_arrays_sized_builders.proofs.GrownColumns.{fresh_sound}
use Rattle.nested_arrays_sized_builders.proofs.MarkedSlots.{first_marked, masked_at, too_many}
use Rattle.nested_arrays_sized_builders.proofs.SettledMarks.{settled, settled_first, settled_for, settled_many, settled_mask}

module _ (t : DataType) (some : 0 < size_of t) (ms : List Bool) (child : Column) where
  abbrev size : ℕ
  size = size_of t

  abbrev old : Column
  old = lists_over t ms child

  abbrev count : ℕ
  count = column_len child / size

  old_long : length (slots old) ≡ count
  old_long = slots_lengths old

  -- ---- marks, one for each list

  module _ (fit : mask_fits (mask_of_marks ms) count ≡ true) where
    abbrev bits : List Bool
    bits = settled ms count fit

    marked : lists_over t bits child ≡ old
    marked = λ j. fixed_lists t (settled_mask ms count fit j) size child

    many : length bits ≡ count
    many = settled_many ms count fit

  -- ---- a null more

  module _ (below : Column) (nulls : Becomes child (slots child ++ replicate size null) below) where
    abbrev new : Column
    new = lists_over t (marks_for count ms ++ false ∷ []) below

    new_long : column_len new ≡ length (slots_and old null)
    new_long =
        let items : column_len below ≡ column_len child + size =
        nulls.long ∙ omega (arith, length-append (slots child) (replicate size null), length-replicate size null, slots_lengths child) in
        ap (λ (n : ℕ). n / size) items ∙ add-div_right (column_len child) {k = size} some
        ∙ omega (arith, length-append (slots old) (null ∷ []), old_long)

    abbrev filled_up : mask_fits (mask_of_marks ms) count ≡ true → Column
    filled_up fit = lists_over t (bits fit ++ false ∷ []) below

    filled_is : (fit : mask_fits (mask_of_marks ms) count ≡ true) → filled_up fit ≡ new
    filled_is fit = λ j. lists_over t (sym (settled_for ms count fit) j ++ false ∷ []) below

    null_sound : is_sound old ≡ true → (is_sound new ≡ true) × (slots new ≡ slots_and old null)
    null_sound h =
        let parts = sound_parts t some (mask_of_marks ms) child h in
        let fit = parts.masked in
        let own = nulls.sound parts.items in
        let wide = length-replicate size null in
        let sound = grown_sound t some (bits fit) false child below (replicate size null) count (many fit) parts.whole wide own.1 nulls.typed
        parts.typed own.0 in
        let same = grown_slots t some (bits fit) false child below (replicate size null) count (many fit) parts.whole wide own.1 in (
          ap is_sound (sym (filled_is fit)) ∙ sound,
          ap slots (sym (filled_is fit)) ∙ same ∙ ap (λ (c : Column). slots c ++ null ∷ []) (marked fit),
        )

    null_fresh : count < most_slots → IsFresh old → IsFresh new
    null_fresh few f =
        let sound = fresh_sound old f in
        let parts = sound_parts t some (mask_of_marks ms) child sound in
        let fit = parts.masked in
        let xs = slots old in
        let f' : IsFresh (lists_over t (bits fit) child) = subst IsFresh (sym (marked fit)) f in
        let same : slots (lists_over t (bits fit) child) ≡ xs = ap slots (marked fit) in
        let stored : bits fit ≡ marks_of xs =
        fresh_marks t some (bits fit) child f' (many fit ∙ sym old_long ∙ ap length (sym same)) ∙ ap marks_of same in
        let own = nulls.sound parts.items in
        let held : slots below ≡ joined_fixed_items size (xs ++ null ∷ []) =
        own.1 ∙ ap (λ (ys : List Slot). ys ++ replicate size null) (child_slots t some ms child f)
        ∙ sym (joined_one_more (fixed_items_of size) xs null) in
        let g = nulls.fresh (child_fresh t some ms child f) in
        let item_type : column_type below ≡ (named t some).0.data_type = nulls.typed ∙ child_type t some ms child f in
        let items_fit : fits (named t some).0.data_type (joined_fixed_items size xs ++ replicate size null) ≡ true =
        (λ j. fits (sym item_type j) ((sym (joined_one_more (fixed_items_of size) xs null) ∙ sym held) j)) ∙ g.fit in
        let all_fit : fits t (xs ++ null ∷ []) ≡ true =
        fixed_list_fits_one_more t (named t some).0 size (named t some).1 xs null f.fit
        ∙ and_from (nat_le (length xs + 1) most_slots) (fits (named t some).0.data_type (joined_fixed_items size xs ++ replicate size null))
        (le-leb (length xs + 1) most_slots (omega (arith, few, old_long))) items_fit in
        let marks_more : marks_of (xs ++ null ∷ []) ≡ marks_for count ms ++ false ∷ [] =
        marks_one_more xs null ∙ ap (λ (bs : List Bool). bs ++ false ∷ []) (sym stored ∙ sym (settled_for ms count fit)) in
        stored_as t some ms child f (marks_for count ms ++ false ∷ []) below (xs ++ null ∷ []) g nulls.typed held marks_more
        (null_sound sound).1 all_fit

    pub null_added : count < most_slots → Becomes old (slots_and old null) new
    null_added few = record { typed = refl; long = new_long; sound = null_sound; fresh = null_fresh few }

  -- why a null has no room
  pub no_null_below : (IsFresh child → fits (column_type child) (slots child ++ replicate size null) ≡ false) → IsFresh old
      → fits t (slots_and old null) ≡ false
  no_null_below why f =
      let item = (named t some).0.data_type in
      let xs = slots old in
      let unfit : fits item (joined_fixed_items size xs ++ replicate size null) ≡ false =
      (λ j. fits (sym (child_type t some ms child f) j) (sym (child_slots t some ms child f) j ++ replicate size null))
      ∙ why (child_fresh t some ms child f) in
      fixed_list_fits_one_more t (named t some).0 size (named t some).1 xs null f.fit
      ∙ ap (λ (b : Bool). nat_le (length xs + 1) most_slots && b) unfit ∙ and-false (nat_le (length xs + 1) most_slots)

  pub full : most_slots ≤ count → fits t (slots_and old null) ≡ false
  full many = too_many t (slots old) null (omega (arith, many, old_long))

  -- ---- the first lists

  module _ (k : ℕ) (le : k ≤ count) (kept : Column) where
    abbrev cut : Column
    cut = lists_over t (take k ms) kept

    end_within : size * k ≤ column_len child
    end_within = omega (arith, mul-div-le (column_len child) size, mul-le-mul_left {m = k} {n = count} size le)

    module _ (keeps : KeepsFirst child (size * k) kept) where
      kept_long : column_len kept ≡ size * k
      kept_long = keeps.long ∙ length-take-le (size * k) (slots child) (omega (arith, end_within, slots_lengths child))

      cut_count : column_len kept / size ≡ k
      cut_count = count_is t some (column_len kept) k kept_long

      cut_long : column_len cut ≡ length (take k (slots old))
      cut_long = cut_count ∙ sym (length-take-le k (slots old) (omega (arith, le, old_long)))

      same_items : is_sound child ≡ true → (i : ℕ) → i < size * k → slot_at kept i ≡ slot_at child i
      same_items sound i h =
          at_window (slot_at kept) (column_len kept) (slots kept) i null refl (omega (arith, h, kept_long))
          ∙ ap (λ (xs : List Slot). get_or xs i null) (keeps.sound sound).1
          ∙ get_or-take (size * k) (slots child) i null h
          ∙ sym (at_window (slot_at child) (column_len child) (slots child) i null refl (omega (arith, h, end_within)))

      cut_sound : is_sound old ≡ true → (is_sound cut ≡ true) × (slots cut ≡ take k (slots old))
      cut_sound h =
          let parts = sound_parts t some (mask_of_marks ms) child h in
          let fit = parts.masked in
          let first = take k (bits fit) in
          let counted : length first ≡ k = length-take-le k (bits fit) (omega (arith, le, many fit)) in
          let masks : mask_of_marks first ≡ mask_of_marks (take k ms) = settled_first ms count fit k le in
          let same : lists_over t first kept ≡ cut = λ j. fixed_lists t (masks j) size kept in
          let sound = sound_whole t some (mask_of_marks first) kept (record {
            typed = ap (λ (d : DataType). has_fixed_item_type (type_layer t) size d) keeps.typed ∙ parts.typed;
            whole = kept_long ∙ ap (λ (n : ℕ). size * n) (sym cut_count);
            masked = marks_fit first (column_len kept / size) (counted ∙ sym cut_count);
            items = (keeps.sound parts.items).0;
          }) in (
            ap is_sound (sym same) ∙ sound,
            ap slots (sym same) ∙ fixed_slots t some first kept k counted cut_count
                ∙ first_marked (list_of size (slot_at child)) (list_of size (slot_at kept)) (bits fit) count k le
                (same_list size k (slot_at child) (slot_at kept) (same_items parts.items))
                ∙ ap (take k) (sym (fixed_slots t some (bits fit) child count (many fit) refl) ∙ ap slots (marked fit)),
          )

      cut_fresh : IsFresh old → IsFresh cut
      cut_fresh f =
          let sound = fresh_sound old f in
          let parts = sound_parts t some (mask_of_marks ms) child sound in
          let fit = parts.masked in
          let xs = slots old in
          let f' : IsFresh (lists_over t (bits fit) child) = subst IsFresh (sym (marked fit)) f in
          let same : slots (lists_over t (bits fit) child) ≡ xs = ap slots (marked fit) in
          let stored : bits fit ≡ marks_of xs =
          fresh_marks t some (bits fit) child f' (many fit ∙ sym old_long ∙ ap length (sym same)) ∙ ap marks_of same in
          let first = take k (bits fit) in
          let masks : mask_of_marks first ≡ mask_of_marks (take k ms) = settled_first ms count fit k le in
          let is_cut : lists_over t first kept ≡ cut = λ j. fixed_lists t (masks j) size kept in
          let held : slots kept ≡ joined_fixed_items size (take k xs) =
          (keeps.sound parts.items).1 ∙ ap (take (size * k)) (child_slots t some ms child f)
          ∙ sym (fixed_items_cut size k xs (own_fit t some ms child f).0 (omega (arith, le, old_long))) in
          let marks_first : marks_of (take k xs) ≡ first = marks_cut k xs ∙ ap (take k) (sym stored) in
          subst IsFresh is_cut
          (stored_as t some ms child f first kept (take k xs) (keeps.fresh (child_fresh t some ms child f)) keeps.typed held marks_first
          (ap slots is_cut ∙ (cut_sound sound).1) (first_ones_fit t k xs f.fit))

      pub first_left : KeepsFirst old k cut
      first_left = record { typed = refl; long = cut_long; sound = cut_sound; fresh = cut_fresh }

  -- ---- the same lists over the same items

  pub same_left : (kept : Column) → Becomes child (slots child) kept → Becomes old (slots old) (lists_over t (take count ms) kept)
  same_left kept same = record {
    typed = refl;
    long = ap (λ (n : ℕ). n / size) (same.long ∙ slots_lengths child) ∙ sym old_long;
    sound = λ h. let first = (kept_first h).sound h in (first.0, first.1 ∙ all);
    fresh = λ f. (kept_first (fresh_sound old f)).fresh f;
  }
    where
      all : take count (slots old) ≡ slots old
      all = take_all count (slots old) (omega (arith, old_long))

      kept_first : is_sound old ≡ true → KeepsFirst old count (lists_over t (take count ms) kept)
      kept_first h =
          let whole = (sound_parts t some (mask_of_marks ms) child h).whole in
          let items : take (size * count) (slots child) ≡ slots child =
          take_all (size * count) (slots child) (omega (arith, whole, slots_lengths child)) in
          first_left count (omega arith) kept (subst (λ (xs : List Slot). Becomes child xs kept) (sym items) same)

  -- ---- none left

  pub none_left : (left : Column) → IsEmptied child left → IsEmptied old (lists_over t [] left)
  none_left left h = record {
    typed = refl;
    long = count_is t some (column_len left) 0 (h.long ∙ nothing size);
    begun = begun;
  }
    where
      nothing : (n : ℕ) → 0 ≡ n * 0
      nothing n = omega arith

      begun : is_sound old ≡ true → lists_over t [] left ≡ fresh t []
      begun sound =
          let parts = sound_parts t some (mask_of_marks ms) child sound in
          let item = (named t some).0.data_type in
          let own : item ≡ column_type child =
          (same_type-Decides item (column_type child)).0 (sym (typed_as t some (column_type child)) ∙ parts.typed) in
          ap (lists_over t []) (h.begun parts.items ∙ ap (λ (d : DataType). fresh d []) (sym own)) ∙ stored_lists t some []

  pub unsound_below : is_sound child ≡ false → is_sound old ≡ false
  unsound_below below =
      elim (cases_Bool (is_sound old)) [
        | inl sound ↦ absurd (false≢true (sym below ∙ (sound_parts t some (mask_of_marks ms) child sound).items))
        | inr unsound ↦ unsound
      ]

  -- ---- a list more

  pub list_added : column_len child ≡ size * (length ms + 1) → AddsFixedList t ms child (lists_over t (ms ++ true ∷ []) child)
  list_added long = record {
    typed = refl;
    long = count_is t some (column_len child) (length ms + 1) long;
    grown = grown;
  }
    where
      grown : (earlier : Column) (more : List Slot) → column_len earlier ≡ size * length ms → Extends earlier more child
          → Extends (lists_over t ms earlier) (list_slot more ∷ []) (lists_over t (ms ++ true ∷ []) child)
      grown earlier more whole h = record { typed = refl; sound = sound }
        where
          sound : is_sound (lists_over t ms earlier) ≡ true
              → (is_sound (lists_over t (ms ++ true ∷ []) child) ≡ true)
              × (slots (lists_over t (ms ++ true ∷ []) child) ≡ slots (lists_over t ms earlier) ++ list_slot more ∷ [])
          sound before =
              let parts = sound_parts t some (mask_of_marks ms) earlier before in
              let own = h.sound parts.items in
              let wide : length more ≡ size =
              omega (
                arith,
                slots_lengths child,
                ap length own.1,
                length-append (slots earlier) more,
                slots_lengths earlier,
                whole,
                long,
                mul-add size (length ms) 1,
              ) in (
                grown_sound t some ms true earlier child more (length ms) refl whole wide own.1 h.typed parts.typed own.0,
                grown_slots t some ms true earlier child more (length ms) refl whole wide own.1,
              )
