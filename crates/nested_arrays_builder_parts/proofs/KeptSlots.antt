-- Slots that are kept as a mark and a value each: the column that they make, one more of them, and the first ones.
use Rattle.std.proofs.Common.{
  ◌≡◌,
  ◌∙◌,
  ◌≤◌,
  ◌<◌,
  ◌+◌,
  ◌*◌,
  ℕ,
  zero,
  suc,
  List,
  [],
  ◌∷◌,
  ◌++◌,
  Bool,
  true,
  false,
  not,
  length,
  map,
  take,
  drop,
  get_or,
}
use Rattle.std.proofs.Common.{refl, sym, ap, ap₂, subst, arith, ◌⊎◌, ⊎_elim}
use Rattle.std.proofs.Math.ListN.{get_or-map}
use Rattle.std.proofs.lemmas.Option.{get_or_from_slice_get}
use Rattle.std.specs.Prelude.{slice_get, Option, Some, None, Result, Ok, Err, ◌&&◌, ◌==◌, if◌then◌else◌, nat_le, sum_by}
use Rattle.std.specs.List.{concat, flat_map, list_all, list_any}
use Rattle.std.proofs.lemmas.Bool.{and_parts, and_from, le-leb, leb-true, cases_Bool, false≢true}
use Rattle.std.proofs.lemmas.List.{length-append, length-map, map-append, take-map, length-take-le, take-append-drop, take_at}
use Rattle.std.proofs.lemmas.List.Folds.{list_all-append}
use Rattle.std.proofs.lemmas.List.Sums.{sum_by-cons, sum_by-append}
use mathlib.Core.Logic.{inl, inr}
use Rattle.nested_arrays_core.specs.arrays.columnar_memory.Bits.{unset_count}
use Rattle.nested_arrays_core.specs.arrays.columnar_memory.declared.DataType.{DataType}
use Rattle.nested_arrays_core.specs.arrays.columnar_memory.declared.Error.{Error}
use Rattle.nested_arrays_core.specs.arrays.columnar_memory.Error.{IsInvalidArgument, IsOutOfMemory, IsOverflow}
use Rattle.nested_arrays_core.specs.arrays.columnar_memory.Layouts.{physical_type}
use Rattle.nested_arrays_core.specs.arrays.columns.Cells.{is_null, is_bytes_of, fits_cell}
use Rattle.nested_arrays_core.specs.arrays.columns.FreshColumns.{is_valid, is_true, content_of, fixed_content_of, mask_of, fresh}
use Rattle.nested_arrays_core.specs.arrays.columns.FreshLaws.{is_buildable}
use Rattle.nested_arrays_core.specs.arrays.columns.Kinds.{most_slots}
use Rattle.nested_arrays_core.specs.arrays.columns.OpenBatch.{byte_count, is_length, bytes_within, is_within, fits}
use Rattle.nested_arrays_core.specs.arrays.columns.Slots.{Slot, null, truth, number, pair, triple, text, bytes, items, fields, pick}
use Rattle.nested_arrays_core.specs.arrays.columns.SoundColumns.{is_sound}
use Rattle.nested_arrays_core.specs.arrays.columns.StoredColumns.{Column, slots}
use Rattle.nested_arrays_core.proofs.arrays_lemmas.columns_lemmas.Conditions.{list_all-take}
use Rattle.nested_arrays_core.proofs.arrays_lemmas.columns_lemmas.Fitting.{beginnings_fit}
use Rattle.nested_arrays_core.proofs.arrays_lemmas.columns_lemmas.FreshLengths.{content_piece}
use Rattle.nested_arrays_core.proofs.arrays_lemmas.columns_lemmas.FreshSlots.{fresh_slots}
use Rattle.nested_arrays_core.proofs.arrays_lemmas.columns_lemmas.FreshSound.{fresh_is_sound}
use Rattle.nested_arrays_builder_parts.specs.Growing.{
  Growing,
  nothing,
  truths,
  whole,
  strings,
  sized,
  numbers_for,
  values_of,
  with_value,
  first_values,
}
use Rattle.nested_arrays_builder_parts.specs.Growing.{takes, has_room, most_bytes, layout_of, width_of, grown_column, HoldsAll, HoldsFirst}
use Rattle.nested_arrays_builder_parts.specs.KeptValues.{kept_column, IsTyped, AreKeptAs, open_of, TakesSlot}
use Rattle.nested_arrays_builder_parts.specs.Marks.{mask_of_marks}
use Rattle.nested_arrays_builder_parts.specs.Open.{opened, first_slots, IsPushed, IsRefusal}
use Rattle.nested_arrays_core.specs.arrays.flat.FlatColumns.{byte_width}
use Rattle.nested_arrays_builder_parts.proofs.FlatLayers.{values_within, AreValuesOf, values_of_type}
use Rattle.nested_arrays_builder_parts.proofs.MarkLists.{positive, unset-first}
use Rattle.nested_arrays_core.proofs.columns_lemmas.Masks.{mask_is}
use Rattle.nested_arrays_core.proofs.columns_lemmas.Pieces.{joined_one_more, sized_cut, sized_length}
use Rattle.nested_arrays_core.specs.columns.OpenParts.{marks_of, mask_from}

-- ---- masks

-- a mask by how many are false is a mask by whether one is
by_count : (bits : List Bool) → (unset_count bits == 0) ≡ not (list_any not bits)
by_count [] = refl
by_count (true ∷ bits) = by_count bits
by_count (false ∷ bits) = positive (unset_count (false ∷ bits)) (let count = unset-first bits in omega (arith, count))

flipped : {A : Type 0} (b : Bool) (x y : A) → (if not b then x else y) ≡ (if b then y else x)
flipped true x y = refl
flipped false x y = refl

masks_alike : (bits : List Bool) → mask_of_marks bits ≡ mask_from bits
masks_alike bits = ap (λ b. if b then None else Some bits) (by_count bits) ∙ flipped (list_any not bits) None (Some bits)

pub mask_kept : (xs : List Slot) → mask_of_marks (map is_valid xs) ≡ mask_of xs
mask_kept xs = masks_alike (map is_valid xs) ∙ sym (mask_is xs)

-- ---- values

values_of_with : (values : Growing) (slot : Slot) (xs : List Slot) → values_of (with_value values slot) xs ≡ values_of values xs
values_of_with nothing slot xs = refl
values_of_with (truths values) slot xs = refl
values_of_with (whole kind values) slot xs = refl
values_of_with (strings of_text is_large values) slot xs = refl
values_of_with (sized size content) slot xs = refl

values_of_first : (values : Growing) (n : ℕ) (xs : List Slot) → values_of (first_values values n) xs ≡ values_of values xs
values_of_first nothing n xs = refl
values_of_first (truths values) n xs = refl
values_of_first (whole kind values) n xs = refl
values_of_first (strings of_text is_large values) n xs = refl
values_of_first (sized size content) n xs = refl

one_more_value : (values : Growing) (xs : List Slot) (slot : Slot) → with_value (values_of values xs) slot ≡ values_of values (xs ++ slot ∷ [])
one_more_value nothing xs slot = refl
one_more_value (truths values) xs slot = ap truths (sym (map-append is_true xs (slot ∷ [])))
one_more_value (whole kind values) xs slot = ap (whole kind) (sym (map-append (numbers_for kind) xs (slot ∷ [])))
one_more_value (strings of_text is_large values) xs slot = ap (strings of_text is_large) (sym (map-append content_of xs (slot ∷ [])))
one_more_value (sized size content) xs slot = ap (sized size) (sym (joined_one_more (fixed_content_of size) xs slot))

cut_values : (values : Growing) (xs : List Slot) (n : ℕ) → list_all (takes values) xs ≡ true → n ≤ length xs
    → first_values (values_of values xs) n ≡ values_of values (take n xs)
cut_values nothing xs n fit le = refl
cut_values (truths values) xs n fit le = ap truths (take-map is_true n xs)
cut_values (whole kind values) xs n fit le = ap (whole kind) (take-map (numbers_for kind) n xs)
cut_values (strings of_text is_large values) xs n fit le = ap (strings of_text is_large) (take-map content_of n xs)
cut_values (sized size content) xs n fit le =
    ap (sized size) (sym (sized_cut (fixed_content_of size) (is_bytes_of size) size (content_piece size) n xs fit le))

layout_with : (values : Growing) (slot : Slot) → layout_of (with_value values slot) ≡ layout_of values
layout_with nothing slot = refl
layout_with (truths values) slot = refl
layout_with (whole kind values) slot = refl
layout_with (strings true is_large values) slot = refl
layout_with (strings false is_large values) slot = refl
layout_with (sized size content) slot = refl

width_with : (values : Growing) (slot : Slot) → width_of (with_value values slot) ≡ width_of values
width_with nothing slot = refl
width_with (truths values) slot = refl
width_with (whole kind values) slot = refl
width_with (strings of_text is_large values) slot = refl
width_with (sized size content) slot = refl

layout_first : (values : Growing) (n : ℕ) → layout_of (first_values values n) ≡ layout_of values
layout_first nothing n = refl
layout_first (truths values) n = refl
layout_first (whole kind values) n = refl
layout_first (strings true is_large values) n = refl
layout_first (strings false is_large values) n = refl
layout_first (sized size content) n = refl

width_first : (values : Growing) (n : ℕ) → width_of (first_values values n) ≡ width_of values
width_first nothing n = refl
width_first (truths values) n = refl
width_first (whole kind values) n = refl
width_first (strings of_text is_large values) n = refl
width_first (sized size content) n = refl

-- ---- limits

counted : (slot : Slot) → byte_count slot ≡ length (content_of slot)
counted null = refl
counted (truth b) = refl
counted (number kind n) = refl
counted (pair kind a b) = refl
counted (triple kind a b c) = refl
counted (text content) = refl
counted (bytes content) = refl
counted (items inner) = refl
counted (fields inner) = refl
counted (pick t slot) = refl

all_counted : (xs : List Slot) → sum_by byte_count xs ≡ length (concat (map content_of xs))
all_counted [] = refl
all_counted (x ∷ xs) =
    sum_by-cons byte_count x xs ∙ ap₂ (λ (a b : ℕ). a + b) (counted x) (all_counted xs) ∙ sym (length-append (content_of x) (concat (map content_of
    xs)))

one_more_counted : (xs : List Slot) (slot : Slot)
    → sum_by byte_count (xs ++ slot ∷ []) ≡ length (concat (map content_of xs)) + length (content_of slot)
one_more_counted xs slot =
    sum_by-append byte_count xs (slot ∷ [])
    ∙ ap₂ (λ (a b : ℕ). a + b) (all_counted xs) (sum_by-cons byte_count slot [] ∙ ap (λ n. n + 0) (counted slot) ∙ omega arith)

alone : (b : Bool) → b ≡ (b && true)
alone true = refl
alone false = refl

-- one more slot is within the limits where there is room for its value, and for one more slot
within_one_more : (values : Growing) (xs : List Slot) (slot : Slot) → values ≡ values_of values xs
    → values_within values (xs ++ slot ∷ []) ≡ (is_length (xs ++ slot ∷ []) && has_room values slot)
within_one_more (strings of_text is_large values) xs slot held =
    let joined : concat (map content_of xs) ≡ concat values = ap concat (ap string_list (sym held)) in
    ap (λ n. is_length (xs ++ slot ∷ []) && nat_le n (most_bytes is_large))
    (one_more_counted xs slot ∙ ap (λ bytes. length bytes + length (content_of slot)) joined)
  where
    string_list : Growing → List (List ℕ)
    string_list (strings of_text is_large values) = values
    string_list _ = []
within_one_more nothing xs slot held = alone (is_length (xs ++ slot ∷ []))
within_one_more (truths values) xs slot held = alone (is_length (xs ++ slot ∷ []))
within_one_more (whole kind values) xs slot held = alone (is_length (xs ++ slot ∷ []))
within_one_more (sized size content) xs slot held = alone (is_length (xs ++ slot ∷ []))

not_le : (a b : ℕ) → b < a → nat_le a b ≡ false
not_le a b past =
    elim (cases_Bool (nat_le a b)) [
      | inl le ↦ absurd (let h = leb-true a b le in omega (arith, h, past))
      | inr above ↦ above
    ]

-- ---- slots that are kept

module _ (t : DataType) (marks : List Bool) (values : Growing) (xs : List Slot) (kept : AreKeptAs t marks values xs) where
  kind_of_values : AreValuesOf t values
  kind_of_values = values_of_type t values kept.typed.lies kept.typed.wide

  -- a mark for each slot
  pub kept_length : length marks ≡ length xs
  kept_length = ap length kept.marked ∙ length-map xs is_valid

  pub kept_is_fresh : kept_column t marks values ≡ fresh t xs
  kept_is_fresh =
      ap (λ n. grown_column t n (mask_of_marks marks) values) kept_length
      ∙ ap (λ (bits : List Bool). grown_column t (length xs) (mask_of_marks bits) values) kept.marked
      ∙ ap (λ mask. grown_column t (length xs) mask values) (mask_kept xs)
      ∙ ap (grown_column t (length xs) (mask_of xs)) kept.held ∙ sym (kind_of_values.stores xs)

  pub kept_slots : slots (kept_column t marks values) ≡ xs
  kept_slots = ap slots kept_is_fresh ∙ fresh_slots t xs kept.typed.can kept.fit

  pub kept_sound : is_sound (kept_column t marks values) ≡ true
  kept_sound = ap is_sound kept_is_fresh ∙ fresh_is_sound t xs kept.typed.can kept.fit

  pub kept_open : open_of t marks values ≡ opened t xs
  kept_open = ap (opened t) kept_slots

  pub all_fit : list_all (takes values) xs ≡ true
  all_fit = ap (λ (test : Slot → Bool). list_all test xs) (λ i slot. sym (kind_of_values.cells slot) i)
      ∙ (and_parts (list_all (fits_cell t) xs) (is_within t xs) kept.fit).0

  pub kept_takes : (slot : Slot) → fits_cell t slot ≡ takes values slot
  kept_takes = kind_of_values.cells

  -- when one more fits
  fits_one_more : (slot : Slot)
      → fits t (xs ++ slot ∷ []) ≡ (list_all (fits_cell t) (xs ++ slot ∷ []) && (is_length (xs ++ slot ∷ []) && has_room values slot))
  fits_one_more slot =
      ap (λ b. list_all (fits_cell t) (xs ++ slot ∷ []) && b)
      (kind_of_values.rooms (xs ++ slot ∷ []) ∙ within_one_more values xs slot kept.held)

  one_longer : (slot : Slot) → length (xs ++ slot ∷ []) ≡ length marks + 1
  one_longer slot = let more = length-append xs (slot ∷ []) in omega (arith, more, kept_length)

  pub fit_one_more : (slot : Slot) → takes values slot ≡ true → has_room values slot ≡ true → length marks < most_slots
      → fits t (xs ++ slot ∷ []) ≡ true
  fit_one_more slot taken room few =
      let old = (and_parts (list_all (fits_cell t) xs) (is_within t xs) kept.fit).0 in
      let this : fits_cell t slot ≡ true = kept_takes slot ∙ taken in
      let each : list_all (fits_cell t) (xs ++ slot ∷ []) ≡ true =
      list_all-append (fits_cell t) xs (slot ∷ []) ∙ and_from (list_all (fits_cell t) xs) (list_all (fits_cell t) (slot ∷ [])) old
      (and_from (fits_cell t slot) true this refl) in
      let long : is_length (xs ++ slot ∷ []) ≡ true = le-leb (length (xs ++ slot ∷ [])) most_slots (omega (arith, one_longer slot, few)) in
      fits_one_more slot
      ∙ and_from (list_all (fits_cell t) (xs ++ slot ∷ [])) (is_length (xs ++ slot ∷ []) && has_room values slot) each
      (and_from (is_length (xs ++ slot ∷ [])) (has_room values slot) long room)

  false_end : (a b c : Bool) → c ≡ false → (a && (b && c)) ≡ false
  false_end true true c is = is
  false_end true false c is = refl
  false_end false b c is = refl

  false_middle : (a b c : Bool) → b ≡ false → (a && (b && c)) ≡ false
  false_middle true b c is = ap (λ b. b && c) is
  false_middle false b c is = refl

  -- where there is no room for its value, or for one more slot, it does not fit
  pub no_room : (slot : Slot) → has_room values slot ≡ false → fits t (xs ++ slot ∷ []) ≡ false
  no_room slot full =
      fits_one_more slot ∙ false_end (list_all (fits_cell t) (xs ++ slot ∷ [])) (is_length (xs ++ slot ∷ [])) (has_room values slot) full

  pub no_place : (slot : Slot) → length marks ≡ most_slots → fits t (xs ++ slot ∷ []) ≡ false
  no_place slot full =
      let past : is_length (xs ++ slot ∷ []) ≡ false = not_le (length (xs ++ slot ∷ [])) most_slots (omega (arith, one_longer slot, full)) in
      fits_one_more slot ∙ false_middle (list_all (fits_cell t) (xs ++ slot ∷ [])) (is_length (xs ++ slot ∷ [])) (has_room values slot) past

  pub kept_one_more : (slot : Slot) (bits : List Bool) (grown : Growing) → bits ≡ marks ++ is_valid slot ∷ [] → grown ≡ with_value values slot
      → takes values slot ≡ true → has_room values slot ≡ true → length marks < most_slots
      → AreKeptAs t bits grown (xs ++ slot ∷ [])
  kept_one_more slot bits grown marked held taken room few = record {
    typed = record {
      lies = kept.typed.lies ∙ sym (ap layout_of held ∙ layout_with values slot);
      wide = kept.typed.wide ∙ sym (ap width_of held ∙ width_with values slot);
      can = kept.typed.can;
    };
    marked = marked ∙ ap (λ (bs : List Bool). bs ++ is_valid slot ∷ []) kept.marked ∙ sym (map-append is_valid xs (slot ∷ []));
    held = held ∙ ap (λ v. with_value v slot) kept.held ∙ one_more_value values xs slot
        ∙ sym (ap (λ v. values_of v (xs ++ slot ∷ [])) held ∙ values_of_with values slot (xs ++ slot ∷ []));
    fit = fit_one_more slot taken room few;
  }

  pub kept_first : (n : ℕ) (bits : List Bool) (grown : Growing) → n ≤ length xs → bits ≡ take n marks → grown ≡ first_values values n
      → AreKeptAs t bits grown (take n xs)
  kept_first n bits grown le marked held = record {
    typed = record {
      lies = kept.typed.lies ∙ sym (ap layout_of held ∙ layout_first values n);
      wide = kept.typed.wide ∙ sym (ap width_of held ∙ width_first values n);
      can = kept.typed.can;
    };
    marked = marked ∙ ap (take n) kept.marked ∙ take-map is_valid n xs;
    held = held ∙ ap (λ v. first_values v n) kept.held ∙ cut_values values xs n all_fit le
        ∙ sym (ap (λ v. values_of v (take n xs)) held ∙ values_of_first values n (take n xs));
    fit = beginnings_fit t (take n xs) (drop n xs) (ap (fits t) (take-append-drop n xs) ∙ kept.fit);
  }

-- nothing is kept at first
pub kept_none : (t : DataType) (values : Growing) → IsTyped t values → values ≡ values_of values [] → AreKeptAs t [] values []
kept_none t values typed held = record {
  typed = typed;
  marked = refl;
  held = held;
  fit = (values_of_type t values typed.lies typed.wide).rooms [] ∙ none values;
}
  where
    none : (values : Growing) → values_within values [] ≡ true
    none nothing = refl
    none (truths values) = refl
    none (whole kind values) = refl
    none (strings of_text true values) = refl
    none (strings of_text false values) = refl
    none (sized size content) = refl

-- ---- open columns

-- values are as many as slots
counted_values : (values : Growing) (xs : List Slot) (n : ℕ) → length xs ≡ n → list_all (takes values) xs ≡ true → HoldsAll (values_of values xs) n
counted_values nothing xs n long fit = tt
counted_values (truths values) xs n long fit = length-map xs is_true ∙ long
counted_values (whole kind values) xs n long fit = length-map xs (numbers_for kind) ∙ long
counted_values (strings of_text is_large values) xs n long fit = length-map xs content_of ∙ long
counted_values (sized size content) xs n long fit =
    sized_length (fixed_content_of size) (is_bytes_of size) size (content_piece size) xs fit ∙ ap (λ k. size * k) long

first_of_all : (values : Growing) (m n : ℕ) → HoldsAll values m → n ≤ m → HoldsFirst values n
first_of_all nothing m n all le = tt
first_of_all (truths values) m n all le = omega (arith, all, le)
first_of_all (whole kind values) m n all le = omega (arith, all, le)
first_of_all (strings of_text is_large values) m n all le = omega (arith, all, le)
first_of_all (sized size content) m n all le = let more = mul_le size n m le in omega (arith, all, more)
  where
    mul_le : (size n m : ℕ) → n ≤ m → size * n ≤ size * m
    mul_le size n m le = grind arith

module _ (t : DataType) (marks : List Bool) (values : Growing)
    (kept : AreKeptAs t marks values (slots (kept_column t marks values))) where
  abbrev pub own : List Slot
  own = slots (kept_column t marks values)

  pub kept_count : length marks ≡ length own
  kept_count = kept_length t marks values own kept

  pub kept_all : HoldsAll values (length marks)
  kept_all = subst (λ (v : Growing). HoldsAll v (length marks)) (sym kept.held)
      (counted_values values own (length marks) (sym kept_count) (all_fit t marks values own kept))

  pub kept_holds_first : (n : ℕ) → n ≤ length own → HoldsFirst values n
  kept_holds_first n le = first_of_all values (length marks) n kept_all (omega (arith, kept_count, le))

  itself : (bits : List Bool) (grown : Growing) (xs : List Slot) → AreKeptAs t bits grown xs
      → AreKeptAs t bits grown (slots (kept_column t bits grown))
  itself bits grown xs made = subst (AreKeptAs t bits grown) (sym (kept_slots t bits grown xs made)) made

  unchanged : (bits : List Bool) (grown : Growing) → bits ≡ marks → grown ≡ values → AreKeptAs t bits grown (slots (kept_column t bits grown))
  unchanged bits grown same_bits same_values =
      subst (λ (v : Growing). AreKeptAs t bits v (slots (kept_column t bits v))) (sym same_values)
      (subst (λ (b : List Bool). AreKeptAs t b values (slots (kept_column t b values))) (sym same_bits) kept)

  -- a slot that is pushed
  pub pushed_kept : {U : Type 0} (slot : Slot) (bits : List Bool) (grown : Growing) (r : Result U Error) → TakesSlot marks values slot bits grown r
      → AreKeptAs t bits grown (slots (kept_column t bits grown))
  pushed_kept slot bits grown (Ok u) is =
      itself bits grown (own ++ slot ∷ []) (kept_one_more t marks values own kept slot bits grown is.0 is.1 is.2 is.3 is.4)
  pushed_kept slot bits grown (Err e) is = unchanged bits grown is.0 is.1

  refused : (slot : Slot) (e : Error)
      → (IsOutOfMemory e ⊎ (IsInvalidArgument e × (takes values slot ≡ false))
      ⊎ (IsOverflow e × (takes values slot ≡ true) × ((has_room values slot ≡ false) ⊎ (length marks ≡ most_slots))))
      → IsRefusal (open_of t marks values) slot e
  refused slot e (inl memory) = inl memory
  refused slot e (inr (inl other)) = inr (inl (other.0, kept_takes t marks values own kept slot ∙ other.1))
  refused slot e (inr (inr full)) =
      inr (inr (
        full.0,
        kept_takes t marks values own kept slot ∙ full.1,
        ⊎_elim (no_room t marks values own kept slot) (no_place t marks values own kept slot) full.2,
      ))

  pub pushed_open : {U : Type 0} (slot : Slot) (bits : List Bool) (grown : Growing) (r : Result U Error) → TakesSlot marks values slot bits grown r
      → IsPushed (open_of t marks values) slot (open_of t bits grown) r
  pushed_open slot bits grown (Ok u) is =
      let made = kept_one_more t marks values own kept slot bits grown is.0 is.1 is.2 is.3 is.4 in
      (ap (opened t) (kept_slots t bits grown (own ++ slot ∷ []) made), made.fit)
  pushed_open slot bits grown (Err e) is =
      (ap₂ (λ (b : List Bool) v. open_of t b v) is.0 is.1, refused slot e is.2)

  -- the first slots
  pub first_kept : (n : ℕ) (bits : List Bool) (grown : Growing) → n ≤ length own → bits ≡ take n marks → grown ≡ first_values values n
      → AreKeptAs t bits grown (slots (kept_column t bits grown))
  first_kept n bits grown le marked held =
      itself bits grown (take n own) (kept_first t marks values own kept n bits grown le marked held)

  pub first_open : (n : ℕ) (bits : List Bool) (grown : Growing) → n ≤ length own → bits ≡ take n marks → grown ≡ first_values values n
      → open_of t bits grown ≡ first_slots (open_of t marks values) n
  first_open n bits grown le marked held =
      ap (opened t) (kept_slots t bits grown (take n own) (kept_first t marks values own kept n bits grown le marked held))

-- ---- one value and its mark

-- the value of one more slot goes again
pub taken_back : (values : Growing) (slot : Slot) (n : ℕ) → HoldsAll values n → takes values slot ≡ true
    → first_values (with_value values slot) n ≡ values
taken_back nothing slot n all taken = refl
taken_back (truths values) slot n all taken = ap truths (take_at values (is_true slot ∷ []) n all)
taken_back (whole kind values) slot n all taken = ap (whole kind) (take_at values (numbers_for kind slot ∷ []) n all)
taken_back (strings of_text is_large values) slot n all taken = ap (strings of_text is_large) (take_at values (content_of slot ∷ []) n all)
taken_back (sized size content) slot n all taken = ap (sized size) (take_at content (fixed_content_of size slot) (size * n) all)

pub one_more_holds : (values : Growing) (slot : Slot) (n : ℕ) → HoldsAll values n → HoldsFirst (with_value values slot) n
one_more_holds nothing slot n all = tt
one_more_holds (truths values) slot n all = let more = length-append values (is_true slot ∷ []) in omega (arith, all, more)
one_more_holds (whole kind values) slot n all = let more = length-append values (numbers_for kind slot ∷ []) in omega (arith, all, more)
one_more_holds (strings of_text is_large values) slot n all = let more = length-append values (content_of slot ∷ []) in omega (arith, all, more)
one_more_holds (sized size content) slot n all = let more = length-append content (fixed_content_of size slot) in omega (arith, all, more)

-- the mark of a slot
pub mark_is : (xs : List Slot) (marks : List Bool) (i : ℕ) (b : Bool) → marks ≡ map is_valid xs → slice_get marks i ≡ Some b
    → b ≡ is_valid (get_or xs i null)
mark_is xs marks i b marked found =
    sym (get_or_from_slice_get marks i b (is_valid null) found) ∙ ap (λ (bits : List Bool). get_or bits i (is_valid null)) marked
    ∙ get_or-map is_valid xs i null

-- ---- nothing yet

module _ (t : DataType) (marks : List Bool) (values : Growing) (none : marks ≡ []) (typed : IsTyped t values) (held : values ≡ values_of values [])
  where
    empty_kept : AreKeptAs t marks values []
    empty_kept = subst (λ (bits : List Bool). AreKeptAs t bits values []) (sym none) (kept_none t values typed held)

    pub new_kept : AreKeptAs t marks values (slots (kept_column t marks values))
    new_kept = subst (AreKeptAs t marks values) (sym (kept_slots t marks values [] empty_kept)) empty_kept

    pub new_open : open_of t marks values ≡ opened t []
    new_open = kept_open t marks values [] empty_kept
