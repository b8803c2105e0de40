-- Columns of byte strings of one size whose slots stand one behind the other.
use Rattle.std.proofs.Common.{◌≡◌, ◌≢◌, ◌∙◌, ◌<◌, ◌≤◌, ◌+◌, ◌*◌, ℕ, List, [], ◌++◌, length, Bool, true, false, refl, sym, ap, subst, arith}
use Rattle.std.specs.Prelude.{Option, ◌&&◌, ◌==◌, ◌/◌, ◌⊎◌, nat_le, slice_range, Result, Ok, Err}
use Rattle.std.specs.List.{flat_map, list_all}
use Rattle.std.proofs.Math.Nat.{mul-add, mul-div_cancel_left}
use Rattle.std.proofs.lemmas.Bool.{and_from, and_parts, eq-eqb, eqb-true, le-leb}
use Rattle.std.proofs.lemmas.Grind.{flat_map-append}
use Rattle.std.proofs.lemmas.List.{length-append}
use mathlib.Core.Logic.{inl, inr}
use Rattle.nested_arrays_sized_builders.specs.nulls.columnar_memory.declared.DataType.{DataType}
use Rattle.nested_arrays_sized_builders.specs.nulls.columnar_memory.declared.DataType.TheOpen as layer
use Rattle.nested_arrays_sized_builders.specs.nulls.columnar_memory.declared.Error.{Error}
use Rattle.nested_arrays_sized_builders.specs.nulls.columnar_memory.declared.PhysicalType.{PhysicalType}
use Rattle.nested_arrays_sized_builders.specs.nulls.columnar_memory.declared.PhysicalType.TheVariants as physical
use Rattle.nested_arrays_sized_builders.specs.nulls.columnar_memory.Error.{IsInvalidArgument, IsOutOfMemory, IsOverflow}
use Rattle.nested_arrays_sized_builders.specs.nulls.columnar_memory.Layouts.{physical_type}
use Rattle.nested_arrays_sized_builders.specs.nulls.columns.Cells.{is_bytes_of}
use Rattle.nested_arrays_sized_builders.specs.nulls.columns.FreshColumns.{fixed_content_of}
use Rattle.nested_arrays_sized_builders.specs.nulls.columns.Kinds.{most_slots}
use Rattle.nested_arrays_sized_builders.specs.nulls.columns.OpenBatch.{fits}
use Rattle.nested_arrays_sized_builders.specs.nulls.columns.Slots.{bytes}
use Rattle.nested_arrays_sized_builders.specs.nulls.columns.SoundColumns.{are_pieces, has_size, is_byte, is_sound, is_stored_as, mask_fits}
use Rattle.nested_arrays_sized_builders.specs.nulls.columns.StoredColumns.{Column, Stored, column_len, fixed_bytes, flat, slots}
use Rattle.nested_arrays_sized_builders.specs.nulls.columns.StoredColumns.{type_layer}
use Rattle.nested_arrays_sized_builders.specs.nulls.flat.FlatColumns.{byte_width}
use Rattle.nested_arrays_sized_builders.specs.flat_arrays.Flat.{marks}
use Rattle.nested_arrays_sized_builders.specs.flat_arrays.Growth.{with_marks}
use Rattle.nested_arrays_sized_builders.specs.cells.parts.Marks.{mask_of_marks}
use Rattle.nested_arrays_sized_builders.specs.cells.taken.OpenColumns.{Becomes}
use Rattle.nested_arrays_sized_builders.specs.SizedStrings.{JoinsStrings, SizedParts, sized_column, with_strings}
use Rattle.nested_arrays_sized_builders.proofs.columns_lemmas.Fits.{fits_fixed_binary}
use Rattle.nested_arrays_sized_builders.proofs.columns_lemmas.LayerParts.{fresh_fixed_binary}
use Rattle.nested_arrays_sized_builders.proofs.columns_lemmas.TypeSteps.{layout_by_layer}
use Rattle.nested_arrays_sized_builders.proofs.nulls_lemmas.arrays_lemmas.columns_lemmas.Conditions.{parts_of_3}
use Rattle.nested_arrays_sized_builders.proofs.nulls_lemmas.arrays_lemmas.columns_lemmas.FreshLengths.{Layer}
use Rattle.nested_arrays_sized_builders.proofs.SizedColumns.{content_at, same_with_more, sized_layer}
use Rattle.nested_arrays_sized_builders.proofs.taken_lemmas.FlatSlots.{unchanged}
use Rattle.nested_arrays_dictionary_builders.specs.JoinedColumns.{AddsColumn, AreApart, Joins}
use Rattle.nested_arrays_dictionary_builders.proofs.JoinedFlats.{all_both, both_fit}
use Rattle.nested_arrays_dictionary_builders.proofs.JoinedMarks.{mask_of_marks_both}
use Rattle.nested_arrays_dictionary_builders.proofs.JoinedSlots.{JoinsStored, both_join, too_many}
use Rattle.nested_arrays_dictionary_builders.proofs.JoinedStrings.{range_behind}
use Rattle.nested_arrays_dictionary_builders.proofs.OpenParts.{marks_fit}

abbrev bytes_in : Stored → List ℕ
bytes_in (fixed_bytes size content) = content
bytes_in _ = []

-- bytes one behind the other
abbrev join : List ℕ → List ℕ → List ℕ
join x y = x ++ y

module _ (size : ℕ) (some : 0 < size) where
  abbrev count : List ℕ → ℕ
  count x = length x / size

  -- a whole number of strings
  abbrev IsWhole : List ℕ → Type 0
  IsWhole x = size * count x ≡ length x

  both_long : (x y : List ℕ) → IsWhole x → IsWhole y → length (x ++ y) ≡ size * (count x + count y)
  both_long x y whole other = omega (arith, length-append x y, whole, other, mul-add size (count x) (count y))

  both_count : (x y : List ℕ) → IsWhole x → IsWhole y → count (x ++ y) ≡ count x + count y
  both_count x y whole other =
      ap (λ (n : ℕ). n / size) (both_long x y whole other) ∙ mul-div_cancel_left (count x + count y) {n = size} some

  both_whole : (x y : List ℕ) → IsWhole x → IsWhole y → IsWhole (x ++ y)
  both_whole x y whole other = ap (λ (n : ℕ). size * n) (both_count x y whole other) ∙ sym (both_long x y whole other)

  string_behind : (x y : List ℕ) (i : ℕ) → IsWhole x → content_at size (x ++ y) (count x + i) ≡ content_at size y i
  string_behind x y i whole =
      let start : size * (count x + i) ≡ length x + size * i = omega (arith, whole, mul-add size (count x) i) in
      let end : size * (count x + i) + size ≡ length x + (size * i + size) = omega (arith, start) in
      ap bytes (λ j. slice_range (x ++ y) (start j) (end j)) ∙ ap bytes (range_behind x y (size * i) (size * i + size))

  module _ (t : DataType) (is : type_layer t ≡ layer.FixedSizeBinary size) where
    lies : physical_type t ≡ physical.FixedSizeBinary
    lies = layout_by_layer t (layer.FixedSizeBinary size) is

    sized : (x : List ℕ) → has_size (type_layer t) (fixed_bytes size x) ≡ true
    sized x = ap (λ (l : Layer). has_size l (fixed_bytes size x)) is ∙ eq-eqb size size refl

    stored_is : (x : List ℕ) → is_stored_as (physical_type t) (fixed_bytes size x) ≡ (are_pieces size (length x) && list_all is_byte x)
    stored_is x = ap (λ (l : PhysicalType). is_stored_as l (fixed_bytes size x)) lies

    pieces : (x : List ℕ) → IsWhole x → are_pieces size (length x) ≡ true
    pieces x whole =
        and_from (nat_le 1 size) (size * count x == length x) (le-leb 1 size (omega (arith, some))) (eq-eqb (size * count x) (length x) whole)

    both_stored : (x y : List ℕ) → IsWhole x → IsWhole y → is_stored_as (physical_type t) (fixed_bytes size x) ≡ true
        → is_stored_as (physical_type t) (fixed_bytes size y) ≡ true → is_stored_as (physical_type t) (fixed_bytes size (x ++ y)) ≡ true
    both_stored x y whole other h g =
        let own = and_parts (are_pieces size (length x)) (list_all is_byte x) (sym (stored_is x) ∙ h) in
        let more = and_parts (are_pieces size (length y)) (list_all is_byte y) (sym (stored_is y) ∙ g) in
        stored_is (x ++ y)
        ∙ and_from (are_pieces size (length (x ++ y))) (list_all is_byte (x ++ y)) (pieces (x ++ y) (both_whole x y whole other))
        (all_both is_byte x y own.1 more.1)

    sized_join : JoinsStored t (fixed_bytes size) bytes_in count join (flat_map (fixed_content_of size)) IsWhole (λ _ _. Unit {0})
    sized_join = record {
      long = λ x whole. refl;
      back = λ x. refl;
      sized = sized;
      whole = both_whole;
      both = both_count;
      before = λ x y whole other i h. same_with_more size (count x) x y i (sym whole) h;
      behind = λ x y whole other i h. string_behind x y i whole;
      sound = λ x y whole other room. both_stored x y whole other;
      stores = fresh_fixed_binary t size is;
      of_both = λ xs ys. sym (flat_map-append (fixed_content_of size) xs ys);
      room = λ xs ys h g few room. both_fit t (is_bytes_of size) (fits_fixed_binary t size is) xs ys h g few;
    }

-- what a sound column of strings holds
sound_whole : (t : DataType) (size : ℕ) (content : List ℕ) (ms : List Bool) → type_layer t ≡ layer.FixedSizeBinary size
    → is_sound (flat t (mask_of_marks ms) (fixed_bytes size content)) ≡ true → size * (length content / size) ≡ length content
sound_whole t size content ms is h =
    let s = fixed_bytes size content in
    let stored = (parts_of_3 (is_stored_as (physical_type t) s) (has_size (type_layer t) s)
    (mask_fits (mask_of_marks ms) (length content / size)) h).0 in
    let lies = layout_by_layer t (layer.FixedSizeBinary size) is in
    let own = and_parts (are_pieces size (length content)) (list_all is_byte content)
    (sym (ap (λ (l : PhysicalType). is_stored_as l s) lies) ∙ stored) in
    eqb-true (size * (length content / size)) (length content)
    (and_parts (nat_le 1 size) (size * (length content / size) == length content) own.0).1

module _ (old other : SizedParts) (some : 0 < byte_width old.data_type) (other_some : 0 < byte_width other.data_type)
    (counted : length old.marks ≡ column_len (sized_column old)) (other_counted : length other.marks ≡ column_len (sized_column other))
    (sound : is_sound (sized_column old) ≡ true) (other_sound : is_sound (sized_column other) ≡ true) where
  -- of strings of one size
  module _ (same : byte_width other.data_type ≡ byte_width old.data_type) where
    abbrev size : ℕ
    size = byte_width old.data_type

    abbrev t : DataType
    t = old.data_type

    is : type_layer old.data_type ≡ layer.FixedSizeBinary (byte_width old.data_type)
    is = sized_layer (type_layer old.data_type) some

    other_is : type_layer other.data_type ≡ layer.FixedSizeBinary (byte_width old.data_type)
    other_is = sized_layer (type_layer other.data_type) other_some ∙ ap (λ (n : ℕ). layer.FixedSizeBinary n) same

    alike : physical_type other.data_type ≡ physical_type old.data_type
    alike =
        layout_by_layer other.data_type (layer.FixedSizeBinary size) other_is ∙ sym (layout_by_layer t (layer.FixedSizeBinary size) is)

    abbrev second : Column
    second = flat other.data_type (mask_of_marks other.marks) (fixed_bytes size other.content)

    second_is : second ≡ sized_column other
    second_is = ap (λ (n : ℕ). flat other.data_type (mask_of_marks other.marks) (fixed_bytes n other.content)) (sym same)

    whole : size * (length old.content / size) ≡ length old.content
    whole = sound_whole t size old.content old.marks is sound

    other_whole : size * (length other.content / size) ≡ length other.content
    other_whole = sound_whole other.data_type size other.content other.marks other_is (ap is_sound second_is ∙ other_sound)

    marked : length old.marks ≡ length old.content / size
    marked = counted

    other_marked : length other.marks ≡ length other.content / size
    other_marked = other_counted ∙ ap (λ (n : ℕ). length other.content / n) same

    abbrev grown_by : Column
    grown_by = flat t (with_marks (count size some old.content) (mask_of_marks old.marks)
        (marks (count size some other.content) (mask_of_marks other.marks))) (fixed_bytes size (old.content ++ other.content))

    grown_is : grown_by ≡ sized_column (with_strings old other)
    grown_is =
        ap (λ (mask : Option (List Bool)). flat t mask (fixed_bytes size (old.content ++ other.content)))
        (mask_of_marks_both old.marks other.marks (length old.content / size) (length other.content / size) marked other_marked)

    strings_join : length old.marks + length other.marks ≤ most_slots
        → Joins (sized_column old) (sized_column other) (sized_column (with_strings old other))
    strings_join few =
        subst (λ (c : Column). Joins (sized_column old) (sized_column other) c) grown_is
        (subst (λ (c : Column). Joins (sized_column old) c grown_by) second_is
        (both_join t (fixed_bytes size) bytes_in (count size some) join (flat_map (fixed_content_of size)) (IsWhole size some)
        (λ _ _. Unit {0}) (sized_join size some t is) other.data_type alike (mask_of_marks old.marks) (mask_of_marks other.marks)
        old.content other.content whole other_whole (marks_fit old.marks (length old.content / size) marked)
        (marks_fit other.marks (length other.content / size) other_marked) tt (omega (arith, few, marked, other_marked))))

    strings_past : most_slots < length old.marks + length other.marks → fits t (slots (sized_column old) ++ slots (sized_column other)) ≡ false
    strings_past past =
        ap (λ (c : Column). fits t (slots (sized_column old) ++ slots c)) (sym second_is)
        ∙ too_many t (fixed_bytes size) bytes_in (count size some) join (flat_map (fixed_content_of size)) (IsWhole size some)
        (λ _ _. Unit {0}) (sized_join size some t is) other.data_type alike (mask_of_marks old.marks) (mask_of_marks other.marks)
        old.content other.content whole other_whole (marks_fit old.marks (length old.content / size) marked)
        (marks_fit other.marks (length other.content / size) other_marked) (omega (arith, past, marked, other_marked))

  pub sized_joined : {U : Type 0} (new : SizedParts) (r : Result U Error) → JoinsStrings old other new r
      → AddsColumn (sized_column old) (sized_column other) (sized_column new) r
  sized_joined new (Ok u) h =
      subst (λ (p : SizedParts). Joins (sized_column old) (sized_column other) (sized_column p)) (sym h.0) (strings_join h.1 h.2)
  sized_joined new (Err e) h = (
    subst (λ (p : SizedParts). Becomes (sized_column old) (slots (sized_column old)) (sized_column p)) (sym h.0) (unchanged (sized_column old)),
    why h.1,
  )
    where
      why : IsOutOfMemory e ⊎ (IsInvalidArgument e × (byte_width other.data_type ≢ byte_width old.data_type))
          ⊎ (IsOverflow e × (byte_width other.data_type ≡ byte_width old.data_type) × (most_slots < length old.marks + length other.marks))
          → AreApart (sized_column old) (sized_column other) e
      why (inl memory) = inl memory
      why (inr (inl unlike)) = inr (inr (unlike.0, λ both. unlike.1 (ap byte_width both.2)))
      why (inr (inr over)) = inr (inl (over.0, λ _. strings_past over.1 over.2))
