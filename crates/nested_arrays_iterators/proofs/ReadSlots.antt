-- What is read of arrays.
use Rattle.std.proofs.Common.{◌≡◌, ◌∙◌, ℕ, zero, suc, ◌+◌, ◌-◌, ◌*◌, ◌<◌, ◌≤◌, List, [], ◌∷◌, length, get_or, map, refl, sym, ap, subst, arith}
use Rattle.std.proofs.Common.{true}
use Rattle.std.specs.Prelude.{Bool, Option, Some, None, ◌==◌, slice_get}
use Rattle.std.specs.List.{All}
use Rattle.std.proofs.lemmas.Bool.{and_parts, eqb-true}
use Rattle.nested_arrays_core.proofs.columnar_memory_lemmas.bitmap_lemmas.Lists.{slice_get-window, slice_get-window_past}
use Rattle.nested_arrays_core.specs.columnar_memory.Spans.{Spans, offsets_of, offset_at, last_of}
use Rattle.nested_arrays_core.specs.columnar_memory.declared.DataType.{DataType}
use Rattle.nested_arrays_core.proofs.columns_lemmas.Conditions.{parts_of_4}
use Rattle.nested_arrays_core.proofs.columns_lemmas.CutLengths.{column_len-cut}
use Rattle.nested_arrays_core.proofs.columns_lemmas.Cuts.{slot_at-cut}
use Rattle.nested_arrays_core.proofs.columns_lemmas.Windows.{window_same}
use Rattle.nested_arrays_core.specs.columns.Slots.{Slot, items, fields, slot_then, in_slots, window}
use Rattle.nested_arrays_core.specs.columns.SoundColumns.{are_sound, has_field_types, have_len, is_sound, mask_fits}
use Rattle.nested_arrays_core.specs.columns.StoredColumns.{Column, lists, fixed_lists, records, column_len, cut, in_columns, slot_at, slots, slots_at}
use Rattle.nested_arrays_core.specs.columns.StoredColumns.{type_layer}
use Rattle.nested_arrays_core.proofs.flat_lemmas.Offsets.{get_or-offsets_of}
use Rattle.nested_arrays_iterators.specs.ReadValues.{IsList, IsListBetween, IsRow}

-- ---- parts

-- the slots of a part are those of its array from its first place on
pub part_slots : (c : Column) (o n : ℕ) → is_sound c ≡ true → o + n ≤ column_len c → slots (cut c o n) ≡ window (slot_at c) o n
part_slots c o n sound within =
    ap (window (slot_at (cut c o n)) 0) (column_len-cut c o n sound within)
    ∙ window_same (slot_at (cut c o n)) (slot_at c) 0 o n (λ i small. ap (slot_at (cut c o n)) (omega arith) ∙ slot_at-cut c o n i small)

pub part_len : (p c : Column) (o n : ℕ) → cut c o n ≡ p → is_sound c ≡ true → o + n ≤ column_len c → column_len p ≡ n
part_len p c o n is sound within = ap column_len (sym is) ∙ column_len-cut c o n sound within

-- a slot of a part is one of its array
pub part_slot : (p c : Column) (o n i : ℕ) → cut c o n ≡ p → is_sound c ≡ true → o + n ≤ column_len c → i < column_len p
    → (o + i < column_len c) × (slot_at c (o + i) ≡ slot_at p i)
part_slot p c o n i is sound within h =
    let len = part_len p c o n is sound within in
    (omega arith, sym (slot_at-cut c o n i (omega arith)) ∙ ap (λ d. slot_at d i) is)

pub slot_found : (p : Column) (i : ℕ) (slot : Slot) → i < column_len p → slot ≡ slot_at p i → Some slot ≡ slice_get (slots p) i
slot_found p i slot h is = ap Some (is ∙ ap (slot_at p) (omega arith)) ∙ sym (slice_get-window (slot_at p) 0 (column_len p) i h)

pub no_slot_past : (p : Column) (i : ℕ) → column_len p ≤ i → None ≡ slice_get (slots p) i
no_slot_past p i h = sym (slice_get-window_past (slot_at p) 0 (column_len p) i h)

-- ---- lists

pub list_between : (s : Spans) (child part : Column) (i start stop : ℕ) → is_sound child ≡ true → last_of s ≤ column_len child
    → i < length s.lengths → start ≡ offset_at s i → stop ≡ offset_at s (i + 1) → start ≤ stop → stop ≤ last_of s
    → part ≡ cut child start (stop - start) → IsListBetween s child i part
list_between s child part i start stop sound end h first last ordered within is data_type mask =
    let from : get_or (offsets_of s) i 0 ≡ start = get_or-offsets_of s i (omega arith) ∙ sym first in
    let to : get_or (offsets_of s) (i + 1) 0 ≡ stop = get_or-offsets_of s (i + 1) (omega arith) ∙ sym last in
    let inside : start + (stop - start) ≤ column_len child = omega arith in (
      (λ j. items (in_slots (window (slot_at child) (from j) (to j - from j))))
          ∙ sym (ap (λ xs. items (in_slots xs)) (ap slots is ∙ part_slots child start (stop - start) sound inside)),
      is ∙ sym (λ j. cut child (from j) (to j - from j)),
    )

-- lists of one size
pub fixed_list : (c : Column) (t : DataType) (mask : Option (List Bool)) (size : ℕ) (child part : Column) (i : ℕ)
    → c ≡ fixed_lists t mask size child → is_sound child ≡ true → size * i + size ≤ column_len child → part ≡ cut child (size * i) size
    → IsList c i part
fixed_list c t mask size child part i is sound within cuts =
    subst (λ (d : Column). IsList d i part) (sym is)
    (sym (ap (λ xs. items (in_slots xs)) (ap slots cuts ∙ part_slots child (size * i) size sound within)), cuts)

-- ---- structs

row_there : (columns : List Column) (i : ℕ) → slots_at (in_columns columns) i ≡ in_slots (map (λ c. slot_at c i) columns)
row_there [] i = refl
row_there (column ∷ columns) i = ap (slot_then (slot_at column i)) (row_there columns i)

pub struct_row : (c : Column) (t : DataType) (mask : Option (List Bool)) (n : ℕ) (columns : List Column) (row : List Slot) (i : ℕ)
    → c ≡ records t mask n (in_columns columns) → row ≡ map (λ d. slot_at d i) columns → IsRow c i row
struct_row c t mask n columns row i is reads =
    subst (λ (d : Column). IsRow d i row) (sym is) (ap fields (row_there columns i ∙ sym (ap in_slots reads)))

each_place : (columns : List Column) (n i : ℕ) → have_len (in_columns columns) n ≡ true → i < n → All (λ c. i < column_len c) columns
each_place [] n i long h k d small = absurd (omega arith)
each_place (column ∷ columns) n i long h zero d small =
    let parts = and_parts (column_len column == n) (have_len (in_columns columns) n) long in
    omega (arith, h, eqb-true (column_len column) n parts.0)
each_place (column ∷ columns) n i long h (suc k) d small =
    each_place columns n i (and_parts (column_len column == n) (have_len (in_columns columns) n) long).1 h k d (omega arith)

-- each child of a struct has the struct's places
pub struct_places : (c : Column) (t : DataType) (mask : Option (List Bool)) (n : ℕ) (columns : List Column) (i : ℕ)
    → c ≡ records t mask n (in_columns columns) → is_sound c ≡ true → i < column_len c → All (λ d. i < column_len d) columns
struct_places c t mask n columns i is sound h =
    let children = in_columns columns in
    let count : column_len c ≡ n = ap column_len is in
    let parts = parts_of_4 (has_field_types (type_layer t) children) (have_len children n) (mask_fits mask n) (are_sound children)
    (ap is_sound (sym is) ∙ sound) in
    each_place columns n i parts.1 (omega arith)
