-- Where the slots inside a slot stand, and of which class slots are.
use Rattle.std.proofs.Common.{◌≡◌, ◌∙◌, ◌<◌, ◌≤◌, ◌+◌, ◌-◌, ◌*◌, ℕ, ℤ, zero, suc, List, [], ◌∷◌, Bool, true, false, refl, sym, ap, arith, subst}
use Rattle.std.proofs.Common.{get_or, length}
use Rattle.std.specs.Prelude.{◌⊎◌, ◌==◌, ◌/◌, Option, pos, slice_index, slice_index_or, if◌then◌else◌}
use Rattle.std.proofs.lemmas.Bool.{and_parts, eqb-true, ltb-true}
use mathlib.Core.Logic.{inl, inr}
use Rattle.nested_arrays_parts.specs.columnar_memory.declared.DataType.{DataType}
use Rattle.nested_arrays_parts.specs.columnar_memory.Spans.{Spans, offsets_of, offset_at, last_of}
use Rattle.nested_arrays_parts.proofs.columns_lemmas.Conditions.{parts_of_4}
use Rattle.nested_arrays_parts.specs.columns.Slots.{Slot, null, truth, number, pair, triple, text, bytes, items, fields, pick, in_slots, window}
use Rattle.nested_arrays_parts.specs.columns.SoundColumns.{are_sound, column_lens, has_child_at, has_field_types, have_len, is_sound, mask_fits}
use Rattle.nested_arrays_parts.specs.columns.StoredColumns.{Column, Columns, nulls, flat, lists, fixed_lists, records, unions, dictionary, no_column}
use Rattle.nested_arrays_parts.specs.columns.StoredColumns.{column_then, column_len, column_size, column_type, columns_size, in_columns, is_valid_at}
use Rattle.nested_arrays_parts.specs.columns.StoredColumns.{picked_at, slot_at, slots_at, type_layer, union_place, child_number}
use Rattle.nested_arrays_parts.specs.columns.StoredColumns.{Stored, bits, numbers, pairs, triples, texts, byte_strings, fixed_bytes, stored_at}
use Rattle.nested_arrays_parts.proofs.SameForms.{valid_slot, null_slot}
use Rattle.nested_arrays_parts.specs.Forms.{column_form}
use Rattle.nested_arrays_parts.proofs.flat_lemmas.FixedWidths.{string_within}
use Rattle.nested_arrays_parts.proofs.flat_lemmas.Offsets.{get_or-offsets_of}
use Rattle.nested_arrays_parts.specs.flat.ColumnMasks.{column_mask}
use Rattle.nested_arrays_parts.proofs.OffsetLists.{spans_count}
use Rattle.nested_arrays_arrays.proofs.CutNodes.{one_size}
use Rattle.nested_arrays_arrays.proofs.ListParts.{lists_parts}
use Rattle.nested_arrays_arrays.specs.Parts.{column_children, column_ids, column_places}
use Rattle.nested_arrays_arrays.specs.Places.{AreFields, AreItems, AreRecords, HavePlace, HaveRange, IsKeyless, IsPick, column_class, slot_class}

-- ---- classes

stored_class : (stored : Stored) (i : ℕ) → slot_class (stored_at stored i) ≡ 1
stored_class (bits values) i = refl
stored_class (numbers kind values) i = refl
stored_class (pairs kind values) i = refl
stored_class (triples kind values) i = refl
stored_class (texts offsets content) i = refl
stored_class (byte_strings offsets content) i = refl
stored_class (fixed_bytes size content) i = refl

masked_class : (b : Bool) (slot : Slot) (k : ℕ) → slot_class slot ≡ k
    → (slot_class (if b then slot else null) ≡ 0) ⊎ (slot_class (if b then slot else null) ≡ k)
masked_class true slot k is = inr is
masked_class false slot k is = inl refl

picked_class : (children : Columns) (k i : ℕ) → (slot_class (picked_at children k i) ≡ 0) ⊎ (slot_class (picked_at children k i) ≡ 4)
picked_class no_column k i = inl refl
picked_class (column_then column columns) zero i = inr refl
picked_class (column_then column columns) (suc k) i = picked_class columns k i

-- a slot is null or of its column's class
pub null_or_class : (c : Column) (i : ℕ) → IsKeyless c i → (slot_class (slot_at c i) ≡ 0) ⊎ (slot_class (slot_at c i) ≡ column_class c)
null_or_class (nulls t n) i keyless = inl refl
null_or_class (flat t mask stored) i keyless = masked_class (is_valid_at mask i) (stored_at stored i) 1 (stored_class stored i)
null_or_class (lists t mask offsets child) i keyless = masked_class (is_valid_at mask i)
    (items (in_slots (window (slot_at child) (slice_index offsets i) (slice_index offsets (i + 1) - slice_index offsets i)))) 2 refl
null_or_class (fixed_lists t mask size child) i keyless = masked_class (is_valid_at mask i)
    (items (in_slots (window (slot_at child) (size * i) size))) 2 refl
null_or_class (records t mask n children) i keyless = masked_class (is_valid_at mask i) (fields (slots_at children i)) 3 refl
null_or_class (unions t ids offsets children) i keyless =
    picked_class children (child_number (type_layer t) (slice_index_or ids i (pos 0))) (union_place offsets i)
null_or_class (dictionary t mask keys values) i keyless = inl (ap slot_class (null_slot (dictionary t mask keys values) i keyless))

-- a column without children has values alone
pub flat_class : (c : Column) → column_form c ≤ 4 → column_class c ≡ 1
flat_class (nulls t n) h = refl
flat_class (flat t mask stored) h = refl
flat_class _ h = absurd (omega arith)

pub unset_class : (c : Column) (i : ℕ) → is_valid_at (column_mask c) i ≡ false → slot_class (slot_at c i) ≡ 0
unset_class c i h = ap slot_class (null_slot c i h)

pub null_class : (slot : Slot) → slot_class slot ≡ 0 → slot ≡ null
null_class null h = refl
null_class _ h = absurd (omega arith)

-- the slots of a column that no key names are of four classes, or null
pub class_bound : (slot : Slot) → slot_class slot ≤ 4
class_bound null = omega arith
class_bound (truth b) = omega arith
class_bound (number kind n) = omega arith
class_bound (pair kind a b) = omega arith
class_bound (triple kind a b c) = omega arith
class_bound (text content) = omega arith
class_bound (bytes content) = omega arith
class_bound (items slots) = omega arith
class_bound (fields slots) = omega arith
class_bound (pick data_type slot) = omega arith

pub ruleset classes = (null_or_class, flat_class, unset_class, null_class)

-- ---- items

pub list_there : (t : DataType) (mask : Option (List Bool)) (s : Spans) (child : Column) (i start stop : ℕ)
    → is_sound (lists t mask (offsets_of s) child) ≡ true → i < column_len (lists t mask (offsets_of s) child) → is_valid_at mask i ≡ true
    → start ≡ offset_at s i → stop ≡ offset_at s (i + 1) → start ≤ stop → stop ≤ last_of s
    → AreItems (lists t mask (offsets_of s) child) i child start (stop - start)
list_there t mask s child i start stop sound h valid first last ordered end =
    let from : get_or (offsets_of s) i 0 ≡ start = get_or-offsets_of s i (omega (arith, h, spans_count s)) ∙ sym first in
    let to : get_or (offsets_of s) (i + 1) 0 ≡ stop = get_or-offsets_of s (i + 1) (omega (arith, h, spans_count s)) ∙ sym last in
    let parts = lists_parts t mask s child sound in record {
      shown = valid_slot (lists t mask (offsets_of s) child) i valid
          ∙ (λ j. items (in_slots (window (slot_at child) (from j) (to j - from j))));
      within = omega (arith, ordered, end, parts.1);
      smaller = omega arith;
    }

fixed_there : (t : DataType) (mask : Option (List Bool)) (size : ℕ) (child : Column) (i : ℕ) → i < column_len child / size
    → is_valid_at mask i ≡ true → AreItems (fixed_lists t mask size child) i child (size * i) size
fixed_there t mask size child i h valid = record {
  shown = valid_slot (fixed_lists t mask size child) i valid;
  within = string_within size (column_len child) i h;
  smaller = omega arith;
}

pub fixed_items : (c : Column) (t : DataType) (mask : Option (List Bool)) (size : ℕ) (child : Column) (i : ℕ) → c ≡ fixed_lists t mask size child
    → i < column_len c → is_valid_at (column_mask c) i ≡ true → AreItems c i child (size * i) size
fixed_items c t mask size child i is h valid =
    let len : column_len c ≡ column_len child / size = ap column_len is in
    subst (λ (d : Column). AreItems d i child (size * i) size) (sym is)
    (fixed_there t mask size child i (omega (arith, h, len)) (ap (λ d. is_valid_at (column_mask d) i) (sym is) ∙ valid))

pub map_items : (c : Column) (t : DataType) (mask : Option (List Bool)) (s : Spans) (child : Column) (i start stop : ℕ)
    → c ≡ lists t mask (offsets_of s) child → is_sound c ≡ true → i < column_len c → is_valid_at (column_mask c) i ≡ true
    → start ≡ offset_at s i → stop ≡ offset_at s (i + 1) → start ≤ stop → stop ≤ last_of s → AreItems c i child start (stop - start)
map_items c t mask s child i start stop is sound h valid first last ordered end =
    let len : column_len c ≡ column_len (lists t mask (offsets_of s) child) = ap column_len is in
    subst (λ (d : Column). AreItems d i child start (stop - start)) (sym is)
    (list_there t mask s child i start stop (ap is_sound (sym is) ∙ sound) (omega (arith, h, len))
    (ap (λ d. is_valid_at (column_mask d) i) (sym is) ∙ valid) first last ordered end)

-- ---- fields

each_place : (children : Columns) (n i : ℕ) → have_len children n ≡ true → i < n → HavePlace children i
each_place no_column n i long h = tt
each_place (column_then column columns) n i long h =
    let parts = and_parts (column_len column == n) (have_len columns n) long in
    (omega (arith, h, eqb-true (column_len column) n parts.0), each_place columns n i parts.1 h)

fields_there : (t : DataType) (mask : Option (List Bool)) (n : ℕ) (children : Columns) (i : ℕ) → is_sound (records t mask n children) ≡ true
    → i < n → is_valid_at mask i ≡ true → AreFields (records t mask n children) i children
fields_there t mask n children i sound h valid =
    let parts = parts_of_4 (has_field_types (type_layer t) children) (have_len children n) (mask_fits mask n) (are_sound children) sound in record {
      shown = valid_slot (records t mask n children) i valid;
      places = each_place children n i parts.1 h;
      smaller = omega arith;
    }

pub struct_fields : (c : Column) (t : DataType) (mask : Option (List Bool)) (n : ℕ) (children : Columns) (i : ℕ) → c ≡ records t mask n children
    → is_sound c ≡ true → i < column_len c → is_valid_at (column_mask c) i ≡ true → AreFields c i children
struct_fields c t mask n children i is sound h valid =
    let len : column_len c ≡ n = ap column_len is in
    subst (λ (d : Column). AreFields d i children) (sym is)
    (fields_there t mask n children i (ap is_sound (sym is) ∙ sound) (omega (arith, h, len))
    (ap (λ d. is_valid_at (column_mask d) i) (sym is) ∙ valid))

-- ---- picks

pub child_there : (columns : List Column) (k place : ℕ) → place < slice_index (column_lens (in_columns columns)) k → k < length columns
child_there [] k place h = absurd (omega arith)
child_there (column ∷ columns) zero place h = omega arith
child_there (column ∷ columns) (suc k) place h = omega (arith, child_there columns k place h)

room_there : (columns : List Column) (k : ℕ) (d : Column) → k < length columns
    → slice_index (column_lens (in_columns columns)) k ≡ column_len (get_or columns k d)
room_there [] k d h = absurd (omega arith)
room_there (column ∷ columns) zero d h = refl
room_there (column ∷ columns) (suc k) d h = room_there columns k d (omega arith)

pick_there : (columns : List Column) (k place : ℕ) (d : Column) → k < length columns
    → picked_at (in_columns columns) k place ≡ pick (column_type (get_or columns k d)) (slot_at (get_or columns k d) place)
pick_there [] k place d h = absurd (omega arith)
pick_there (column ∷ columns) zero place d h = refl
pick_there (column ∷ columns) (suc k) place d h = pick_there columns k place d (omega arith)

-- what is known of the child that a slot picks
pub place_there : (c : Column) (columns : List Column) (t : DataType) (ids : List ℤ) (offsets : Option (List ℤ)) (i k place : ℕ)
    → c ≡ unions t ids offsets (in_columns columns)
    → k ≡ child_number (type_layer (column_type c)) (slice_index_or (column_ids c) i (pos 0)) → place ≡ union_place (column_places c) i
    → has_child_at (type_layer (column_type c)) (column_ids c) (column_places c) (column_children c) i ≡ true
    → place < slice_index (column_lens (in_columns columns)) k
place_there c columns t ids offsets i k place is numbered placed within =
    let number = child_number (type_layer (column_type c)) (slice_index_or (column_ids c) i (pos 0)) in
    let room : slice_index (column_lens (column_children c)) number ≡ slice_index (column_lens (in_columns columns)) k =
    λ j. slice_index (column_lens (column_children (is j))) (sym numbered j) in
    omega (arith, placed, room, ltb-true (union_place (column_places c) i) (slice_index (column_lens (column_children c)) number) within)

pub union_pick : (c : Column) (columns : List Column) (t : DataType) (ids : List ℤ) (offsets : Option (List ℤ)) (i k place : ℕ) (child : Column)
    → c ≡ unions t ids offsets (in_columns columns) → slot_at c i ≡ picked_at (column_children c) k place
    → place < slice_index (column_lens (in_columns columns)) k → child ≡ get_or columns k child → IsPick c i child place
union_pick c columns t ids offsets i k place child is slot room found =
    let h = child_there columns k place room in
    let size : column_size c ≡ columns_size (in_columns columns) + 1 = ap column_size is in
    let same : column_size child ≡ column_size (get_or columns k child) = ap column_size found in
    let len : column_len child ≡ column_len (get_or columns k child) = ap column_len found in record {
      shown = slot ∙ ap (λ d. picked_at (column_children d) k place) is ∙ pick_there columns k place child h
          ∙ ap (λ d. pick (column_type d) (slot_at d place)) (sym found);
      within = omega (arith, room, room_there columns k child h, len);
      smaller = omega (arith, size, same, one_size columns k child h);
    }

-- ---- ranges of records

each_range : (children : Columns) (len i n : ℕ) → have_len children len ≡ true → i + n ≤ len → HaveRange children i n
each_range no_column len i n long h = tt
each_range (column_then column columns) len i n long h =
    let parts = and_parts (column_len column == len) (have_len columns len) long in
    (omega (arith, h, eqb-true (column_len column) len parts.0), each_range columns len i n parts.1 h)

range_there : (t : DataType) (mask : Option (List Bool)) (len : ℕ) (children : Columns) (i n : ℕ) → is_sound (records t mask len children) ≡ true
    → i + n ≤ len → ((k : ℕ) → k < n → is_valid_at mask (i + k) ≡ true) → AreRecords (records t mask len children) i n children
range_there t mask len children i n sound h valid =
    let parts = parts_of_4 (has_field_types (type_layer t) children) (have_len children len) (mask_fits mask len) (are_sound children) sound in
    record {
      shown = λ k small. valid_slot (records t mask len children) (i + k) (valid k small);
      ranges = each_range children len i n parts.1 h;
      smaller = omega arith;
    }

pub struct_range : (c : Column) (t : DataType) (mask : Option (List Bool)) (len : ℕ) (children : Columns) (i n : ℕ)
    → c ≡ records t mask len children → is_sound c ≡ true → i + n ≤ column_len c
    → ((k : ℕ) → k < n → is_valid_at (column_mask c) (i + k) ≡ true) → AreRecords c i n children
struct_range c t mask len children i n is sound h valid =
    let same : column_len c ≡ len = ap column_len is in
    subst (λ (d : Column). AreRecords d i n children) (sym is)
    (range_there t mask len children i n (ap is_sound (sym is) ∙ sound) (omega (arith, h, same))
    (λ k small. ap (λ d. is_valid_at (column_mask d) (i + k)) (sym is) ∙ valid k small))
