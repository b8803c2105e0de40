-- What is cut out of a column: which slots it has.
use Rattle.std.proofs.Common.{◌≡◌, ℕ, zero, suc, ◌+◌, ◌-◌, ◌*◌, ◌≤◌, ◌<◌, List, get_or, refl, sym, ap, ◌∙◌, arith}
use Rattle.std.specs.Prelude.{pos, Bool, false, Option, Some, None, slice_range, if◌then◌else◌}
use Rattle.nested_arrays_columns.specs.Slots.{Slot, null, truth, number, text, bytes, items, fields, pick, slot_then, window, in_slots}
use Rattle.nested_arrays_columns.specs.StoredColumns.{Stored, bits, numbers, pairs, triples, texts, byte_strings, fixed_bytes, Column, Columns}
use Rattle.nested_arrays_columns.specs.StoredColumns.{nulls, flat, lists, fixed_lists, records, unions, dictionary, no_column, column_then}
use Rattle.nested_arrays_columns.specs.StoredColumns.{is_valid_at, unless_null, string_at, pair_slot, triple_slot, stored_at, cut_list, cut_mask}
use Rattle.nested_arrays_columns.specs.StoredColumns.{cut_stored, column_type, place_of, child_number, type_layer, slot_at, slots_at, picked_at}
use Rattle.nested_arrays_columns.specs.StoredColumns.{cut, cut_each}
use Rattle.std.proofs.Math.Nat.{mul-add, mul-le-mul_left}
use Rattle.nested_arrays_columns.proofs.Windows.{get_or-cut_list, cut_list-cut_list, window_same}

-- the mask of a part
pub is_valid_at-cut_mask : (mask : Option (List Bool)) (o n i : ℕ) → i < n → is_valid_at (cut_mask mask o n) i ≡ is_valid_at mask (o + i)
is_valid_at-cut_mask None o n i h = refl
is_valid_at-cut_mask (Some marks) o n i h = get_or-cut_list marks o n i false h

-- slots that agree, under the mask of a part
unless_null-cut_mask : (mask : Option (List Bool)) (o n i : ℕ) (a b : Slot) → i < n → a ≡ b
    → unless_null (cut_mask mask o n) i a ≡ unless_null mask (o + i) b
unless_null-cut_mask mask o n i a b h e = λ j. if is_valid_at-cut_mask mask o n i h j then e j else null

-- the bounds of a string or list of a part
pub offset_of_cut : (offsets : List ℕ) (o n i : ℕ) → i < n → get_or (cut_list offsets o (n + 1)) i 0 ≡ get_or offsets (o + i) 0
offset_of_cut offsets o n i h = get_or-cut_list offsets o (n + 1) i 0 (omega arith)

pub next_offset_of_cut : (offsets : List ℕ) (o n i : ℕ) → i < n → get_or (cut_list offsets o (n + 1)) (i + 1) 0 ≡ get_or offsets (o + i + 1) 0
next_offset_of_cut offsets o n i h =
    let at : o + (i + 1) ≡ o + i + 1 = omega arith in
    get_or-cut_list offsets o (n + 1) (i + 1) 0 (omega arith) ∙ ap (λ k. get_or offsets k 0) at

pub string_at-cut : (offsets content : List ℕ) (o n i : ℕ) → i < n
    → string_at (cut_list offsets o (n + 1)) content i ≡ string_at offsets content (o + i)
string_at-cut offsets content o n i h = λ j. slice_range content (offset_of_cut offsets o n i h j) (next_offset_of_cut offsets o n i h j)

-- one list of a size lies within n of them
room_of_one : (size n i : ℕ) → i < n → size * i + size ≤ size * n
room_of_one size n i h = omega (arith, mul-add size i 1, mul-le-mul_left {m = i + 1} {n = n} size (omega arith))

-- the bytes of a string of a part, where strings have one size
fixed_of_cut : (content : List ℕ) (size o n i : ℕ) → i < n
    → slice_range (cut_list content (size * o) (size * n)) (size * i) (size * i + size) ≡ slice_range content (size * (o + i))
    (size * (o + i) + size)
fixed_of_cut content size o n i h =
    cut_list-cut_list content (size * o) (size * n) (size * i) size (room_of_one size n i h)
    ∙ ap (λ k. cut_list content k size) (sym (mul-add size o i))

stored_at-cut_stored : (stored : Stored) (o n i : ℕ) → i < n → stored_at (cut_stored stored o n) i ≡ stored_at stored (o + i)
stored_at-cut_stored (bits values) o n i h = ap truth (get_or-cut_list values o n i false h)
stored_at-cut_stored (numbers kind values) o n i h = ap (number kind) (get_or-cut_list values o n i (pos 0) h)
stored_at-cut_stored (pairs kind values) o n i h = ap (pair_slot kind) (get_or-cut_list values o n i (pos 0, pos 0) h)
stored_at-cut_stored (triples kind values) o n i h = ap (triple_slot kind) (get_or-cut_list values o n i (pos 0, pos 0, pos 0) h)
stored_at-cut_stored (texts offsets content) o n i h = ap text (string_at-cut offsets content o n i h)
stored_at-cut_stored (byte_strings offsets content) o n i h = ap bytes (string_at-cut offsets content o n i h)
stored_at-cut_stored (fixed_bytes size content) o n i h = ap bytes (fixed_of_cut content size o n i h)

-- the slots of a list of one size, in a part of the child
fixed_list_of_cut : (f g : ℕ → Slot) (size o n i : ℕ) → ((k : ℕ) → k < size * n → f k ≡ g (size * o + k)) → i < n
    → window f (size * i) size ≡ window g (size * (o + i)) size
fixed_list_of_cut f g size o n i same h = window_same f g (size * i) (size * (o + i)) size (λ k small.
    let at : size * o + (size * i + k) ≡ size * (o + i) + k = omega (arith, mul-add size o i) in
    same (size * i + k) (omega (arith, room_of_one size n i h)) ∙ ap g at)

pub column_type-cut : (c : Column) (o n : ℕ) → column_type (cut c o n) ≡ column_type c
column_type-cut (nulls data_type count) o n = refl
column_type-cut (flat data_type mask stored) o n = refl
column_type-cut (lists data_type mask offsets child) o n = refl
column_type-cut (fixed_lists data_type mask size child) o n = refl
column_type-cut (records data_type mask count children) o n = refl
column_type-cut (unions data_type ids None children) o n = refl
column_type-cut (unions data_type ids (Some offsets) children) o n = refl
column_type-cut (dictionary data_type mask keys values) o n = refl

mutual
  -- slot i of a part is slot o + i of the whole
  pub slot_at-cut : (c : Column) (o n i : ℕ) → i < n → slot_at (cut c o n) i ≡ slot_at c (o + i)
  slot_at-cut (nulls data_type count) o n i h = refl
  slot_at-cut (flat data_type mask stored) o n i h = unless_null-cut_mask mask o n i _ _ h (stored_at-cut_stored stored o n i h)
  slot_at-cut (lists data_type mask offsets child) o n i h =
      unless_null-cut_mask mask o n i _ _ h (λ j. items (in_slots
      (window (slot_at child) (offset_of_cut offsets o n i h j) (next_offset_of_cut offsets o n i h j - offset_of_cut offsets o n i h j))))
  slot_at-cut (fixed_lists data_type mask size child) o n i h =
      unless_null-cut_mask mask o n i _ _ h (ap (λ slots. items (in_slots slots))
      (fixed_list_of_cut (slot_at (cut child (size * o) (size * n))) (slot_at child) size o n i (slot_at-cut child (size * o) (size * n)) h))
  slot_at-cut (records data_type mask count children) o n i h = unless_null-cut_mask mask o n i _ _ h (ap fields (slots_at-cut children o n i h))
  slot_at-cut (unions data_type ids None children) o n i h =
      ap (λ id. picked_at (cut_each children o n) (child_number (type_layer data_type) id) i) (get_or-cut_list ids o n i (pos 0) h)
      ∙ picked_at-cut children o n i (child_number (type_layer data_type) (get_or ids (o + i) (pos 0))) h
  slot_at-cut (unions data_type ids (Some offsets) children) o n i h =
      λ j. picked_at children (child_number (type_layer data_type) (get_or-cut_list ids o n i (pos 0) h j))
      (place_of (get_or-cut_list offsets o n i (pos 0) h j))
  slot_at-cut (dictionary data_type mask keys values) o n i h =
      unless_null-cut_mask mask o n i _ _ h (ap (λ key. slot_at values (place_of key)) (get_or-cut_list keys o n i (pos 0) h))

  slots_at-cut : (cs : Columns) (o n i : ℕ) → i < n → slots_at (cut_each cs o n) i ≡ slots_at cs (o + i)
  slots_at-cut no_column o n i h = refl
  slots_at-cut (column_then c cs) o n i h = λ j. slot_then (slot_at-cut c o n i h j) (slots_at-cut cs o n i h j)

  picked_at-cut : (cs : Columns) (o n i k : ℕ) → i < n → picked_at (cut_each cs o n) k i ≡ picked_at cs k (o + i)
  picked_at-cut no_column o n i k h = refl
  picked_at-cut (column_then c cs) o n i zero h = λ j. pick (column_type-cut c o n j) (slot_at-cut c o n i h j)
  picked_at-cut (column_then c cs) o n i (suc k) h = picked_at-cut cs o n i k h
