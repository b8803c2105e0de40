-- The slots of the fields of a struct with one more slot, and of the first ones; and which fields fit.
use Rattle.std.proofs.Common.{◌≡◌, ◌∙◌, ℕ, zero, suc, ◌+◌, ◌<◌, List, [], ◌∷◌, ◌++◌, length, map, take, replicate, get_or, true, false, refl}
use Rattle.std.proofs.Common.{sym, ap, arith, ◌==◌}
use Rattle.std.proofs.lemmas.Bool.{and_parts, and_from, and_left, and_right}
use Rattle.std.proofs.lemmas.List.{map-append, take-map}
use Rattle.nested_arrays_columns.specs.columnar_memory.declared.Field.{Field}
use Rattle.nested_arrays_columns.specs.Children.{slot_number, field_of, field_slots}
use Rattle.nested_arrays_columns.specs.FreshColumns.{fresh}
use Rattle.nested_arrays_columns.specs.OpenBatch.{fits}
use Rattle.nested_arrays_columns.specs.Rows.{columns_fit, fresh_columns}
use Rattle.nested_arrays_columns.specs.Slots.{Slot, Slots, null, fields, no_slot, slot_then, slot_list, in_slots, window}
use Rattle.nested_arrays_columns.specs.StoredColumns.{Column}
use Rattle.nested_arrays_columns.proofs.FreshPlaces.{at_window}
use Rattle.nested_arrays_columns.proofs.Windows.{length-window, window_same}
use Rattle.nested_arrays_columns.specs.OpenParts.{is_record_sized, slots_of_fields, fields_of_slot, pushed_each}
use Rattle.nested_arrays_columns.proofs.Pieces.{listed}

-- ---- one field

pub field_one_more : (xs : List Slot) (s : Slot) (k : ℕ) → field_slots (xs ++ s ∷ []) k ≡ field_slots xs k ++ field_of k s ∷ []
field_one_more xs s k = map-append (field_of k) xs (s ∷ [])

pub field_cut : (n : ℕ) (xs : List Slot) (k : ℕ) → field_slots (take n xs) k ≡ take n (field_slots xs k)
field_cut n xs k = sym (take-map (field_of k) n xs)

-- ---- all fields

pub fields_count : (n : ℕ) (xs : List Slot) → length (slots_of_fields n xs) ≡ n
fields_count n xs = length-window (field_slots xs) 0 n

pub field_at : (n : ℕ) (xs : List Slot) (k : ℕ) (d : List Slot) → k < n → get_or (slots_of_fields n xs) k d ≡ field_slots xs k
field_at n xs k d lt = sym (at_window (field_slots xs) n (slots_of_fields n xs) k d refl lt)

fields_from : (a n : ℕ) (xs : List Slot) (s : Slot)
    → window (field_slots (xs ++ s ∷ [])) a n ≡ pushed_each (window (field_slots xs) a n) (window (λ k. field_of k s) a n)
fields_from a zero xs s = refl
fields_from a (suc n) xs s = λ j. field_one_more xs s a j ∷ fields_from (a + 1) n xs s j

pub fields_one_more : (n : ℕ) (xs : List Slot) (s : Slot) → slots_of_fields n (xs ++ s ∷ []) ≡ pushed_each (slots_of_fields n xs) (fields_of_slot n s)
fields_one_more n xs s = fields_from 0 n xs s

cut_from : (a c n : ℕ) (xs : List Slot) → window (field_slots (take n xs)) a c ≡ map (take n) (window (field_slots xs) a c)
cut_from a zero n xs = refl
cut_from a (suc c) n xs = λ j. field_cut n xs a j ∷ cut_from (a + 1) c n xs j

pub fields_cut : (c n : ℕ) (xs : List Slot) → slots_of_fields c (take n xs) ≡ map (take n) (slots_of_fields c xs)
fields_cut c n xs = cut_from 0 c n xs

-- null brings null to each field
nulls_from : (a n : ℕ) → window (λ k. field_of k null) a n ≡ replicate n null
nulls_from a zero = refl
nulls_from a (suc n) = ap (λ rest. null ∷ rest) (nulls_from (a + 1) n)

pub fields_of_null : (n : ℕ) → fields_of_slot n null ≡ replicate n null
fields_of_null n = nulls_from 0 n

-- a record brings its fields
record_from : (ys : Slots) → window (λ k. slot_number k ys) 0 (length (slot_list ys)) ≡ slot_list ys
record_from no_slot = refl
record_from (slot_then y ys) =
    ap (λ rest. y ∷ rest) (window_same (λ k. slot_number k (slot_then y ys)) (λ k. slot_number k ys) 1 0 (length (slot_list ys))
    (λ i lt. ap (λ k. slot_number k (slot_then y ys)) (behind i) ∙ ap (λ k. slot_number k ys) (here i)) ∙ record_from ys)
  where
    behind : (i : ℕ) → 1 + i ≡ suc i
    behind i = omega arith

    here : (i : ℕ) → i ≡ 0 + i
    here i = omega arith

pub fields_of_record : (n : ℕ) (ys : Slots) → length (slot_list ys) ≡ n → fields_of_slot n (fields ys) ≡ slot_list ys
fields_of_record n ys e = ap (λ m. window (λ k. slot_number k ys) 0 m) (sym e) ∙ record_from ys

-- and so does a record of listed slots
pub fields_of_listed : (n : ℕ) (ys : List Slot) → length ys ≡ n → fields_of_slot n (fields (in_slots ys)) ≡ ys
fields_of_listed n ys e = fields_of_record n (in_slots ys) (ap length (listed ys) ∙ e) ∙ listed ys

pub listed_is_record : (n : ℕ) (ys : List Slot) → is_record_sized n (fields (in_slots ys)) ≡ (length ys == n)
listed_is_record n ys = ap (λ (zs : List Slot). length zs == n) (listed ys)

-- ---- columns of fields

pub columns_count : (us : List Field) (columns : List (List Slot)) → length columns ≡ length us → length (fresh_columns us columns) ≡ length us
columns_count [] columns e = refl
columns_count (u ∷ us) [] e = absurd (omega (arith, e))
columns_count (u ∷ us) (column ∷ columns) e = ap suc (columns_count us columns (omega (arith, e)))

pub column_at : (us : List Field) (columns : List (List Slot)) (k : ℕ) (d : Column) (u : Field) (c : List Slot) → k < length us → k < length columns
    → get_or (fresh_columns us columns) k d ≡ fresh (get_or us k u).data_type (get_or columns k c)
column_at [] columns k d u c lt within = absurd (omega arith)
column_at (own ∷ us) [] k d u c lt within = absurd (omega arith)
column_at (own ∷ us) (column ∷ columns) zero d u c lt within = refl
column_at (own ∷ us) (column ∷ columns) (suc k) d u c lt within = column_at us columns k d u c (omega arith) (omega arith)

-- ---- which fit

-- each of the columns fits where all do
pub column_fits : (us : List Field) (columns : List (List Slot)) (k : ℕ) (u : Field) (c : List Slot) → columns_fit us columns ≡ true
    → k < length us → k < length columns → fits (get_or us k u).data_type (get_or columns k c) ≡ true
column_fits [] columns k u c h lt within = absurd (omega arith)
column_fits (own ∷ us) [] k u c h lt within = absurd (omega arith)
column_fits (own ∷ us) (column ∷ columns) zero u c h lt within = (and_parts (fits own.data_type column) (columns_fit us columns) h).0
column_fits (own ∷ us) (column ∷ columns) (suc k) u c h lt within =
    column_fits us columns k u c (and_parts (fits own.data_type column) (columns_fit us columns) h).1 (omega arith) (omega arith)

-- all fit where each does
pub columns_fit_all : (us : List Field) (columns : List (List Slot)) (u : Field) (c : List Slot)
    → ((k : ℕ) → k < length us → fits (get_or us k u).data_type (get_or columns k c) ≡ true) → columns_fit us columns ≡ true
columns_fit_all [] columns u c each = refl
columns_fit_all (own ∷ us) [] u c each = refl
columns_fit_all (own ∷ us) (column ∷ columns) u c each =
    and_from (fits own.data_type column) (columns_fit us columns) (each 0 (first (length us)))
    (columns_fit_all us columns u c (λ k lt. each (suc k) (later k (length us) lt)))
  where
    first : (n : ℕ) → 0 < suc n
    first n = omega arith

    later : (k n : ℕ) → k < n → suc k < suc n
    later k n h = omega arith

-- they do not where one does not
pub column_unfit : (us : List Field) (columns : List (List Slot)) (k : ℕ) (u : Field) (c : List Slot) → k < length us → k < length columns
    → fits (get_or us k u).data_type (get_or columns k c) ≡ false → columns_fit us columns ≡ false
column_unfit [] columns k u c lt within h = absurd (omega arith)
column_unfit (own ∷ us) [] k u c lt within h = absurd (omega arith)
column_unfit (own ∷ us) (column ∷ columns) zero u c lt within h = and_left (fits own.data_type column) (columns_fit us columns) h
column_unfit (own ∷ us) (column ∷ columns) (suc k) u c lt within h =
    and_right (fits own.data_type column) (columns_fit us columns) (column_unfit us columns k u c (omega arith) (omega arith) h)
