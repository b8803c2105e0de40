-- The columns of a batch, one after another at the fronts, are its columns by their numbers; and where there are arrays of each type, the arrays
-- that are read are all that the format gives.
use Rattle.std.proofs.Common.{◌≡◌, ◌∙◌, ℕ, zero, suc, ◌+◌, Bool, true, false, ◌&&◌, List, [], ◌∷◌, length, map, drop, take, refl, sym, ap, subst}
use Rattle.std.proofs.Common.{◌<◌, add-one, arith, get_or}
use Rattle.std.specs.Prelude.{Option, Some, None, slice_get, sum_by}
use Rattle.std.proofs.Math.Seq.{drop-cons}
use Rattle.std.proofs.lemmas.Bool.{and_parts}
use Rattle.std.proofs.lemmas.List.Sums.{sum_by-cons}
use Rattle.ipc_format_reading.specs.Below.{arrays_below, no_own_ids}
use Rattle.ipc_format_reading.specs.array_reading.ArrayReads.{array_slots, is_readable}
use Rattle.ipc_format_reading.specs.columnar_memory.declared.DataType.{DataType}
use Rattle.ipc_format_reading.specs.columnar_memory.declared.Field.{Field}
use Rattle.ipc_format_reading.specs.columns.Slots.{Slot, window}
use Rattle.ipc_format_reading.specs.flatbuffers.Reading.{◌>>=◌, guard}
use Rattle.ipc_format_reading.specs.grammar.Columns.{Dictionary, Place, Source, behind_column}
use Rattle.ipc_format_reading.specs.grammar.Columns.{first_ids, other_ids, slots_in}
use Rattle.ipc_format_reading.specs.grammar.Dictionaries.{Layout}
use Rattle.ipc_format_reading.specs.grammar.Layouts.{buffer_count, buffer_number, node_count}
use Rattle.ipc_format_reading.specs.grammar.Layouts.{node_number}
use Rattle.ipc_format_reading.specs.grammar.Schemas.{Ids, IdsList, ids, ids_then, no_ids}
use Rattle.ipc_format_reading.specs.grammar.Tables.{chosen_columns, column_in, columns_from, ids_at}
use Rattle.ipc_format_reading.proofs.AlikePlaces.{both_same}
use Rattle.ipc_format_reading.proofs.FreshLengths.{unlike}

-- ---- there are arrays of each type

-- arrays of each of some fields' types, and ids beside each
abbrev pub are_readable : List Field → IdsList → Bool
are_readable [] below = true
are_readable (field ∷ fields) no_ids = false
are_readable (field ∷ fields) (ids_then first others) = is_readable field.data_type first && are_readable fields others

-- then the slots of an array are those that the format gives
pub array_is_read : (t : DataType) (at : Place) → is_readable t at.ids ≡ true → array_slots t at ≡ slots_in t at
array_is_read t at is = ap (λ (test : Bool). guard test >>= (λ _. slots_in t at)) is

-- ---- columns by their numbers

-- the ids behind those at so many fields
abbrev ids_behind : IdsList → ℕ → IdsList
ids_behind below zero = below
ids_behind below (suc k) = ids_behind (other_ids below) k

first_behind : (below : IdsList) (k : ℕ) → ids_at below k ≡ first_ids (ids_behind below k)
first_behind below zero = refl
first_behind below (suc k) = first_behind (other_ids below) k

other_behind : (below : IdsList) (k : ℕ) → ids_behind below (suc k) ≡ other_ids (ids_behind below k)
other_behind below zero = refl
other_behind below (suc k) = other_behind (other_ids below) k

abbrev first_or : {A : Type 0} → A → List A → A
first_or other [] = other
first_or other (x ∷ xs) = x

-- one thing more is counted
sum_further : {A : Type 0} (count : A → ℕ) (xs : List A) (k : ℕ) (y : A) (ys : List A) → drop k xs ≡ y ∷ ys
    → sum_by count (take (suc k) xs) ≡ sum_by count (take k xs) + count y
sum_further count [] zero y ys is = absurd cc
sum_further count [] (suc k) y ys is = absurd cc
sum_further count (x ∷ xs) zero y ys is =
    sum_by-cons count x [] ∙ swapped (count x) ∙ ap (λ (rest : List _). 0 + count (first_or x rest)) is
  where
    swapped : (n : ℕ) → n + 0 ≡ 0 + n
    swapped n = omega arith
sum_further count (x ∷ xs) (suc k) y ys is =
    sum_by-cons count x (take (suc k) xs) ∙ ap (λ n. count x + n) (sum_further count xs k y ys is)
    ∙ associates (count x) (sum_by count (take k xs)) (count y) ∙ ap (λ n. n + count y) (sym (sum_by-cons count x (take k xs)))
  where
    associates : (a b c : ℕ) → a + (b + c) ≡ a + b + c
    associates a b c = omega arith

-- the same, by the one at the place
pub sum_next : {A : Type 0} (count : A → ℕ) (xs : List A) (k : ℕ) (x : A) → k < length xs → x ≡ get_or xs k x
    → sum_by count (take k xs) + count x ≡ sum_by count (take (suc k) xs)
sum_next count xs k x lt is =
    sym (sum_further count xs k x (drop (suc k) xs) (drop-cons xs k x lt ∙ ap (λ y. y ∷ drop (suc k) xs) (sym is)))

drop_further : {A : Type 0} (xs : List A) (k : ℕ) (y : A) (ys : List A) → drop k xs ≡ y ∷ ys → drop (suc k) xs ≡ ys
drop_further [] zero y ys is = absurd cc
drop_further [] (suc k) y ys is = absurd cc
drop_further (x ∷ xs) zero y ys is = ap (λ rest. drop 1 rest) is
drop_further (x ∷ xs) (suc k) y ys is = drop_further xs k y ys is

-- where column k of a batch stands, and those behind it
abbrev place_at : Layout → List Dictionary → Source → Option ℕ → ℕ → Place
place_at layout standing source limit k = record {
  source = source;
  standing = standing;
  limit = limit;
  node = node_number layout.fields k;
  buffer = buffer_number source.version layout.fields k;
  ids = no_own_ids;
}

-- a place among nodes and buffers
abbrev moved : Place → ℕ → ℕ → Place
moved at node buffer = record at { node = node; buffer = buffer }

next_place : (layout : Layout) (standing : List Dictionary) (source : Source) (limit : Option ℕ) (k : ℕ) (field : Field) (fields : List Field)
    → drop k layout.fields ≡ field ∷ fields
    → place_at layout standing source limit (suc k) ≡ behind_column (place_at layout standing source limit k) field.data_type
next_place layout standing source limit k field fields is = λ i.
    moved (place_at layout standing source limit k)
    (sum_further (λ (field : Field). node_count field.data_type) layout.fields k field fields is i)
    (sum_further (λ (field : Field). buffer_count source.version field.data_type) layout.fields k field fields is i)

-- the array of column k is the column
column_is : (layout : Layout) (standing : List Dictionary) (source : Source) (limit : Option ℕ) (k : ℕ) (field : Field) (first : Ids)
    (others : IdsList) → ids_behind layout.below k ≡ ids_then first others → is_readable field.data_type first ≡ true
    → array_slots field.data_type (record (place_at layout standing source limit k) { ids = first })
    ≡ column_in layout standing source limit k field
column_is layout standing source limit k field first others ids_here readable =
    array_is_read field.data_type (record (place_at layout standing source limit k) { ids = first }) readable
    ∙ ap (λ (here : Ids). slots_in field.data_type (record (place_at layout standing source limit k) { ids = here }))
    (sym (first_behind layout.below k ∙ ap first_ids ids_here))

-- the columns behind it stand behind it
others_are : (layout : Layout) (standing : List Dictionary) (source : Source) (limit : Option ℕ) (k : ℕ) (field : Field) (fields : List Field)
    (others : IdsList) → drop k layout.fields ≡ field ∷ fields
    → arrays_below fields (behind_column (place_at layout standing source limit k) field.data_type) others
    ≡ arrays_below fields (place_at layout standing source limit (suc k)) others
others_are layout standing source limit k field fields others here =
    ap (λ (at : Place). arrays_below fields at others) (sym (next_place layout standing source limit k field fields here))

columns_are : (layout : Layout) (standing : List Dictionary) (source : Source) (k : ℕ) (fields : List Field) (below : IdsList)
    → drop k layout.fields ≡ fields → ids_behind layout.below k ≡ below → are_readable fields below ≡ true
    → arrays_below fields (place_at layout standing source None k) below ≡ columns_from layout standing source k fields
columns_are layout standing source k [] below here ids_here all = refl
columns_are layout standing source k (field ∷ fields) no_ids here ids_here all = absurd (unlike all)
columns_are layout standing source k (field ∷ fields) (ids_then first others) here ids_here all =
    let parts = and_parts (is_readable field.data_type first) (are_readable fields others) all in
    let more : arrays_below fields (behind_column (place_at layout standing source None k) field.data_type) others
    ≡ columns_from layout standing source (k + 1) fields =
    others_are layout standing source None k field fields others here
    ∙ columns_are layout standing source (suc k) fields others (drop_further layout.fields k field fields here)
    (other_behind layout.below k ∙ ap other_ids ids_here) parts.1
    ∙ ap (λ n. columns_from layout standing source n fields) (sym (add-one k)) in
    both_same _ _ _ _ (column_is layout standing source None k field first others ids_here parts.0) (λ (column : List Slot).
    both_same _ _ _ _ more (λ (columns : List (List Slot)). refl))

-- field k of all is the next one
next_field : {A : Type 0} (xs : List A) (k : ℕ) (y : A) (ys : List A) → drop k xs ≡ y ∷ ys → slice_get xs k ≡ Some y
next_field [] zero y ys is = absurd cc
next_field [] (suc k) y ys is = absurd cc
next_field (x ∷ xs) zero y ys is = ap (λ rest. Some (first_or x rest)) is
next_field (x ∷ xs) (suc k) y ys is = next_field xs k y ys is

-- the same under a limit, of all columns in their order
choices_are : (layout : Layout) (standing : List Dictionary) (source : Source) (limit : Option ℕ) (k : ℕ) (fields : List Field)
    (below : IdsList) → drop k layout.fields ≡ fields → ids_behind layout.below k ≡ below → are_readable fields below ≡ true
    → arrays_below fields (place_at layout standing source limit k) below
    ≡ chosen_columns layout standing source limit (window (λ n. n) k (length fields))
choices_are layout standing source limit k [] below here ids_here all = refl
choices_are layout standing source limit k (field ∷ fields) no_ids here ids_here all = absurd (unlike all)
choices_are layout standing source limit k (field ∷ fields) (ids_then first others) here ids_here all =
    let parts = and_parts (is_readable field.data_type first) (are_readable fields others) all in
    let more : arrays_below fields (behind_column (place_at layout standing source limit k) field.data_type) others
    ≡ chosen_columns layout standing source limit (window (λ n. n) (k + 1) (length fields)) =
    others_are layout standing source limit k field fields others here
    ∙ choices_are layout standing source limit (suc k) fields others (drop_further layout.fields k field fields here)
    (other_behind layout.below k ∙ ap other_ids ids_here) parts.1
    ∙ ap (λ n. chosen_columns layout standing source limit (window (λ n. n) n (length fields))) (sym (add-one k)) in
    let found = next_field layout.fields k field fields here in
    both_same _ _ _ _ (column_is layout standing source limit k field first others ids_here parts.0) (λ (column : List Slot).
    both_same _ _ _ _ more (λ (columns : List (List Slot)). refl))
    ∙ ap (λ (found : Option Field). found >>= (λ field. column_in layout standing source limit k field >>= (λ column.
    chosen_columns layout standing source limit (window (λ n. n) (k + 1) (length fields)) >>= (λ columns. Some (column ∷ columns)))))
    (sym found)

drop_none : {A : Type 0} (xs : List A) → drop 0 xs ≡ xs
drop_none [] = refl
drop_none (x ∷ xs) = refl

-- all columns of a batch
pub all_columns_are : (layout : Layout) (standing : List Dictionary) (source : Source) → are_readable layout.fields layout.below ≡ true
    → arrays_below layout.fields
    (record { source = source; standing = standing; limit = None; node = 0; buffer = 0; ids = no_own_ids }) layout.below
    ≡ columns_from layout standing source 0 layout.fields
all_columns_are layout standing source all = columns_are layout standing source 0 layout.fields layout.below (drop_none layout.fields) refl all

pub all_choices_are : (layout : Layout) (standing : List Dictionary) (source : Source) (limit : Option ℕ)
    → are_readable layout.fields layout.below ≡ true
    → arrays_below layout.fields
    (record { source = source; standing = standing; limit = limit; node = 0; buffer = 0; ids = no_own_ids }) layout.below
    ≡ chosen_columns layout standing source limit (window (λ n. n) 0 (length layout.fields))
all_choices_are layout standing source limit all =
    choices_are layout standing source limit 0 layout.fields layout.below (drop_none layout.fields) refl all
