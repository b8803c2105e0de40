-- What is cut out of a node is cut out of its column.
use Rattle.std.proofs.Common.{◌≡◌, ℕ, zero, suc, ◌+◌, ◌-◌, ◌<◌, ◌≤◌, get_or, List, [], ◌∷◌, length, map, take, drop, ◌++◌, length-append}
use Rattle.std.proofs.Common.{refl, sym, ap, subst, ◌∙◌, ◌*◌, arith}
use Rattle.std.specs.Prelude.{ℤ, Bool, true, Option, Some, None, ◌==◌, ◌/◌}
use Rattle.std.specs.List.{list_all}
use Rattle.nested_arrays_parts.specs.columnar_memory.Window.{window}
use Rattle.nested_arrays_parts.specs.columns.Kinds.{is_signed}
use Rattle.nested_arrays_parts.proofs.flat_lemmas.CutMasks.{cut_window}
use Rattle.std.proofs.lemmas.Bool.{and_parts, eqb-true}
use Rattle.std.proofs.lemmas.List.{length-map}
use Rattle.nested_arrays_parts.specs.columnar_memory.declared.DataType.{DataType}
use Rattle.nested_arrays_parts.specs.columnar_memory.Spans.{Spans, offsets_of, spans_between}
use Rattle.nested_arrays_parts.specs.columns.SoundColumns.{has_field_types, has_child_types, has_places, has_child_at, is_offset, holds_below, have_len}
use Rattle.nested_arrays_parts.specs.columns.SoundColumns.{mask_fits, is_sound, are_sound}
use Rattle.nested_arrays_parts.proofs.columns_lemmas.Conditions.{parts_of_4, parts_of_5}
pub use Rattle.nested_arrays_parts.proofs.flat_lemmas.ColumnParts.{sound_after}
use Rattle.nested_arrays_parts.proofs.columns_lemmas.SoundParts.{fixed_lists_have_a_size}
use Rattle.nested_arrays_parts.specs.columns.StoredColumns.{Column, column_len, cut, cut_each, column_size, columns_size, cut_mask, lists, fixed_lists}
use Rattle.nested_arrays_parts.specs.columns.StoredColumns.{records, unions, in_columns, column_then, type_layer}
use Rattle.nested_arrays_parts.proofs.columns_lemmas.CutStored.{pieces_within}
use Rattle.nested_arrays_arrays.specs.AnyColumns.{FitsWidth}
use Rattle.nested_arrays_arrays.specs.declared.any.Node.{Node}
use Rattle.nested_arrays_parts.proofs.OffsetLists.{cut_offsets, spans_count}

pub cut_lists : (data_type : DataType) (mask : Option (List Bool)) (s : Spans) (child : Column) (o n : ℕ) → o + n ≤ length s.lengths
    → lists data_type (cut_mask mask o n) (offsets_of (spans_between s o n)) child ≡ cut (lists data_type mask (offsets_of s) child) o n
cut_lists data_type mask s child o n within = ap (λ offsets. lists data_type (cut_mask mask o n) offsets child) (cut_offsets s o n within)

-- the same, where mask and offsets are known by equations
pub lists_cut : (c : Column) (data_type : DataType) (mask part : Option (List Bool)) (s some : Spans) (child : Column) (o n : ℕ)
    → lists data_type mask (offsets_of s) child ≡ c → part ≡ cut_mask mask o n → some ≡ spans_between s o n → o + n ≤ length s.lengths
    → lists data_type part (offsets_of some) child ≡ cut c o n
lists_cut c data_type mask part s some child o n is masked spanned within =
    (λ j. lists data_type (masked j) (offsets_of (spanned j)) child) ∙ cut_lists data_type mask s child o n within ∙ ap (λ c. cut c o n) is

pub cut_columns : (columns : List Column) (o n : ℕ) → in_columns (map (λ c. cut c o n) columns) ≡ cut_each (in_columns columns) o n
cut_columns [] o n = refl
cut_columns (column ∷ columns) o n = ap (column_then (cut column o n)) (cut_columns columns o n)

-- the lengths of a column's parts, where the column is that of a node
pub spans_within : (c : Column) (data_type : DataType) (mask : Option (List Bool)) (s : Spans) (child : Column) (o n : ℕ)
    → lists data_type mask (offsets_of s) child ≡ c → o + n ≤ column_len c → o + n ≤ length s.lengths
spans_within c data_type mask s child o n is within =
    let same : length (offsets_of s) - 1 ≡ column_len c = ap column_len is in
    omega (arith, spans_count s, same)

-- each of the children is as long as the struct
pub children_within : (columns : List Column) (len o n : ℕ) → have_len (in_columns columns) len ≡ true → o + n ≤ len
    → (k : ℕ) (d : Column) → k < length columns → o + n ≤ column_len (get_or columns k d)
children_within [] len o n same within k d small = absurd (omega arith)
children_within (column ∷ columns) len o n same within zero d small =
    omega (arith, eqb-true (column_len column) len (and_parts (column_len column == len) (have_len (in_columns columns) len) same).0)
children_within (column ∷ columns) len o n same within (suc k) d small =
    children_within columns len o n (and_parts (column_len column == len) (have_len (in_columns columns) len) same).1 within k d (omega arith)

-- what a struct's soundness says of its children's lengths
pub struct_children : (c : Column) (data_type : DataType) (mask : Option (List Bool)) (len : ℕ) (columns : List Column) (o n : ℕ)
    → records data_type mask len (in_columns columns) ≡ c → is_sound (records data_type mask len (in_columns columns)) ≡ true → o + n ≤ column_len c
    → (k : ℕ) (d : Column) → k < length columns → o + n ≤ column_len (get_or columns k d)
struct_children c data_type mask len columns o n is sound within =
    let parts = parts_of_4 (has_field_types (type_layer data_type) (in_columns columns)) (have_len (in_columns columns) len) (mask_fits mask len)
    (are_sound (in_columns columns)) sound in
    let same : len ≡ column_len c = ap column_len is in
    children_within columns len o n parts.1 (omega (arith, same))

-- what is cut out of a struct is cut out of its column
pub records_cut : (c : Column) (data_type : DataType) (mask part : Option (List Bool)) (len : ℕ) (columns some : List Column) (o n : ℕ)
    → records data_type mask len (in_columns columns) ≡ c → part ≡ cut_mask mask o n → some ≡ map (λ c. cut c o n) columns
    → records data_type part n (in_columns some) ≡ cut c o n
records_cut c data_type mask part len columns some o n is masked each =
    (λ j. records data_type (masked j) n ((ap in_columns each ∙ cut_columns columns o n) j)) ∙ ap (λ c. cut c o n) is

-- the element at the place that a loop over a list has come to is unchanged
pub get_or-over : {A : Type 0} (f : A → A) (xs : List A) (i : ℕ) (d : A) → i < length xs → get_or (map f (take i xs) ++ drop i xs) i d ≡ get_or xs i d
get_or-over f [] i d small = absurd (omega arith)
get_or-over f (x ∷ xs) zero d small = refl
get_or-over f (x ∷ xs) (suc i) d small = get_or-over f xs i d (omega arith)

-- one of several columns is made of no more columns than all of them
pub one_size : (columns : List Column) (k : ℕ) (d : Column) → k < length columns
    → column_size (get_or columns k d) ≤ columns_size (in_columns columns)
one_size [] k d small = absurd (omega arith)
one_size (column ∷ columns) zero d small = omega arith
one_size (column ∷ columns) (suc k) d small = omega (arith, one_size columns k d (omega arith))

-- the same of a list whose beginning a loop has changed
pub size_over : (f : Column → Column) (xs ys : List Column) (i : ℕ) (d : Column) → i < length xs → ys ≡ map f (take i xs) ++ drop i xs
    → column_size (get_or ys i d) ≤ columns_size (in_columns xs)
size_over f xs ys i d small is =
    let same : get_or ys i d ≡ get_or xs i d = ap (λ zs. get_or zs i d) is ∙ get_or-over f xs i d small in
    let equal : column_size (get_or ys i d) ≡ column_size (get_or xs i d) = ap column_size same in
    omega (arith, one_size xs i d small, equal)

pub within_over : (f : Column → Column) (xs ys : List Column) (i o n : ℕ) (d : Column) → i < length xs → ys ≡ map f (take i xs) ++ drop i xs
    → ((k : ℕ) (e : Column) → k < length xs → o + n ≤ column_len (get_or xs k e)) → o + n ≤ column_len (get_or ys i d)
within_over f xs ys i o n d small is each =
    let same : get_or ys i d ≡ get_or xs i d = ap (λ zs. get_or zs i d) is ∙ get_or-over f xs i d small in
    let equal : column_len (get_or ys i d) ≡ column_len (get_or xs i d) = ap column_len same in
    omega (arith, each i d small, equal)

length-take-drop : {A : Type 0} (i : ℕ) (xs : List A) → length (take i xs) + length (drop i xs) ≡ length xs
length-take-drop zero xs = omega arith
length-take-drop (suc i) [] = refl
length-take-drop (suc i) (x ∷ xs) = omega (arith, length-take-drop i xs)

-- a loop keeps the length
pub length-over : {A : Type 0} (f : A → A) (xs ys : List A) (i : ℕ) → ys ≡ map f (take i xs) ++ drop i xs → length ys ≡ length xs
length-over f xs ys i is =
    ap length is ∙ omega (arith, length-append (map f (take i xs)) (drop i xs), length-map (take i xs) f, length-take-drop i xs)

-- an element that there is, whatever stands for one that there is not
pub get_or-any : {A : Type 0} (xs : List A) (i : ℕ) (d e : A) → i < length xs → get_or xs i d ≡ get_or xs i e
get_or-any [] i d e small = absurd (omega arith)
get_or-any (x ∷ xs) zero d e small = refl
get_or-any (x ∷ xs) (suc i) d e small = get_or-any xs i d e (omega arith)

-- lists of one size have a size
pub fixed_size : (data_type : DataType) (mask : Option (List Bool)) (size : ℕ) (child : Column)
    → is_sound (fixed_lists data_type mask size child) ≡ true → 0 < size
fixed_size data_type mask size child sound = fixed_lists_have_a_size data_type mask size child sound

-- what a node's width fits, an equal node's fits
pub fits_at : (a b : Node) → a ≡ b → FitsWidth b → FitsWidth a
fits_at a b is fits = subst FitsWidth (sym is) fits

pub fits_from : (a b : Node) → a ≡ b → FitsWidth a → FitsWidth b
fits_from a b is fits = subst FitsWidth is fits

-- lists of one size within a column of them are items within its child
pub items_within : (c : Column) (data_type : DataType) (mask : Option (List Bool)) (size : ℕ) (child : Column) (o n : ℕ)
    → fixed_lists data_type mask size child ≡ c → o + n ≤ column_len c → size * o + size * n ≤ column_len child
items_within c data_type mask size child o n is within =
    let same : column_len child / size ≡ column_len c = ap column_len is in
    pieces_within size (column_len child) o n (omega (arith, same))

-- what is cut out of lists of one size is cut out of their column
pub fixed_lists_cut : (c : Column) (data_type : DataType) (mask part : Option (List Bool)) (size : ℕ) (child some : Column) (o n : ℕ)
    → fixed_lists data_type mask size child ≡ c → part ≡ cut_mask mask o n → some ≡ cut child (size * o) (size * n)
    → fixed_lists data_type part size some ≡ cut c o n
fixed_lists_cut c data_type mask part size child some o n is masked within =
    (λ j. fixed_lists data_type (masked j) size (within j)) ∙ ap (λ c. cut c o n) is

-- the parts of a sound union, by whether it has offsets
pub sparse_children : (c : Column) (data_type : DataType) (ids : List ℤ) (columns : List Column) (o n : ℕ)
    → unions data_type ids None (in_columns columns) ≡ c → is_sound (unions data_type ids None (in_columns columns)) ≡ true → o + n ≤ column_len c
    → (k : ℕ) (d : Column) → k < length columns → o + n ≤ column_len (get_or columns k d)
sparse_children c data_type ids columns o n is sound within =
    let parts = parts_of_5 (has_child_types (type_layer data_type) None (in_columns columns)) (list_all (is_signed 8) ids)
    (has_places ids None (in_columns columns)) (holds_below (length ids) (has_child_at (type_layer data_type) ids None (in_columns columns)))
    (are_sound (in_columns columns)) sound in
    let same : length ids ≡ column_len c = ap column_len is in
    children_within columns (length ids) o n parts.2 (omega (arith, same))

pub dense_offsets : (c : Column) (data_type : DataType) (ids offsets : List ℤ) (columns : List Column) (o n : ℕ)
    → unions data_type ids (Some offsets) (in_columns columns) ≡ c → is_sound (unions data_type ids (Some offsets) (in_columns columns)) ≡ true
    → o + n ≤ column_len c → o + n ≤ length offsets
dense_offsets c data_type ids offsets columns o n is sound within =
    let parts = parts_of_5 (has_child_types (type_layer data_type) (Some offsets) (in_columns columns)) (list_all (is_signed 8) ids)
    (has_places ids (Some offsets) (in_columns columns))
    (holds_below (length ids) (has_child_at (type_layer data_type) ids (Some offsets) (in_columns columns)))
    (are_sound (in_columns columns)) sound in
    let long = and_parts (length offsets == length ids) (list_all is_offset offsets) parts.2 in
    let same : length ids ≡ column_len c = ap column_len is in
    omega (arith, same, eqb-true (length offsets) (length ids) long.0)

pub sparse_cut : (c : Column) (data_type : DataType) (ids some : List ℤ) (columns part : List Column) (o n : ℕ)
    → unions data_type ids None (in_columns columns) ≡ c → some ≡ window ids o n → part ≡ map (λ c. cut c o n) columns
    → unions data_type some None (in_columns part) ≡ cut c o n
sparse_cut c data_type ids some columns part o n is fewer each =
    (λ j. unions data_type ((fewer ∙ sym (cut_window ids o n)) j) None ((ap in_columns each ∙ cut_columns columns o n) j)) ∙ ap (λ c. cut c o n) is

pub dense_cut : (c : Column) (data_type : DataType) (ids some offsets part : List ℤ) (columns : List Column) (o n : ℕ)
    → unions data_type ids (Some offsets) (in_columns columns) ≡ c → some ≡ window ids o n → part ≡ window offsets o n
    → unions data_type some (Some part) (in_columns columns) ≡ cut c o n
dense_cut c data_type ids some offsets part columns o n is fewer places =
    (λ j. unions data_type ((fewer ∙ sym (cut_window ids o n)) j) (Some ((places ∙ sym (cut_window offsets o n)) j)) (in_columns columns))
    ∙ ap (λ c. cut c o n) is

-- a union with these offsets
pub with_offsets : (c : Column) (data_type : DataType) (ids : List ℤ) (offsets others : Option (List ℤ)) (columns : List Column)
    → unions data_type ids offsets (in_columns columns) ≡ c → offsets ≡ others → unions data_type ids others (in_columns columns) ≡ c
with_offsets c data_type ids offsets others columns is same = ap (λ o. unions data_type ids o (in_columns columns)) (sym same) ∙ is

pub sound_with_offsets : (data_type : DataType) (ids : List ℤ) (offsets others : Option (List ℤ)) (columns : List Column)
    → is_sound (unions data_type ids offsets (in_columns columns)) ≡ true → offsets ≡ others
    → is_sound (unions data_type ids others (in_columns columns)) ≡ true
sound_with_offsets data_type ids offsets others columns sound same =
    ap (λ o. is_sound (unions data_type ids o (in_columns columns))) (sym same) ∙ sound
