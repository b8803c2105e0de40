-- The columns of flat arrays are sound, and what is cut out of an array is cut out of its column.
use Rattle.std.proofs.Common.{◌≡◌, ℕ, ℤ, true, refl, ap, ◌∙◌, sym, arith, List, [], ◌∷◌, map, take, drop, length}
use Rattle.std.specs.Prelude.{Bool, false, nat_le, ◌&&◌, Option, Some, None, unwrap_or}
use Rattle.std.specs.List.{list_all}
use Rattle.std.proofs.lemmas.Bool.{and_from, and_parts, both_ways, eq-eqb, eqb-true}
use Rattle.std.proofs.lemmas.List.{length-map, take-map, drop-map}
use Rattle.flat_arrays_core.specs.columnar_memory.Window.{window}
use Rattle.flat_arrays_core.specs.columnar_memory.Layouts.{physical_type}
use Rattle.flat_arrays_core.specs.columnar_memory.declared.DataType.TheOpen as layer
use Rattle.flat_arrays_core.specs.columnar_memory.declared.PhysicalType.{PhysicalType}
use Rattle.flat_arrays_core.specs.columnar_memory.declared.PhysicalType.TheVariants as physical
use Rattle.flat_arrays_core.specs.columnar_memory.declared.PrimitiveType.{PrimitiveType}
use Rattle.flat_arrays_core.specs.columnar_memory.declared.PrimitiveType.TheVariants as kinds
use Rattle.flat_arrays_core.specs.columnar_memory.Numbers.{Numbers, one, two, three, first_number}
use Rattle.flat_arrays_core.specs.Flat as arrays
use Rattle.flat_arrays_core.specs.Flat.{Flat, IsFlat, IsMaskOf}
use Rattle.nested_arrays_columns.specs.Kinds.{in_kind, is_signed, same_kind, numbers_of_kind}
use Rattle.nested_arrays_columns.specs.SoundColumns.{mask_fits, is_stored_as, has_size, is_sound}
use Rattle.nested_arrays_columns.proofs.Conditions.{parts_of_3, parts_of_4}
use Rattle.nested_arrays_flat.proofs.Layers.{Layer}
use Rattle.nested_arrays_columns.specs.StoredColumns as StoredColumns
use Rattle.nested_arrays_columns.specs.StoredColumns.{Stored, Column, cut_list, cut_mask, cut_stored, stored_len, cut, numbers, pairs, triples}
use Rattle.nested_arrays_columns.specs.StoredColumns.{column_len, type_layer}
use Rattle.nested_arrays_flat.proofs.ColumnParts.{is_flat}
use Rattle.nested_arrays_flat.specs.Primitives.{column_of, is_primitive}
use Rattle.nested_arrays_flat.specs.declared.primitive.PrimitiveNode.{PrimitiveNode}
use Rattle.nested_arrays_flat.specs.declared.primitive.PrimitiveNode.TheVariants as variant
use Rattle.nested_arrays_flat.specs.FlatColumns.{is_native, pair_of, triple_of, stored_numbers, primitive_column, boolean_column}

-- n elements from place o on are a window
pub window-cut_list : {A : Type 0} (xs : List A) (o n : ℕ) → cut_list xs o n ≡ window xs o n
window-cut_list xs o n = ap (λ k. take k (drop o xs)) (omega arith)

pub window-map : {A B : Type 0} (f : A → B) (xs : List A) (o n : ℕ) → map f (window xs o n) ≡ window (map f xs) o n
window-map f xs o n = sym (take-map f n (drop o xs)) ∙ ap (take n) (sym (drop-map f o xs))

-- the elements of a part, each changed
cut_list-map : {A B : Type 0} (f : A → B) (xs : List A) (o n : ℕ) → map f (window xs o n) ≡ cut_list (map f xs) o n
cut_list-map f xs o n = window-map f xs o n ∙ sym (window-cut_list (map f xs) o n)

pub cut_masks : (mask : Option (List Bool)) (o n : ℕ) → arrays.cut_mask mask o n ≡ cut_mask mask o n
cut_masks None o n = refl
cut_masks (Some marks) o n = ap Some (sym (window-cut_list marks o n))

-- the stored numbers of a part
cut_numbers : (kind : PrimitiveType) (values : List Numbers) (o n : ℕ)
    → stored_numbers kind (window values o n) ≡ cut_stored (stored_numbers kind values) o n
cut_numbers kinds.DaysMs values o n = ap (pairs kinds.DaysMs) (cut_list-map pair_of values o n)
cut_numbers kinds.MonthDayNano values o n = ap (triples kinds.MonthDayNano) (cut_list-map triple_of values o n)
cut_numbers kinds.Int8 values o n = ap (numbers kinds.Int8) (cut_list-map first_number values o n)
cut_numbers kinds.Int16 values o n = ap (numbers kinds.Int16) (cut_list-map first_number values o n)
cut_numbers kinds.Int32 values o n = ap (numbers kinds.Int32) (cut_list-map first_number values o n)
cut_numbers kinds.Int64 values o n = ap (numbers kinds.Int64) (cut_list-map first_number values o n)
cut_numbers kinds.Int128 values o n = ap (numbers kinds.Int128) (cut_list-map first_number values o n)
cut_numbers kinds.Int256 values o n = ap (numbers kinds.Int256) (cut_list-map first_number values o n)
cut_numbers kinds.UInt8 values o n = ap (numbers kinds.UInt8) (cut_list-map first_number values o n)
cut_numbers kinds.UInt16 values o n = ap (numbers kinds.UInt16) (cut_list-map first_number values o n)
cut_numbers kinds.UInt32 values o n = ap (numbers kinds.UInt32) (cut_list-map first_number values o n)
cut_numbers kinds.UInt64 values o n = ap (numbers kinds.UInt64) (cut_list-map first_number values o n)
cut_numbers kinds.Float16 values o n = ap (numbers kinds.Float16) (cut_list-map first_number values o n)
cut_numbers kinds.Float32 values o n = ap (numbers kinds.Float32) (cut_list-map first_number values o n)
cut_numbers kinds.Float64 values o n = ap (numbers kinds.Float64) (cut_list-map first_number values o n)

-- a part of an array of numbers has the part of its column
pub primitive_cut : {T : Type 0} (kind : PrimitiveType) (number : T → Numbers) (a : Flat T) (o n : ℕ)
    → primitive_column kind number (arrays.cut a o n) ≡ cut (primitive_column kind number a) o n
primitive_cut kind number a o n = λ j. StoredColumns.flat a.data_type (cut_masks a.validity o n j)
    ((ap (stored_numbers kind) (window-map number a.values o n) ∙ cut_numbers kind (map number a.values) o n) j)

pub boolean_cut : (a : Flat Bool) (o n : ℕ) → boolean_column (arrays.cut a o n) ≡ cut (boolean_column a) o n
boolean_cut a o n = λ j. StoredColumns.flat a.data_type (cut_masks a.validity o n j) (StoredColumns.bits (sym (window-cut_list a.values o n) j))

-- ---- soundness

sized_numbers : (x : Layer) (kind : PrimitiveType) (values : List ℤ) → has_size x (numbers kind values) ≡ true
sized_numbers (layer.FixedSizeBinary size) kind values = refl
sized_numbers _ kind values = refl

sized_pairs : (x : Layer) (kind : PrimitiveType) (values : List (ℤ × ℤ)) → has_size x (pairs kind values) ≡ true
sized_pairs (layer.FixedSizeBinary size) kind values = refl
sized_pairs _ kind values = refl

sized_triples : (x : Layer) (kind : PrimitiveType) (values : List (ℤ × ℤ × ℤ)) → has_size x (triples kind values) ≡ true
sized_triples (layer.FixedSizeBinary size) kind values = refl
sized_triples _ kind values = refl

-- what holds of each value holds of each of another form
all_mapped : {A B : Type 0} (p : A → Bool) (q : B → Bool) (f : A → B) (xs : List A) → ((x : A) → p x ≡ true → q (f x) ≡ true)
    → list_all p xs ≡ true → list_all q (map f xs) ≡ true
all_mapped p q f [] each h = refl
all_mapped p q f (x ∷ xs) each h =
    let parts = and_parts (p x) (list_all p xs) h in
    and_from (q (f x)) (list_all q (map f xs)) (each x parts.0) (all_mapped p q f xs each parts.1)

whole_number : (kind : PrimitiveType) → same_kind kind kinds.DaysMs ≡ false → same_kind kind kinds.MonthDayNano ≡ false
    → (n : Numbers) → is_native kind n ≡ true → in_kind kind (first_number n) ≡ true
whole_number kind days months (one z) h = h
whole_number kind days months (two a b) h =
    absurd (both_ways (same_kind kind kinds.DaysMs) days (parts_of_3 (same_kind kind kinds.DaysMs) (is_signed 32 a) (is_signed 32 b) h).0)
whole_number kind days months (three a b c) h =
    absurd (both_ways (same_kind kind kinds.MonthDayNano) months
    (parts_of_4 (same_kind kind kinds.MonthDayNano) (is_signed 32 a) (is_signed 32 b) (is_signed 64 c) h).0)

whole_numbers : (kind : PrimitiveType) → same_kind kind kinds.DaysMs ≡ false → same_kind kind kinds.MonthDayNano ≡ false
    → (values : List Numbers) → list_all (is_native kind) values ≡ true → list_all (in_kind kind) (map first_number values) ≡ true
whole_numbers kind days months values h = all_mapped (is_native kind) (in_kind kind) first_number values (whole_number kind days months) h

pair_number : (n : Numbers) → is_native kinds.DaysMs n ≡ true → (is_signed 32 (pair_of n).0 && is_signed 32 (pair_of n).1) ≡ true
pair_number (one z) h = absurd cc
pair_number (two a b) h = h
pair_number (three a b c) h = absurd cc

triple_number : (n : Numbers) → is_native kinds.MonthDayNano n ≡ true
    → (is_signed 32 (triple_of n).0 && is_signed 32 (triple_of n).1 && is_signed 64 (triple_of n).2) ≡ true
triple_number (one z) h = absurd cc
triple_number (two a b) h = absurd cc
triple_number (three a b c) h = h

-- values of a kind are stored as arrays of the kind store them
stored_sound : (kind : PrimitiveType) (values : List Numbers) → nat_le 1 (numbers_of_kind kind) ≡ true
    → list_all (is_native kind) values ≡ true → is_stored_as (physical.Primitive kind) (stored_numbers kind values) ≡ true
stored_sound kinds.Int8 values some h = whole_numbers kinds.Int8 refl refl values h
stored_sound kinds.Int16 values some h = whole_numbers kinds.Int16 refl refl values h
stored_sound kinds.Int32 values some h = whole_numbers kinds.Int32 refl refl values h
stored_sound kinds.Int64 values some h = whole_numbers kinds.Int64 refl refl values h
stored_sound kinds.Int128 values some h = whole_numbers kinds.Int128 refl refl values h
stored_sound kinds.Int256 values some h = whole_numbers kinds.Int256 refl refl values h
stored_sound kinds.UInt8 values some h = whole_numbers kinds.UInt8 refl refl values h
stored_sound kinds.UInt16 values some h = whole_numbers kinds.UInt16 refl refl values h
stored_sound kinds.UInt32 values some h = whole_numbers kinds.UInt32 refl refl values h
stored_sound kinds.UInt64 values some h = whole_numbers kinds.UInt64 refl refl values h
stored_sound kinds.DaysMs values some h = all_mapped (is_native kinds.DaysMs) (λ value. is_signed 32 value.0 && is_signed 32 value.1) pair_of values
    pair_number h
stored_sound kinds.MonthDayNano values some h = all_mapped (is_native kinds.MonthDayNano)
    (λ value. is_signed 32 value.0 && is_signed 32 value.1 && is_signed 64 value.2) triple_of values triple_number h
stored_sound _ values some h = absurd cc

sized : (x : Layer) (kind : PrimitiveType) (values : List Numbers) → has_size x (stored_numbers kind values) ≡ true
sized x kinds.Int8 values = sized_numbers x kinds.Int8 (map first_number values)
sized x kinds.Int16 values = sized_numbers x kinds.Int16 (map first_number values)
sized x kinds.Int32 values = sized_numbers x kinds.Int32 (map first_number values)
sized x kinds.Int64 values = sized_numbers x kinds.Int64 (map first_number values)
sized x kinds.Int128 values = sized_numbers x kinds.Int128 (map first_number values)
sized x kinds.Int256 values = sized_numbers x kinds.Int256 (map first_number values)
sized x kinds.UInt8 values = sized_numbers x kinds.UInt8 (map first_number values)
sized x kinds.UInt16 values = sized_numbers x kinds.UInt16 (map first_number values)
sized x kinds.UInt32 values = sized_numbers x kinds.UInt32 (map first_number values)
sized x kinds.UInt64 values = sized_numbers x kinds.UInt64 (map first_number values)
sized x kinds.Float16 values = sized_numbers x kinds.Float16 (map first_number values)
sized x kinds.Float32 values = sized_numbers x kinds.Float32 (map first_number values)
sized x kinds.Float64 values = sized_numbers x kinds.Float64 (map first_number values)
sized x kinds.DaysMs values = sized_pairs x kinds.DaysMs (map pair_of values)
sized x kinds.MonthDayNano values = sized_triples x kinds.MonthDayNano (map triple_of values)

-- as many stored values as values
stored_numbers_len : (kind : PrimitiveType) (values : List Numbers) → stored_len (stored_numbers kind values) ≡ length values
stored_numbers_len kinds.Int8 values = length-map values first_number
stored_numbers_len kinds.Int16 values = length-map values first_number
stored_numbers_len kinds.Int32 values = length-map values first_number
stored_numbers_len kinds.Int64 values = length-map values first_number
stored_numbers_len kinds.Int128 values = length-map values first_number
stored_numbers_len kinds.Int256 values = length-map values first_number
stored_numbers_len kinds.UInt8 values = length-map values first_number
stored_numbers_len kinds.UInt16 values = length-map values first_number
stored_numbers_len kinds.UInt32 values = length-map values first_number
stored_numbers_len kinds.UInt64 values = length-map values first_number
stored_numbers_len kinds.Float16 values = length-map values first_number
stored_numbers_len kinds.Float32 values = length-map values first_number
stored_numbers_len kinds.Float64 values = length-map values first_number
stored_numbers_len kinds.DaysMs values = length-map values pair_of
stored_numbers_len kinds.MonthDayNano values = length-map values triple_of

pub primitive_len : {T : Type 0} (kind : PrimitiveType) (number : T → Numbers) (a : Flat T)
    → column_len (primitive_column kind number a) ≡ length a.values
primitive_len kind number a = stored_numbers_len kind (map number a.values) ∙ length-map a.values number

masked : (mask : Option (List Bool)) (n : ℕ) → IsMaskOf n mask → mask_fits mask n ≡ true
masked None n h = refl
masked (Some marks) n h = eq-eqb (length marks) n (h marks refl)

-- such a mask is of so many marks
pub masked_from : (mask : Option (List Bool)) (n : ℕ) → mask_fits mask n ≡ true → IsMaskOf n mask
masked_from None n h = λ marks some. absurd cc
masked_from (Some marks) n h = λ other some.
    let same : marks ≡ other = ap (λ o. unwrap_or o marks) some in
    ap length (sym same) ∙ eqb-true (length marks) n h

list_all-map : {A B : Type 0} (q : B → Bool) (f : A → B) (xs : List A) → list_all (λ x. q (f x)) xs ≡ true → list_all q (map f xs) ≡ true
list_all-map q f [] h = refl
list_all-map q f (x ∷ xs) h =
    let parts = and_parts (q (f x)) (list_all (λ x. q (f x)) xs) h in
    and_from (q (f x)) (list_all q (map f xs)) parts.0 (list_all-map q f xs parts.1)

-- an array of numbers in their range has a sound column
pub primitive_sound : {T : Type 0} (kind : PrimitiveType) (number : T → Numbers) (a : Flat T) → nat_le 1 (numbers_of_kind kind) ≡ true
    → IsFlat (physical.Primitive kind) a → list_all (λ value. is_native kind (number value)) a.values ≡ true
    → is_sound (primitive_column kind number a) ≡ true
primitive_sound kind number a some fits each =
    let stored = stored_numbers kind (map number a.values) in
    let here = stored_sound kind (map number a.values) some (list_all-map (is_native kind) number a.values each) in
    let long = masked a.validity (length a.values) fits.masked in
    and_from (is_stored_as (physical_type a.data_type) stored && has_size (type_layer a.data_type) stored) (mask_fits a.validity (stored_len stored))
    (and_from (is_stored_as (physical_type a.data_type) stored) (has_size (type_layer a.data_type) stored)
    (ap (λ layout. is_stored_as layout stored) fits.fits ∙ here) (sized (type_layer a.data_type) kind (map number a.values)))
    (ap (mask_fits a.validity) (primitive_len kind number a) ∙ long)

-- numbers of any kind are stored flat
pub numbers_flat : (node : PrimitiveNode) → is_flat (column_of node) ≡ true
numbers_flat (variant.Int8 array) = refl
numbers_flat (variant.Int16 array) = refl
numbers_flat (variant.Int32 array) = refl
numbers_flat (variant.Int64 array) = refl
numbers_flat (variant.Int128 array) = refl
numbers_flat (variant.Int256 array) = refl
numbers_flat (variant.UInt8 array) = refl
numbers_flat (variant.UInt16 array) = refl
numbers_flat (variant.UInt32 array) = refl
numbers_flat (variant.UInt64 array) = refl
numbers_flat (variant.DaysMs array) = refl
numbers_flat (variant.MonthsDaysNs array) = refl

-- ---- booleans

sized_bits : (x : Layer) (values : List Bool) → has_size x (StoredColumns.bits values) ≡ true
sized_bits (layer.FixedSizeBinary size) values = refl
sized_bits _ values = refl

-- an array of booleans has a sound column
pub boolean_sound : (a : Flat Bool) → IsFlat physical.Boolean a → is_sound (boolean_column a) ≡ true
boolean_sound a fits =
    let stored = StoredColumns.bits a.values in
    let t = a.data_type in
    and_from (is_stored_as (physical_type t) stored && has_size (type_layer t) stored) (mask_fits a.validity (stored_len stored))
    (and_from (is_stored_as (physical_type t) stored) (has_size (type_layer t) stored)
    (ap (λ layout. is_stored_as layout stored) fits.fits) (sized_bits (type_layer t) a.values))
    (masked a.validity (length a.values) fits.masked)

-- arrays of a kind are of numbers
pub primitive_fits : (layout : PhysicalType) (kind : PrimitiveType) → layout ≡ physical.Primitive kind → is_primitive layout ≡ true
primitive_fits layout kind is = ap is_primitive is
