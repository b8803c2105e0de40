-- A struct is sound where its parts are.
use Rattle.std.proofs.Common.{◌≡◌, ◌*◌, ◌<◌, ◌≤◌, ℕ, List, true, Bool, arith}
use Rattle.std.specs.Prelude.{◌&&◌, ◌==◌, nat_le, ◌/◌, ◌%◌, Option}
use Rattle.std.proofs.Math.Nat.{div-add-mod}
use Rattle.std.proofs.lemmas.Bool.{and_parts, and_from, eq-eqb, eqb-true, le-leb, leb-true}
use Rattle.nested_arrays_parts.specs.columnar_memory.declared.DataType.{DataType}
use Rattle.nested_arrays_parts.specs.columns.SoundColumns.{has_field_types, has_fixed_item_type, have_len, are_pieces, mask_fits, is_sound, are_sound}
use Rattle.nested_arrays_parts.specs.columns.StoredColumns.{Column, column_len, column_type, fixed_lists, records, in_columns, type_layer}
use Rattle.nested_arrays_parts.proofs.columns_lemmas.Conditions.{parts_of_4}

-- n items are a whole number of lists of a size
whole_pieces : (size n : ℕ) → 0 < size → n % size ≡ 0 → are_pieces size n ≡ true
whole_pieces size n some whole = and_from (nat_le 1 size) (size * (n / size) == n) (le-leb 1 size (omega (arith, some)))
    (eq-eqb (size * (n / size)) n (omega (arith, whole, div-add-mod n size)))

no_rest : (size n : ℕ) → 1 ≤ size → (size * (n / size) == n) ≡ true → n % size ≡ 0
no_rest size n some whole = omega (arith, eqb-true (size * (n / size)) n whole, div-add-mod n size)

pub struct_whole : (data_type : DataType) (mask : Option (List Bool)) (n : ℕ) (columns : List Column)
    → has_field_types (type_layer data_type) (in_columns columns) ≡ true → have_len (in_columns columns) n ≡ true → mask_fits mask n ≡ true
    → are_sound (in_columns columns) ≡ true → is_sound (records data_type mask n (in_columns columns)) ≡ true
struct_whole data_type mask n columns typed long masked sound =
    let a = has_field_types (type_layer data_type) (in_columns columns) in
    let b = have_len (in_columns columns) n in
    and_from (a && b && mask_fits mask n) (are_sound (in_columns columns))
    (and_from (a && b) (mask_fits mask n) (and_from a b typed long) masked) sound

pub struct_parts : (data_type : DataType) (mask : Option (List Bool)) (n : ℕ) (columns : List Column)
    → is_sound (records data_type mask n (in_columns columns)) ≡ true
    → (has_field_types (type_layer data_type) (in_columns columns) ≡ true) × (have_len (in_columns columns) n ≡ true) × (mask_fits mask n ≡ true)
struct_parts data_type mask n columns sound =
    let parts = parts_of_4 (has_field_types (type_layer data_type) (in_columns columns)) (have_len (in_columns columns) n) (mask_fits mask n)
    (are_sound (in_columns columns)) sound in
    (parts.0, parts.1, parts.2)

-- lists of one size are sound where their parts are
pub fixed_whole : (data_type : DataType) (mask : Option (List Bool)) (size : ℕ) (child : Column)
    → has_fixed_item_type (type_layer data_type) size (column_type child) ≡ true → 0 < size → column_len child % size ≡ 0
    → mask_fits mask (column_len child / size) ≡ true → is_sound child ≡ true → is_sound (fixed_lists data_type mask size child) ≡ true
fixed_whole data_type mask size child typed some whole masked sound =
    let a = has_fixed_item_type (type_layer data_type) size (column_type child) in
    let b = are_pieces size (column_len child) in
    and_from (a && b && mask_fits mask (column_len child / size)) (is_sound child)
    (and_from (a && b) (mask_fits mask (column_len child / size)) (and_from a b typed (whole_pieces size (column_len child) some whole)) masked) sound

pub fixed_parts : (data_type : DataType) (mask : Option (List Bool)) (size : ℕ) (child : Column)
    → is_sound (fixed_lists data_type mask size child) ≡ true
    → (has_fixed_item_type (type_layer data_type) size (column_type child) ≡ true) × (0 < size) × (column_len child % size ≡ 0)
    × (mask_fits mask (column_len child / size) ≡ true)
fixed_parts data_type mask size child sound =
    let parts = parts_of_4 (has_fixed_item_type (type_layer data_type) size (column_type child)) (are_pieces size (column_len child))
    (mask_fits mask (column_len child / size)) (is_sound child) sound in
    let pieces = and_parts (nat_le 1 size) (size * (column_len child / size) == column_len child) parts.1 in
    (parts.0, leb-true 1 size pieces.0, no_rest size (column_len child) (leb-true 1 size pieces.0) pieces.1, parts.2)
