-- What is sound of the parts of a sound column.
use Rattle.std.proofs.Common.{◌≡◌, ℕ, ◌+◌, ◌*◌, ◌-◌, ◌<◌, ◌≤◌, List, [], ◌∷◌, length, Bool, true, arith}
use Rattle.std.specs.Prelude.{min, Option, Some, ◌/◌, ◌==◌, nat_le}
use Rattle.std.proofs.lemmas.Bool.{and_parts, leb-true, eqb-true}
use Rattle.columnar_memory_core.specs.declared.DataType.{DataType}
use Rattle.columnar_memory_core.specs.Layouts.{physical_type}
use Rattle.nested_arrays_columns.specs.Kinds.{most_offset}
use Rattle.nested_arrays_columns.specs.StoredColumns.{Column, lists, fixed_lists, column_type, column_len, column_size, columns_size, in_columns, type_layer}
use Rattle.nested_arrays_columns.specs.SoundColumns.{mask_fits, are_offsets, are_pieces, has_item_type, has_fixed_item_type, is_sound}
use Rattle.nested_arrays_columns.proofs.Conditions.{parts_of_4}
use Rattle.nested_arrays_columns.proofs.CutStored.{first_offset}
use Rattle.nested_arrays_columns.proofs.ColumnSizes.{sizes_count}
use denote.Param.Weighed.{most}

-- lists of one size have a size
pub fixed_lists_have_a_size : (data_type : DataType) (mask : Option (List Bool)) (size : ℕ) (child : Column)
    → is_sound (fixed_lists data_type mask size child) ≡ true → 0 < size
fixed_lists_have_a_size data_type mask size child h =
    let parts = parts_of_4 (has_fixed_item_type (type_layer data_type) size (column_type child)) (are_pieces size (column_len child))
    (mask_fits mask (column_len child / size)) (is_sound child) h in
    leb-true 1 size (and_parts (nat_le 1 size) (size * (column_len child / size) == column_len child) parts.1).0

-- a column of lists has one offset more than lists
pub lists_have_an_offset : (data_type : DataType) (mask : Option (List Bool)) (offsets : List ℕ) (child : Column)
    → is_sound (lists data_type mask offsets child) ≡ true → 0 < length offsets
lists_have_an_offset data_type mask offsets child h =
    let limit = min (most_offset (physical_type data_type)) (column_len child) in
    let parts = parts_of_4 (has_item_type (type_layer data_type) (column_type child)) (are_offsets offsets limit)
    (mask_fits mask (length offsets - 1)) (is_sound child) h in
    first_offset offsets limit parts.1

-- a mask has a mark for each list
pub marks_of_lists : (data_type : DataType) (marks : List Bool) (offsets : List ℕ) (child : Column)
    → is_sound (lists data_type (Some marks) offsets child) ≡ true → length marks ≡ length offsets - 1
marks_of_lists data_type marks offsets child h =
    let limit = min (most_offset (physical_type data_type)) (column_len child) in
    let parts = parts_of_4 (has_item_type (type_layer data_type) (column_type child)) (are_offsets offsets limit)
    (mask_fits (Some marks) (length offsets - 1)) (is_sound child) h in
    eqb-true (length marks) (length offsets - 1) parts.2

-- the children of a sound column are sound
pub sound_items : (data_type : DataType) (mask : Option (List Bool)) (offsets : List ℕ) (child : Column)
    → is_sound (lists data_type mask offsets child) ≡ true → is_sound child ≡ true
sound_items data_type mask offsets child h =
    let limit = min (most_offset (physical_type data_type)) (column_len child) in
    let parts = parts_of_4 (has_item_type (type_layer data_type) (column_type child)) (are_offsets offsets limit)
    (mask_fits mask (length offsets - 1)) (is_sound child) h in
    parts.3

-- The weights of children in a vector, for types whose size is 2 * column_size + 1 and that hold their children so.
pub most_of_columns : (columns : List Column) → most (λ c. 2 * column_size c + 1 + 1) columns ≤ 2 * columns_size (in_columns columns) + 2
most_of_columns [] = omega arith
most_of_columns (column ∷ columns) = omega (arith, most_of_columns columns, sizes_count column)
