-- What the parts of sound columns say of them.
use Rattle.std.proofs.Common.{◌≡◌, ◌∙◌, ℕ, ◌-◌, List, length, true, Bool, ap, refl}
use Rattle.std.specs.Prelude.{◌&&◌, ◌==◌, ◌/◌, min, Option}
use Rattle.std.proofs.lemmas.Bool.{and_from, and_parts, eqb-true, false≢true}
use Rattle.nested_arrays_parts.specs.columnar_memory.Equality.{same_type}
use Rattle.nested_arrays_parts.specs.columnar_memory.Layouts.{physical_type}
use Rattle.nested_arrays_parts.specs.columnar_memory.Spans.{Spans, offsets_of}
use Rattle.nested_arrays_parts.specs.columnar_memory.declared.DataType.{DataType}
use Rattle.nested_arrays_parts.specs.columnar_memory.declared.DataType.TheOpen as layer
use Rattle.nested_arrays_parts.specs.columns.Kinds.{most_offset}
use Rattle.nested_arrays_parts.specs.columns.SoundColumns.{are_offsets, are_pieces, are_sound, has_field_types, has_fixed_item_type, has_item_type}
use Rattle.nested_arrays_parts.specs.columns.SoundColumns.{have_len, is_sound, mask_fits}
use Rattle.nested_arrays_parts.specs.columns.StoredColumns.{Column, Columns, lists, fixed_lists, records, column_len, column_type, type_layer}
use Rattle.nested_arrays_parts.proofs.columns_lemmas.Conditions.{parts_of_4}
use Rattle.nested_arrays_parts.proofs.flat_lemmas.Layers.{Layer}
use Rattle.nested_arrays_parts.specs.flat.ColumnMasks.{TakesMask}
use Rattle.nested_arrays_parts.proofs.OffsetLists.{spans_count}
use Rattle.nested_arrays_arrays.specs.Lengths.{layer_size, size_of}

-- the size of lists of one size is the type's
size_of_layer : (x : Layer) (size : ℕ) (child : DataType) → has_fixed_item_type x size child ≡ true → layer_size x ≡ size
size_of_layer (layer.FixedSizeList item size) stored child h =
    eqb-true size stored (and_parts (size == stored) (same_type item.data_type child) h).0
size_of_layer _ stored child h = absurd (false≢true h)

pub size_is : (data_type : DataType) (mask : Option (List Bool)) (size : ℕ) (child : Column)
    → is_sound (fixed_lists data_type mask size child) ≡ true → size_of data_type ≡ size
size_is data_type mask size child sound =
    let parts = parts_of_4 (has_fixed_item_type (type_layer data_type) size (column_type child)) (are_pieces size (column_len child))
    (mask_fits mask (column_len child / size)) (is_sound child) sound in
    size_of_layer (type_layer data_type) size (column_type child) parts.0

other_third : (a b c d e : Bool) → (a && b && c && d) ≡ true → e ≡ true → (a && b && e && d) ≡ true
other_third a b c d e all is = let parts = parts_of_4 a b c d all in
    and_from (a && b && e) d (and_from (a && b) e (and_from a b parts.0 parts.1) is) parts.3

-- lists and structs are sound under any mask of their length
pub lists_masked : (t : DataType) (old mask : Option (List Bool)) (offsets : List ℕ) (child : Column)
    → is_sound (lists t old offsets child) ≡ true → mask_fits mask (length offsets - 1) ≡ true → is_sound (lists t mask offsets child) ≡ true
lists_masked t old mask offsets child sound fits =
    let limit = min (most_offset (physical_type t)) (column_len child) in
    other_third (has_item_type (type_layer t) (column_type child)) (are_offsets offsets limit) (mask_fits old (length offsets - 1)) (is_sound child)
    (mask_fits mask (length offsets - 1)) sound fits

pub fixed_masked : (t : DataType) (old mask : Option (List Bool)) (size : ℕ) (child : Column)
    → is_sound (fixed_lists t old size child) ≡ true → mask_fits mask (column_len child / size) ≡ true
    → is_sound (fixed_lists t mask size child) ≡ true
fixed_masked t old mask size child sound fits =
    other_third (has_fixed_item_type (type_layer t) size (column_type child)) (are_pieces size (column_len child))
    (mask_fits old (column_len child / size)) (is_sound child) (mask_fits mask (column_len child / size)) sound fits

pub records_masked : (t : DataType) (old mask : Option (List Bool)) (n : ℕ) (children : Columns)
    → is_sound (records t old n children) ≡ true → mask_fits mask n ≡ true → is_sound (records t mask n children) ≡ true
records_masked t old mask n children sound fits =
    other_third (has_field_types (type_layer t) children) (have_len children n) (mask_fits old n) (are_sound children) (mask_fits mask n) sound fits

-- lists may have any mask of their length
pub lists_take : (t : DataType) (old mask : Option (List Bool)) (s : Spans) (child : Column)
    → is_sound (lists t old (offsets_of s) child) ≡ true → mask_fits mask (length s.lengths) ≡ true
    → TakesMask (lists t old (offsets_of s) child) mask
lists_take t old mask s child sound fits =
    let whole : mask_fits mask (length (offsets_of s) - 1) ≡ true = ap (mask_fits mask) (spans_count s) ∙ fits in
    (whole, refl, lists_masked t old mask (offsets_of s) child sound whole)
