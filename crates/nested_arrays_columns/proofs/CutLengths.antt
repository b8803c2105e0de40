-- How long a cut is.
use Rattle.std.proofs.Common.{◌≡◌, ℕ, ◌+◌, ◌-◌, ◌*◌, ◌≤◌, List, length, refl, ap, ◌∙◌, arith, true}
use Rattle.std.specs.Prelude.{min, ◌/◌, ◌&&◌, ◌==◌, Some, None, nat_le}
use Rattle.std.specs.List.{list_all}
use Rattle.std.proofs.lemmas.Bool.{and_parts, leb-true, false≢true}
use Rattle.std.proofs.Math.Nat.{mul-div_cancel_left}
use Rattle.columnar_memory_core.specs.declared.PhysicalType.{PhysicalType}
use Rattle.columnar_memory_core.specs.declared.PhysicalType.TheVariants as physical
use Rattle.columnar_memory_core.specs.Layouts.{physical_type}
use Rattle.nested_arrays_columns.specs.Kinds.{most_offset}
use Rattle.nested_arrays_columns.specs.StoredColumns.{Stored, bits, numbers, pairs, triples, texts, byte_strings, fixed_bytes, Column, nulls, flat}
use Rattle.nested_arrays_columns.specs.StoredColumns.{lists, fixed_lists, records, unions, dictionary, cut_list, cut_stored, stored_len}
use Rattle.nested_arrays_columns.specs.StoredColumns.{column_type, column_len, type_layer, cut}
use Rattle.nested_arrays_columns.specs.SoundColumns.{holds_below, is_byte, is_text_at, mask_fits, are_offsets, are_strings, are_pieces}
use Rattle.nested_arrays_columns.specs.SoundColumns.{is_stored_as, has_size, has_item_type, has_fixed_item_type, is_sound}
use Rattle.nested_arrays_columns.proofs.Windows.{length-cut_list}
use Rattle.nested_arrays_columns.proofs.Conditions.{parts_of_3, parts_of_4}
use Rattle.nested_arrays_columns.proofs.CutStored.{first_offset, length-cut_offsets, pieces_within}

-- stored bytes of one size have a size
some_size : (layout : PhysicalType) (size : ℕ) (content : List ℕ) → is_stored_as layout (fixed_bytes size content) ≡ true → 1 ≤ size
some_size physical.FixedSizeBinary size content h =
    let parts = and_parts (are_pieces size (length content)) (list_all is_byte content) h in
    leb-true 1 size (and_parts (nat_le 1 size) (size * (length content / size) == length content) parts.0).0
some_size _ size content h = absurd (false≢true h)

strings_some : (offsets : List ℕ) (o n : ℕ) → o + n ≤ length offsets - 1 → 1 ≤ length offsets → length (cut_list offsets o (n + 1)) - 1 ≡ n
strings_some offsets o n within some = omega (arith, length-cut_offsets offsets o n some within)

-- stored strings have an offset at least
strings_of : (layout : PhysicalType) (offsets content : List ℕ) → are_strings layout offsets content ≡ true → 1 ≤ length offsets
strings_of layout offsets content h =
    let limit = min (most_offset layout) (length content) in
    first_offset offsets limit (and_parts (are_offsets offsets limit) (list_all is_byte content) h).0

texts_of : (layout : PhysicalType) (offsets content : List ℕ)
    → (are_strings layout offsets content && holds_below (length offsets - 1) (is_text_at offsets content)) ≡ true → 1 ≤ length offsets
texts_of layout offsets content h = strings_of layout offsets content
    (and_parts (are_strings layout offsets content) (holds_below (length offsets - 1) (is_text_at offsets content)) h).0

texts_some : (layout : PhysicalType) (offsets content : List ℕ) → is_stored_as layout (texts offsets content) ≡ true → 1 ≤ length offsets
texts_some physical.Utf8 offsets content h = texts_of physical.Utf8 offsets content h
texts_some physical.LargeUtf8 offsets content h = texts_of physical.LargeUtf8 offsets content h
texts_some _ offsets content h = absurd (false≢true h)

bytes_some : (layout : PhysicalType) (offsets content : List ℕ) → is_stored_as layout (byte_strings offsets content) ≡ true → 1 ≤ length offsets
bytes_some physical.Binary offsets content h = strings_of physical.Binary offsets content h
bytes_some physical.LargeBinary offsets content h = strings_of physical.LargeBinary offsets content h
bytes_some _ offsets content h = absurd (false≢true h)

pub stored_len-cut_stored : (layout : PhysicalType) (stored : Stored) (o n : ℕ) → is_stored_as layout stored ≡ true → o + n ≤ stored_len stored
    → stored_len (cut_stored stored o n) ≡ n
stored_len-cut_stored layout (bits values) o n h within = length-cut_list values o n within
stored_len-cut_stored layout (numbers kind values) o n h within = length-cut_list values o n within
stored_len-cut_stored layout (pairs kind values) o n h within = length-cut_list values o n within
stored_len-cut_stored layout (triples kind values) o n h within = length-cut_list values o n within
stored_len-cut_stored layout (texts offsets content) o n h within = strings_some offsets o n within (texts_some layout offsets content h)
stored_len-cut_stored layout (byte_strings offsets content) o n h within = strings_some offsets o n within (bytes_some layout offsets content h)
stored_len-cut_stored layout (fixed_bytes size content) o n h within =
    ap (λ k. k / size) (length-cut_list content (size * o) (size * n) (pieces_within size (length content) o n within))
    ∙ mul-div_cancel_left n {n = size} (some_size layout size content h)

-- a cut within a sound column has as many slots as were asked for
pub column_len-cut : (c : Column) (o n : ℕ) → is_sound c ≡ true → o + n ≤ column_len c → column_len (cut c o n) ≡ n
column_len-cut (nulls data_type count) o n h within = refl
column_len-cut (flat data_type mask stored) o n h within =
    let parts = parts_of_3 (is_stored_as (physical_type data_type) stored) (has_size (type_layer data_type) stored)
    (mask_fits mask (stored_len stored)) h in
    stored_len-cut_stored (physical_type data_type) stored o n parts.0 within
column_len-cut (lists data_type mask offsets child) o n h within =
    let limit = min (most_offset (physical_type data_type)) (column_len child) in
    let parts = parts_of_4 (has_item_type (type_layer data_type) (column_type child)) (are_offsets offsets limit)
    (mask_fits mask (length offsets - 1)) (is_sound child) h in
    strings_some offsets o n within (first_offset offsets limit parts.1)
column_len-cut (fixed_lists data_type mask size child) o n h within =
    let parts = parts_of_4 (has_fixed_item_type (type_layer data_type) size (column_type child)) (are_pieces size (column_len child))
    (mask_fits mask (column_len child / size)) (is_sound child) h in
    let some = leb-true 1 size (and_parts (nat_le 1 size) (size * (column_len child / size) == column_len child) parts.1).0 in
    ap (λ k. k / size) (column_len-cut child (size * o) (size * n) parts.3 (pieces_within size (column_len child) o n within))
    ∙ mul-div_cancel_left n {n = size} some
column_len-cut (records data_type mask count children) o n h within = refl
column_len-cut (unions data_type ids None children) o n h within = length-cut_list ids o n within
column_len-cut (unions data_type ids (Some offsets) children) o n h within = length-cut_list ids o n within
column_len-cut (dictionary data_type mask keys values) o n h within = length-cut_list keys o n within
