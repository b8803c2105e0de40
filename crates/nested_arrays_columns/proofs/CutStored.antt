-- What is cut out of masks, offsets and stored values is sound.
use Rattle.std.proofs.Common.{◌≡◌, ℕ, ◌+◌, ◌-◌, ◌*◌, ◌≤◌, List, length, refl, ap, ◌∙◌, arith, true}
use Rattle.std.specs.Prelude.{Bool, min, ◌/◌, ◌&&◌, ◌==◌, Option, Some, None, nat_le}
use Rattle.std.specs.List.{list_all}
use Rattle.std.specs.Str.{is_utf8}
use Rattle.std.proofs.lemmas.Bool.{and_parts, and_from, eq-eqb, eqb-true, le-leb, leb-true, false≢true}
use Rattle.std.proofs.Math.Nat.{mul-add, mul-le-mul_left, mul-div-le, mul-div_cancel_left}
use Rattle.columnar_memory_core.specs.declared.DataType.{DataType}
use Rattle.columnar_memory_core.specs.declared.DataType.TheOpen as layer
use Rattle.columnar_memory_core.specs.declared.Field.{Field}
use Rattle.columnar_memory_core.specs.declared.PhysicalType.{PhysicalType}
use Rattle.columnar_memory_core.specs.declared.PhysicalType.TheVariants as physical
use Rattle.nested_arrays_columns.specs.Kinds.{is_signed, in_kind, numbers_of_kind, same_kind, most_offset}
use Rattle.nested_arrays_columns.specs.StoredColumns.{Stored, bits, numbers, pairs, triples, texts, byte_strings, fixed_bytes, cut_list, cut_mask}
use Rattle.nested_arrays_columns.specs.StoredColumns.{cut_stored, stored_len}
use Rattle.nested_arrays_columns.specs.SoundColumns.{holds_below, is_byte, mask_fits, rises_at, are_offsets, are_strings, is_text_at, are_pairs}
use Rattle.nested_arrays_columns.specs.SoundColumns.{are_triples, are_pieces, is_stored_as, has_size}
use Rattle.nested_arrays_columns.proofs.Windows.{length-cut_list}
use Rattle.nested_arrays_columns.proofs.Conditions.{parts_of_3, holds_at, holds_from, list_all-cut_list}
use Rattle.nested_arrays_columns.proofs.Cuts.{offset_of_cut, next_offset_of_cut, string_at-cut}

-- a mask of a part has its length
pub mask_fits-cut : (mask : Option (List Bool)) (len o n : ℕ) → mask_fits mask len ≡ true → o + n ≤ len → mask_fits (cut_mask mask o n) n ≡ true
mask_fits-cut None len o n h within = refl
mask_fits-cut (Some marks) len o n h within = eq-eqb (length (cut_list marks o n)) n
    (length-cut_list marks o n (omega (arith, eqb-true (length marks) len h)))

-- one more offset than lists or strings
pub length-cut_offsets : (offsets : List ℕ) (o n : ℕ) → 1 ≤ length offsets → o + n ≤ length offsets - 1 → length (cut_list offsets o (n + 1)) ≡ n + 1
length-cut_offsets offsets o n some within = length-cut_list offsets o (n + 1) (omega arith)

pub first_offset : (offsets : List ℕ) (limit : ℕ) → are_offsets offsets limit ≡ true → 1 ≤ length offsets
first_offset offsets limit h = leb-true 1 (length offsets) (parts_of_3 (nat_le 1 (length offsets))
    (holds_below (length offsets - 1) (rises_at offsets)) (list_all (λ offset. nat_le offset limit) offsets) h).0

pub are_offsets-cut : (offsets : List ℕ) (limit o n : ℕ) → are_offsets offsets limit ≡ true → o + n ≤ length offsets - 1
    → are_offsets (cut_list offsets o (n + 1)) limit ≡ true
are_offsets-cut offsets limit o n h within =
    let parts = parts_of_3 (nat_le 1 (length offsets)) (holds_below (length offsets - 1) (rises_at offsets))
    (list_all (λ offset. nat_le offset limit) offsets) h in
    let cut = cut_list offsets o (n + 1) in
    let size : length cut ≡ n + 1 = length-cut_offsets offsets o n (first_offset offsets limit h) within in
    let rising : holds_below (length cut - 1) (rises_at cut) ≡ true = holds_from (length cut - 1) (rises_at cut) (λ i small.
    (λ j. nat_le (offset_of_cut offsets o n i (omega arith) j) (next_offset_of_cut offsets o n i (omega arith) j))
    ∙ holds_at (length offsets - 1) (rises_at offsets) (o + i) parts.1 (omega arith)) in
    and_from (nat_le 1 (length cut) && holds_below (length cut - 1) (rises_at cut)) (list_all (λ offset. nat_le offset limit) cut)
    (and_from (nat_le 1 (length cut)) (holds_below (length cut - 1) (rises_at cut)) (le-leb 1 (length cut) (omega arith)) rising)
    (list_all-cut_list (λ offset. nat_le offset limit) offsets o (n + 1) parts.2)

are_strings-cut : (layout : PhysicalType) (offsets content : List ℕ) (o n : ℕ) → are_strings layout offsets content ≡ true
    → o + n ≤ length offsets - 1 → are_strings layout (cut_list offsets o (n + 1)) content ≡ true
are_strings-cut layout offsets content o n h within =
    let limit = min (most_offset layout) (length content) in
    let parts = and_parts (are_offsets offsets limit) (list_all is_byte content) h in
    and_from (are_offsets (cut_list offsets o (n + 1)) limit) (list_all is_byte content) (are_offsets-cut offsets limit o n parts.0 within) parts.1

are_texts-cut : (layout : PhysicalType) (offsets content : List ℕ) (o n : ℕ)
    → (are_strings layout offsets content && holds_below (length offsets - 1) (is_text_at offsets content)) ≡ true → o + n ≤ length offsets - 1
    → (are_strings layout (cut_list offsets o (n + 1)) content
    && holds_below (length (cut_list offsets o (n + 1)) - 1) (is_text_at (cut_list offsets o (n + 1)) content)) ≡ true
are_texts-cut layout offsets content o n h within =
    let limit = min (most_offset layout) (length content) in
    let cut = cut_list offsets o (n + 1) in
    let parts = and_parts (are_strings layout offsets content) (holds_below (length offsets - 1) (is_text_at offsets content)) h in
    let some = first_offset offsets limit (and_parts (are_offsets offsets limit) (list_all is_byte content) parts.0).0 in
    let size : length cut ≡ n + 1 = length-cut_offsets offsets o n some within in
    and_from (are_strings layout cut content) (holds_below (length cut - 1) (is_text_at cut content))
    (are_strings-cut layout offsets content o n parts.0 within)
    (holds_from (length cut - 1) (is_text_at cut content) (λ i small.
    ap is_utf8 (string_at-cut offsets content o n i (omega arith))
    ∙ holds_at (length offsets - 1) (is_text_at offsets content) (o + i) parts.1 (omega arith)))

-- a whole number of pieces is cut at a piece
pub are_pieces-cut : (size n : ℕ) → 1 ≤ size → are_pieces size (size * n) ≡ true
are_pieces-cut size n some =
    and_from (nat_le 1 size) (size * (size * n / size) == size * n) (le-leb 1 size some)
    (eq-eqb (size * (size * n / size)) (size * n) (ap (λ k. size * k) (mul-div_cancel_left n {n = size} some)))

-- so many pieces lie within
pub pieces_within : (size len o n : ℕ) → o + n ≤ len / size → size * o + size * n ≤ len
pieces_within size len o n h = omega (arith, mul-add size o n, mul-le-mul_left {m = o + n} {n = len / size} size h, mul-div-le len size)

pub is_stored_as-cut : (layout : PhysicalType) (stored : Stored) (o n : ℕ) → is_stored_as layout stored ≡ true → o + n ≤ stored_len stored
    → is_stored_as layout (cut_stored stored o n) ≡ true
is_stored_as-cut physical.Boolean (bits values) o n h within = refl
is_stored_as-cut (physical.Primitive kind) (numbers stored values) o n h within =
    let parts = and_parts (same_kind kind stored && (numbers_of_kind stored == 1)) (list_all (in_kind stored) values) h in
    and_from (same_kind kind stored && (numbers_of_kind stored == 1)) (list_all (in_kind stored) (cut_list values o n)) parts.0
    (list_all-cut_list (in_kind stored) values o n parts.1)
is_stored_as-cut (physical.Primitive kind) (pairs stored values) o n h within =
    let parts = and_parts (same_kind kind stored && (numbers_of_kind stored == 2)) (are_pairs values) h in
    and_from (same_kind kind stored && (numbers_of_kind stored == 2)) (are_pairs (cut_list values o n)) parts.0
    (list_all-cut_list (λ value. is_signed 32 value.0 && is_signed 32 value.1) values o n parts.1)
is_stored_as-cut (physical.Primitive kind) (triples stored values) o n h within =
    let parts = and_parts (same_kind kind stored && (numbers_of_kind stored == 3)) (are_triples values) h in
    and_from (same_kind kind stored && (numbers_of_kind stored == 3)) (are_triples (cut_list values o n)) parts.0
    (list_all-cut_list (λ value. is_signed 32 value.0 && is_signed 32 value.1 && is_signed 64 value.2) values o n parts.1)
is_stored_as-cut physical.Utf8 (texts offsets content) o n h within = are_texts-cut physical.Utf8 offsets content o n h within
is_stored_as-cut physical.LargeUtf8 (texts offsets content) o n h within = are_texts-cut physical.LargeUtf8 offsets content o n h within
is_stored_as-cut physical.Binary (byte_strings offsets content) o n h within = are_strings-cut physical.Binary offsets content o n h within
is_stored_as-cut physical.LargeBinary (byte_strings offsets content) o n h within = are_strings-cut physical.LargeBinary offsets content o n h within
is_stored_as-cut physical.FixedSizeBinary (fixed_bytes size content) o n h within =
    let parts = and_parts (are_pieces size (length content)) (list_all is_byte content) h in
    let some = leb-true 1 size (and_parts (nat_le 1 size) (size * (length content / size) == length content) parts.0).0 in
    let len : length (cut_list content (size * o) (size * n)) ≡ size * n =
    length-cut_list content (size * o) (size * n) (pieces_within size (length content) o n within) in
    and_from (are_pieces size (length (cut_list content (size * o) (size * n)))) (list_all is_byte (cut_list content (size * o) (size * n)))
    (ap (are_pieces size) len ∙ are_pieces-cut size n some) (list_all-cut_list is_byte content (size * o) (size * n) parts.1)
is_stored_as-cut _ _ o n h within = absurd (false≢true h)

pub has_size-cut : (type_layer : layer.DataType-F DataType Field) (stored : Stored) (o n : ℕ) → has_size type_layer stored ≡ true
    → has_size type_layer (cut_stored stored o n) ≡ true
has_size-cut (layer.FixedSizeBinary size) (fixed_bytes stored content) o n h = h
has_size-cut _ _ o n h = refl
