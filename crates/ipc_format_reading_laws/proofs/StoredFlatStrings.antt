-- Stored texts and byte strings read back: their offsets are written less the first one, and of their bytes those between the first and the
-- last offset (Arrow columnar format, "Variable-size Binary Layout").
use Rattle.std.proofs.Common.{◌≡◌, ◌∙◌, ℕ, ◌+◌, ◌-◌, ◌≤◌, ◌<◌, ◌^◌, Bool, true, List, [], ◌∷◌, length, refl, ap, arith, zero-add, min}
use Rattle.std.specs.Prelude.{Some, ◌&&◌}
use Rattle.std.specs.List.{list_all}
use Rattle.std.specs.Int.{Width}
use Rattle.std.specs.Str.{is_utf8}
use mir.Val.{hbits}
use Rattle.std.proofs.lemmas.Bool.{and_parts}
use Rattle.ipc_format_laws.specs.columnar_memory.declared.PhysicalType.{PhysicalType}
use Rattle.ipc_format_laws.specs.columns.Kinds.{most_offset}
use Rattle.ipc_format_laws.specs.columns.Slots.{Slot, text, bytes, window}
use Rattle.ipc_format_laws.specs.columns.StoredColumns.{texts, byte_strings, unless_null, string_at, cut_list, cut_mask}
use Rattle.ipc_format_laws.specs.columns.SoundColumns.{holds_below, is_byte, mask_fits, are_offsets, are_strings, is_text_at}
use Rattle.ipc_format_laws.proofs.columns_lemmas.Conditions.{holds_at}
use Rattle.ipc_format_laws.specs.grammar.Columns.{Place, buffer_at, taken_of, last_of, piece_at, slots_by, byte_slots, binary_slots, text_slots}
use Rattle.ipc_format_laws.specs.grammar.Encoding.{Encoded}
use Rattle.ipc_format_laws.specs.grammar.StoredEncoding.{mask_bytes, moved_offsets, moved_bytes, between_offsets}
use Rattle.ipc_format_laws.specs.Columns.{StandsAmong, HoldsColumns}
use Rattle.ipc_format_laws.proofs.Elements.{part_next, part_back, window_passes}
use Rattle.ipc_format_laws.proofs.Buffers.{buffer_reads}
use Rattle.ipc_format_reading_laws.proofs.StoredFlat.{Mask, flat_over, StoredReadBack}
use Rattle.ipc_format_reading_laws.proofs.StoredMasks.{mask_validity, range_marked, range_slots}
use Rattle.ipc_format_reading_laws.proofs.StoredOffsets.{moved_read, piece_of_bytes, between_size}

-- strings by offsets of a width, of which each passes a test by itself
strings_range : (w : Width) (is_allowed : List ℕ → Bool) (make : List ℕ → Slot) (offsets content : List ℕ) (limit : ℕ)
    → are_offsets offsets limit ≡ true → limit < 2 ^ hbits w → limit ≤ length content
    → ((i : ℕ) → i < length offsets - 1 → is_allowed (string_at offsets content i) ≡ true)
    → (mask : Mask) (o n : ℕ) (at : Place) (all : Encoded) → mask_fits mask (length offsets - 1) ≡ true → o + n ≤ length offsets - 1
    → HoldsColumns at.source all
    → StandsAmong all (flat_over mask o n
    (moved_bytes true w (cut_list offsets o (n + 1)) ∷ between_offsets (cut_list offsets o (n + 1)) content ∷ [])) at.node at.buffer
    → taken_of at.limit n ≡ n
    → byte_slots w is_allowed make at ≡ Some (window (λ i. unless_null mask i (make (string_at offsets content i))) o n)
unfolding byte_slots
strings_range w is_allowed make offsets content limit sound small inside allowed mask o n at all fits within holds stands whole =
    let taken : List ℕ = cut_list offsets o (n + 1) in
    let moved : List ℕ = moved_offsets taken in
    let between : List ℕ = between_offsets taken content in
    let numbers : List ℕ = moved_bytes true w taken in
    let part : Mask = cut_mask mask o n in
    let marked = range_marked at all mask (length offsets - 1) o n [] (numbers ∷ between ∷ []) fits within holds stands.nodes stands.buffers whole in
    let found = moved_read w offsets limit o n at.source all (at.buffer + 1) (between ∷ []) sound small within holds
    (part_next (mask_bytes part) (numbers ∷ between ∷ []) stands.buffers) in
    let values : buffer_at at.source (at.buffer + 2) (last_of moved) ≡ Some between =
    buffer_reads at.source all (at.buffer + 2) (last_of moved) between [] holds
    (part_back (mask_bytes part ∷ numbers ∷ []) (between ∷ []) (at.buffer + 2) refl stands.buffers)
    (between_size offsets content limit o n sound inside within) in
    let pieces : list_all is_allowed (window (piece_at moved between) 0 n) ≡ true =
    window_passes is_allowed (piece_at moved between) 0 n (λ (i : ℕ) (below : i < n).
    ap (λ j. is_allowed (piece_at moved between j)) (zero-add i)
    ∙ ap is_allowed (piece_of_bytes offsets content limit o n i sound within below) ∙ allowed (o + i) (omega arith)) in
    let same : slots_by (mask_validity part) (λ i. make (piece_at moved between i)) n
    ≡ window (λ i. unless_null mask i (make (string_at offsets content i))) o n =
    range_slots mask (length offsets - 1) o n (λ i. make (piece_at moved between i)) (λ i. make (string_at offsets content i)) fits within
    (λ i below valid. ap make (piece_of_bytes offsets content limit o n i sound within below)) in
    rw (marked, found, values, pieces, same) refl

-- a limit that is that of a layout and of the bytes
room_of : (most length_of room : ℕ) → most < room → min most length_of < room
room_of most length_of room h = omega arith

bytes_of : (most length_of : ℕ) → min most length_of ≤ length_of
bytes_of most length_of = omega arith

-- byte strings
pub byte_strings_back : (w : Width) (layout : PhysicalType) (mask : Mask) (offsets content : List ℕ) → most_offset layout < 2 ^ hbits w
    → are_strings layout offsets content ≡ true → mask_fits mask (length offsets - 1) ≡ true
    → StoredReadBack w (binary_slots w) mask (byte_strings offsets content)
byte_strings_back w layout mask offsets content room sound fits o n at all within holds stands whole =
    let limit : ℕ = min (most_offset layout) (length content) in
    let parts = and_parts (are_offsets offsets limit) (list_all is_byte content) sound in
    strings_range w (λ piece. true) bytes offsets content limit parts.0 (room_of (most_offset layout) (length content) (2 ^ hbits w) room)
    (bytes_of (most_offset layout) (length content)) (λ i below. refl) mask o n at all fits within holds stands whole

-- texts
pub texts_back : (w : Width) (layout : PhysicalType) (mask : Mask) (offsets content : List ℕ) → most_offset layout < 2 ^ hbits w
    → (are_strings layout offsets content && holds_below (length offsets - 1) (is_text_at offsets content)) ≡ true
    → mask_fits mask (length offsets - 1) ≡ true → StoredReadBack w (text_slots w) mask (texts offsets content)
texts_back w layout mask offsets content room sound fits o n at all within holds stands whole =
    let limit : ℕ = min (most_offset layout) (length content) in
    let both = and_parts (are_strings layout offsets content) (holds_below (length offsets - 1) (is_text_at offsets content)) sound in
    let parts = and_parts (are_offsets offsets limit) (list_all is_byte content) both.0 in
    strings_range w is_utf8 text offsets content limit parts.0 (room_of (most_offset layout) (length content) (2 ^ hbits w) room)
    (bytes_of (most_offset layout) (length content)) (λ i below. holds_at (length offsets - 1) (is_text_at offsets content) i both.1 below)
    mask o n at all fits within holds stands whole
