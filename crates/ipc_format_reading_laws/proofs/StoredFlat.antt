-- Stored values of one size each read back (Arrow columnar format, "Fixed-size Primitive Layout").
use Rattle.std.proofs.Common.{◌≡◌, ◌∙◌, ℕ, ◌+◌, ◌-◌, ◌*◌, ◌/◌, ◌≤◌, ◌<◌, ℤ, pos, Bool, true, false, ◌&&◌, List, [], ◌∷◌, length, get_or}
use Rattle.std.proofs.Common.{take, drop, refl, sym, ap, subst, arith, le_refl, mul_comm, ◌==◌}
use Rattle.std.specs.Prelude.{Option, Some, slice_range}
use Rattle.std.specs.List.{flat_map, list_all}
use Rattle.std.proofs.Math.Nat.{mul-add, mul-le-mul_left}
use Rattle.std.proofs.lemmas.Bool.{and_parts}
use Rattle.ipc_format_laws.specs.columnar_memory.declared.PrimitiveType.{PrimitiveType}
use Rattle.ipc_format_laws.specs.columnar_memory.declared.PrimitiveType.TheVariants as kinds
use Rattle.ipc_format_laws.specs.columnar_memory.declared.PhysicalType.TheVariants as physical
use Rattle.ipc_format_laws.specs.columns.Kinds.{is_signed, in_kind, same_kind, numbers_of_kind}
use Rattle.ipc_format_laws.specs.columns.Slots.{Slot, truth, number, bytes, window}
use Rattle.ipc_format_laws.specs.columns.StoredColumns.{Stored, bits, numbers, pairs, triples, fixed_bytes, unless_null, pair_slot, triple_slot}
use Rattle.ipc_format_laws.specs.columns.StoredColumns.{stored_at, stored_len, cut_list, cut_mask, cut_stored}
use Rattle.ipc_format_laws.specs.columns.SoundColumns.{mask_fits, is_stored_as, are_pairs, are_triples}
use Rattle.ipc_format_laws.proofs.columns_lemmas.Windows.{get_or-cut_list, length-cut_list, cut_list-cut_list}
use Rattle.ipc_format_laws.proofs.columns_lemmas.Conditions.{list_all-cut_list}
use Rattle.ipc_format_laws.proofs.columns_lemmas.CutStored.{pieces_within}
use Rattle.ipc_format_laws.proofs.columns_lemmas.SameSlotsDecide.{same_kind-implies}
use Rattle.ipc_format_laws.specs.grammar.Values.{bit_at, kind_size, value_of, value_at, element_bytes}
use Rattle.ipc_format_laws.specs.grammar.Columns.{Place, Reader, buffer_at, taken_of, slots_by, fixed_slots, truth_slots, number_slots, fixed_bytes_slots}
use Rattle.ipc_format_laws.specs.grammar.Buffers.{bitmap_bytes, is_valid, kind_bytes}
use Rattle.ipc_format_laws.specs.grammar.Encoding.{Encoded, column_over}
use Rattle.ipc_format_laws.specs.grammar.StoredEncoding.{node_over, mask_bytes, stored_buffers}
use Rattle.std.specs.Int.{Width}
use Rattle.ipc_format_laws.specs.Columns.{StandsAmong, HoldsColumns}
use Rattle.ipc_format_laws.proofs.Elements.{part_next, passes_at, element_back, elements_size}
use Rattle.ipc_format_laws.proofs.Bitmaps.{bitmap_size, bit_back}
use Rattle.ipc_format_laws.proofs.Values.{fits_kind, kind_bytes_size, value_back}
use Rattle.ipc_format_laws.proofs.Buffers.{buffer_reads}
use Rattle.ipc_format_reading_laws.proofs.StoredMasks.{mask_validity, range_marked, range_slots}

abbrev pub Mask : Type 0
Mask = Option (List Bool)

-- n slots from slot o on as they are written: their mask, and these buffers behind it
abbrev pub flat_over : Mask → ℕ → ℕ → List (List ℕ) → Encoded
flat_over mask o n buffers = column_over (node_over n (cut_mask mask o n)) (mask_bytes (cut_mask mask o n) ∷ buffers) []

-- What a reader gives of any range of some stored values under a mask is the slots of that range.
abbrev pub StoredReadBack : Width → Reader → Mask → Stored → Type 0
StoredReadBack w reader mask stored = (o n : ℕ) (at : Place) (all : Encoded) → o + n ≤ stored_len stored → HoldsColumns at.source all
    → StandsAmong all (flat_over mask o n (stored_buffers true w (cut_stored stored o n))) at.node at.buffer → taken_of at.limit n ≡ n
    → reader at ≡ Some (window (λ i. unless_null mask i (stored_at stored i)) o n)

-- a buffer of values behind the validity bitmap: it has as many bytes as are needed, and each slot's value is found in it
pub fixed_range : (needed : ℕ → ℕ) (value : List ℕ → ℕ → Slot) (content : List ℕ) (slot : ℕ → Slot) (mask : Mask) (len o n : ℕ) (at : Place)
    (all : Encoded) → mask_fits mask len ≡ true → o + n ≤ len → HoldsColumns at.source all
    → StandsAmong all (flat_over mask o n (content ∷ [])) at.node at.buffer → taken_of at.limit n ≡ n → needed n ≡ length content
    → ((i : ℕ) → i < n → value content i ≡ slot (o + i))
    → fixed_slots needed value at ≡ Some (window (λ i. unless_null mask i (slot i)) o n)
unfolding fixed_slots
fixed_range needed value content slot mask len o n at all fits within holds stands whole enough each =
    let marked = range_marked at all mask len o n [] (content ∷ []) fits within holds stands.nodes stands.buffers whole in
    let values : buffer_at at.source (at.buffer + 1) (needed n) ≡ Some content =
    buffer_reads at.source all (at.buffer + 1) (needed n) content [] holds
    (part_next (mask_bytes (cut_mask mask o n)) (content ∷ []) stands.buffers) enough in
    let back : slots_by (mask_validity (cut_mask mask o n)) (value content) n ≡ window (λ i. unless_null mask i (slot i)) o n =
    range_slots mask len o n (value content) slot fits within (λ i inside valid. each i inside) in
    rw (marked, values, back) refl

-- ---- numbers, pairs and triples of a kind

-- Values that are stored one after another, of which each makes a slot of the kind
values_range : {V : Type 0} (kind : PrimitiveType) (make : V → Slot) (test : V → Bool) (d : V)
    → ((v : V) → test v ≡ true → fits_kind kind (make v) ≡ true) → ((v : V) → is_valid (make v) ≡ true)
    → (values : List V) → list_all test values ≡ true
    → (mask : Mask) (o n : ℕ) (at : Place) (all : Encoded) → mask_fits mask (length values) ≡ true → o + n ≤ length values
    → HoldsColumns at.source all
    → StandsAmong all (flat_over mask o n (flat_map (λ v. kind_bytes kind (make v)) (cut_list values o n) ∷ [])) at.node at.buffer
    → taken_of at.limit n ≡ n
    → number_slots kind at ≡ Some (window (λ i. unless_null mask i (make (get_or values i d))) o n)
values_range {V} kind make test d fit valid values passes mask o n at all fits within holds stands whole =
    let taken : List V = cut_list values o n in
    let value : V → List ℕ = λ v. kind_bytes kind (make v) in
    let count : length taken ≡ n = length-cut_list values o n within in
    let pass : list_all test taken ≡ true = list_all-cut_list test values o n passes in
    let size : n * kind_size kind ≡ length (flat_map value taken) =
    ap (λ k. k * kind_size kind) (sym count) ∙ elements_size value (kind_size kind) test (λ v h. kind_bytes_size kind (make v)) taken pass in
    ap (λ little. fixed_slots (λ taken. taken * kind_size kind) (value_at kind little) at) holds.order
    ∙ fixed_range (λ taken. taken * kind_size kind) (value_at kind true) (flat_map value taken) (λ i. make (get_or values i d)) mask
    (length values) o n at all fits within holds stands whole size
    (λ (i : ℕ) (small : i < n).
    let inside : i < length taken = omega (arith, count) in
    ap (value_of kind true) (element_back value (kind_size kind) test (λ v h. kind_bytes_size kind (make v)) taken i d pass inside)
    ∙ value_back kind (make (get_or taken i d)) (fit (get_or taken i d) (passes_at test taken i d pass inside)) (valid (get_or taken i d))
    ∙ ap make (get_or-cut_list values o n i d small))

fits_number : (kind : PrimitiveType) → (numbers_of_kind kind == 1) ≡ true → (n : ℤ) → in_kind kind n ≡ true
    → fits_kind kind (number kind n) ≡ true
fits_number kinds.Float16 one n h = absurd cc
fits_number kinds.Float32 one n h = absurd cc
fits_number kinds.Float64 one n h = absurd cc
fits_number kinds.DaysMs one n h = absurd cc
fits_number kinds.MonthDayNano one n h = absurd cc
fits_number _ one n h = h

abbrev is_pair : ℤ × ℤ → Bool
is_pair value = is_signed 32 value.0 && is_signed 32 value.1

fits_pair : (kind : PrimitiveType) → (numbers_of_kind kind == 2) ≡ true → (value : ℤ × ℤ) → is_pair value ≡ true
    → fits_kind kind (pair_slot kind value) ≡ true
fits_pair kinds.DaysMs two value h = h
fits_pair _ two value h = absurd cc

abbrev is_triple : ℤ × ℤ × ℤ → Bool
is_triple value = is_signed 32 value.0 && is_signed 32 value.1 && is_signed 64 value.2

fits_triple : (kind : PrimitiveType) → (numbers_of_kind kind == 3) ≡ true → (value : ℤ × ℤ × ℤ) → is_triple value ≡ true
    → fits_kind kind (triple_slot kind value) ≡ true
fits_triple kinds.MonthDayNano three value h = h
fits_triple _ three value h = absurd cc

-- the kind of what is stored is the type's
of_kind : (w : Width) (kind stored : PrimitiveType) (mask : Mask) (values : Stored) → same_kind kind stored ≡ true
    → StoredReadBack w (number_slots stored) mask values → StoredReadBack w (number_slots kind) mask values
of_kind w kind stored mask values same back =
    subst (λ (k : PrimitiveType). StoredReadBack w (number_slots k) mask values) (sym (same_kind-implies kind stored same)) back

pub numbers_back : (w : Width) (kind : PrimitiveType) (mask : Mask) (stored : Stored) → is_stored_as (physical.Primitive kind) stored ≡ true
    → mask_fits mask (stored_len stored) ≡ true → StoredReadBack w (number_slots kind) mask stored
numbers_back w kind mask (numbers stored values) sound fits =
    let parts = and_parts (same_kind kind stored && (numbers_of_kind stored == 1)) (list_all (in_kind stored) values) sound in
    let kinds = and_parts (same_kind kind stored) (numbers_of_kind stored == 1) parts.0 in
    of_kind w kind stored mask (numbers stored values) kinds.0 (λ o n at all within holds stands whole.
    values_range stored (number stored) (in_kind stored) (pos 0) (fits_number stored kinds.1) (λ n. refl) values parts.1 mask o n at all fits
    within holds stands whole)
numbers_back w kind mask (pairs stored values) sound fits =
    let parts = and_parts (same_kind kind stored && (numbers_of_kind stored == 2)) (are_pairs values) sound in
    let kinds = and_parts (same_kind kind stored) (numbers_of_kind stored == 2) parts.0 in
    of_kind w kind stored mask (pairs stored values) kinds.0 (λ o n at all within holds stands whole.
    values_range stored (pair_slot stored) is_pair (pos 0, pos 0) (fits_pair stored kinds.1) (λ value. refl) values parts.1 mask o n at all fits
    within holds stands whole)
numbers_back w kind mask (triples stored values) sound fits =
    let parts = and_parts (same_kind kind stored && (numbers_of_kind stored == 3)) (are_triples values) sound in
    let kinds = and_parts (same_kind kind stored) (numbers_of_kind stored == 3) parts.0 in
    of_kind w kind stored mask (triples stored values) kinds.0 (λ o n at all within holds stands whole.
    values_range stored (triple_slot stored) is_triple (pos 0, pos 0, pos 0) (fits_triple stored kinds.1) (λ value. refl) values parts.1 mask o n
    at all fits within holds stands whole)
numbers_back w kind mask _ sound fits = absurd cc

-- ---- truth values

pub truths_back : (w : Width) (mask : Mask) (values : List Bool) → mask_fits mask (length values) ≡ true
    → StoredReadBack w truth_slots mask (bits values)
truths_back w mask values fits o n at all within holds stands whole =
    let taken : List Bool = cut_list values o n in
    let count : length taken ≡ n = length-cut_list values o n within in
    fixed_range (λ taken. (taken + 7) / 8) (λ values i. truth (bit_at values i)) (bitmap_bytes taken) (λ i. truth (get_or values i false)) mask
    (length values) o n at all fits within holds stands whole
    (ap (λ k. (k + 7) / 8) (sym count) ∙ bitmap_size (λ bit. bit) (length taken) taken (le_refl (length taken)))
    (λ (i : ℕ) (small : i < n).
    let inside : i < length taken = omega (arith, count) in
    ap truth (bit_back (λ bit. bit) (length taken) taken i false (le_refl (length taken)) inside ∙ get_or-cut_list values o n i false small))

-- ---- bytes of one size

-- one string lies within n of them
room_of_one : (size n i : ℕ) → i < n → size * i + size ≤ size * n
room_of_one size n i h = omega (arith, mul-add size i 1, mul-le-mul_left {m = i + 1} {n = n} size (omega arith))

-- string i of a part
piece_of_part : (content : List ℕ) (size o n i : ℕ) → i < n
    → element_bytes size (cut_list content (size * o) (size * n)) i ≡ slice_range content (size * (o + i)) (size * (o + i) + size)
piece_of_part content size o n i small =
    ap (λ k. take k (drop (size * i) (cut_list content (size * o) (size * n)))) (width (size * i) size)
    ∙ cut_list-cut_list content (size * o) (size * n) (size * i) size (room_of_one size n i small)
    ∙ ap (λ k. cut_list content k size) (sym (mul-add size o i))
  where
    width : (a size : ℕ) → size ≡ a + size - a
    width a size = omega arith

pub fixed_bytes_back : (w : Width) (size : ℕ) (mask : Mask) (content : List ℕ) → mask_fits mask (length content / size) ≡ true
    → StoredReadBack w (fixed_bytes_slots size) mask (fixed_bytes size content)
fixed_bytes_back w size mask content fits o n at all within holds stands whole =
    let taken : List ℕ = cut_list content (size * o) (size * n) in
    fixed_range (λ taken. taken * size) (λ values i. bytes (element_bytes size values i)) taken
    (λ i. bytes (slice_range content (size * i) (size * i + size))) mask (length content / size) o n at all fits within holds stands whole
    (mul_comm n size ∙ sym (length-cut_list content (size * o) (size * n) (pieces_within size (length content) o n within)))
    (λ (i : ℕ) (small : i < n). ap bytes (piece_of_part content size o n i small))
