-- Columns of lists of one size made of a child: their slots are those that the format gives (Arrow columnar format, "Fixed-Size List Layout").
use Rattle.std.proofs.Common.{inl, inr, ◌≡◌, ◌∙◌, ℕ, ◌+◌, ◌*◌, ◌/◌, ◌≤◌, ◌<◌, Bool, true, false, List, [], ◌∷◌, length, sym}
use Rattle.std.proofs.Common.{ap, arith, ◌==◌, ◌&&◌, nat_le, nat_lt, slice_range}
use Rattle.std.specs.Prelude.{Option, Some, None, if◌then◌else◌}
use Rattle.std.proofs.Math.Nat.{mul-add, mul_comm, mul-le-mul_left, mul-div_cancel_left}
use Rattle.std.proofs.lemmas.Bool.{and_from, cases_Bool, eq-eqb, eqb-true, le-leb, ltb-true}
use Rattle.ipc_format_array_reading.specs.columnar_memory.declared.DataType.{DataType}
use Rattle.ipc_format_array_reading.specs.columns.Slots.{Slot, in_slots, items, window}
use Rattle.ipc_format_array_reading.specs.columns.SoundColumns.{are_pieces, has_fixed_item_type, is_sound, mask_fits}
use Rattle.ipc_format_array_reading.specs.columns.StoredColumns.{Column, column_len, column_type, fixed_lists, slot_at, slots, type_layer, unless_null}
use Rattle.ipc_format_array_reading.proofs.Windows.{cut_list-window, length-window, window_same}
use Rattle.ipc_format_array_reading.specs.flatbuffers.Reading.{◌>>=◌, guard}
use Rattle.ipc_format_array_reading.specs.Parts.{if_long, marks, sound_column}
use Rattle.ipc_format_reading.proofs.JoinedSlots.{joined_fixed}

-- so many pieces, by their length
counted : (size taken len : ℕ) → 1 ≤ size → len ≡ taken * size → len / size ≡ taken
counted size taken len some long =
    ap (λ (n : ℕ). n / size) (long ∙ mul_comm taken size) ∙ mul-div_cancel_left taken {n = size} some

one_more : (size i : ℕ) → size * i + size ≡ size * (i + 1)
one_more size i = omega (arith, mul-add size i 1)

piece_within : (size taken i : ℕ) → i < taken → size * i + size ≤ taken * size
piece_within size taken i inside =
    omega (arith, mul-add size i 1, mul-le-mul_left {m = i + 1} {n = taken} size (omega arith), mul_comm taken size)

fixed_slots_same : (t : DataType) (size taken : ℕ) (mask : Option (List Bool)) (c : Column) → 1 ≤ size → column_len c ≡ taken * size
    → window (λ i. unless_null mask i (items (in_slots (slice_range (slots c) (size * i) (size * (i + 1)))))) 0 taken
    ≡ slots (fixed_lists t mask size c)
fixed_slots_same t size taken mask c some long =
    window_same (λ i. unless_null mask i (items (in_slots (slice_range (slots c) (size * i) (size * (i + 1))))))
    (slot_at (fixed_lists t mask size c)) 0 0 taken
    (λ (i : ℕ) (inside : i < taken).
    let k : ℕ = 0 + i in
    let piece : slice_range (slots c) (size * k) (size * (k + 1)) ≡ window (slot_at c) (size * k) size =
    ap (slice_range (slots c) (size * k)) (sym (one_more size k))
    ∙ cut_list-window (slot_at c) (column_len c) (size * k) size (omega (arith, piece_within size taken k (omega arith), long)) in
    ap (λ (xs : List Slot). unless_null mask k (items (in_slots xs))) piece)
    ∙ ap (window (slot_at (fixed_lists t mask size c)) 0) (sym (counted size taken (column_len c) some long))

pub fixed_lists_made : (t : DataType) (limit : Option ℕ) (size taken : ℕ) (mask : Option (List Bool)) (c : Column)
    → has_fixed_item_type (type_layer t) size (column_type c) ≡ true → nat_lt 0 size ≡ true → mask_fits mask taken ≡ true → is_sound c ≡ true
    → joined_fixed size (marks taken mask) (slots c ∷ [])
    ≡ ((if_long (column_len c == taken * size) (fixed_lists t mask size c) >>= sound_column limit (marks taken mask))
    >>= (λ whole. Some (slots whole)))
fixed_lists_made t limit size taken mask c typed sized marked sound =
    let len : length (slots c) ≡ column_len c = length-window (slot_at c) 0 (column_len c) in
    let some : 1 ≤ size = omega (arith, ltb-true 0 size sized) in
    let whole : Column = fixed_lists t mask size c in
    let pieces : List Slot =
    window (λ i. unless_null mask i (items (in_slots (slice_range (slots c) (size * i) (size * (i + 1)))))) 0 taken in
    elim (cases_Bool (column_len c == taken * size)) [
      | inl long ↦
          let same : column_len c ≡ taken * size = eqb-true (column_len c) (taken * size) long in
          let test : (length (slots c) == taken * size) ≡ true = ap (λ (n : ℕ). n == taken * size) len ∙ long in
          let count : column_len c / size ≡ taken = counted size taken (column_len c) some same in
          let cover : size * (column_len c / size) ≡ column_len c =
          ap (λ (n : ℕ). size * n) count ∙ mul_comm size taken ∙ sym same in
          let are : are_pieces size (column_len c) ≡ true =
          and_from (nat_le 1 size) (size * (column_len c / size) == column_len c) (le-leb 1 size some)
          (eq-eqb (size * (column_len c / size)) (column_len c) cover) in
          let fits : mask_fits mask (column_len c / size) ≡ true = ap (mask_fits mask) count ∙ marked in
          let is : is_sound whole ≡ true =
          and_from (has_fixed_item_type (type_layer t) size (column_type c) && are_pieces size (column_len c)
          && mask_fits mask (column_len c / size)) (is_sound c)
          (and_from (has_fixed_item_type (type_layer t) size (column_type c) && are_pieces size (column_len c))
          (mask_fits mask (column_len c / size))
          (and_from (has_fixed_item_type (type_layer t) size (column_type c)) (are_pieces size (column_len c)) typed are) fits) sound in
          ap (λ (b : Bool). guard b >>= (λ _. Some pieces)) test
          ∙ ap Some (fixed_slots_same t size taken mask c some same)
          ∙ sym (ap (λ (b : Bool). (if b then Some whole else None) >>= (λ (whole : Column). Some (slots whole))) is)
          ∙ sym (ap (λ (b : Bool). (if_long b whole >>= sound_column limit (marks taken mask)) >>= (λ whole. Some (slots whole))) long)
      | inr short ↦
          let test : (length (slots c) == taken * size) ≡ false = ap (λ (n : ℕ). n == taken * size) len ∙ short in
          ap (λ (b : Bool). guard b >>= (λ _. Some pieces)) test
          ∙ sym (ap (λ (b : Bool). (if_long b whole >>= sound_column limit (marks taken mask)) >>= (λ whole. Some (slots whole))) short)
    ]
