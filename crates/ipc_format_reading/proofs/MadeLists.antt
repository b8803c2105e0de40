-- Columns of lists made of offsets and of one child: their slots are those that the format gives (Arrow columnar format, "Variable-size List
-- Layout").
use Rattle.std.proofs.Common.{inl, inr, ◌≡◌, ◌∙◌, ℕ, zero, suc, ◌+◌, ◌-◌, ◌≤◌, ◌<◌, min, Bool, true, false, List, [], ◌∷◌, length, get_or, refl, sym}
use Rattle.std.proofs.Common.{ap, subst, arith, ◌==◌, ◌&&◌, nat_le, slice_index, slice_range}
use Rattle.std.specs.Prelude.{Option, Some, None, if◌then◌else◌}
use Rattle.std.specs.List.{list_all}
use Rattle.std.proofs.lemmas.Bool.{and_from, cases_Bool, eqb-true, le-leb}
use Rattle.ipc_format_array_reading.specs.columnar_memory.declared.DataType.{DataType}
use Rattle.ipc_format_array_reading.specs.columnar_memory.Layouts.{physical_type}
use Rattle.ipc_format_array_reading.specs.columns.Kinds.{most_offset}
use Rattle.ipc_format_array_reading.specs.columns.Slots.{Slot, in_slots, items, window}
use Rattle.ipc_format_array_reading.specs.columns.SoundColumns.{are_offsets, has_item_type, holds_below, is_sound, mask_fits, rises_at}
use Rattle.ipc_format_array_reading.specs.columns.StoredColumns.{Column, column_len, column_type, lists, slot_at, slots, type_layer, unless_null}
use Rattle.ipc_format_array_reading.proofs.Conditions.{holds_from}
use Rattle.ipc_format_array_reading.proofs.Windows.{cut_list-window, length-window, window_same}
use Rattle.ipc_format_array_reading.specs.flatbuffers.Reading.{◌>>=◌, guard}
use Rattle.ipc_format_array_reading.specs.grammar.Columns.{last_of, piece_at}
use Rattle.ipc_format_array_reading.specs.Parts.{if_long, sound_column, spans}
use Rattle.ipc_format_reading.proofs.JoinedSlots.{AreSpans, joined_lists}

-- ---- offsets

last_from : (x : ℕ) (xs : List ℕ) → last_of (x ∷ xs) ≡ slice_index (x ∷ xs) (length xs)
last_from x [] = refl
last_from x (y ∷ xs) = last_from y xs

pub last_at : (xs : List ℕ) (n : ℕ) → length xs ≡ n + 1 → last_of xs ≡ slice_index xs n
last_at [] n counted = absurd (omega arith)
last_at (x ∷ xs) n counted =
    let before : length xs ≡ n = omega arith in
    last_from x xs ∙ ap (slice_index (x ∷ xs)) before

-- no offset is past a later one
never_falls : (most taken : ℕ) (mask : Option (List Bool)) (offsets : List ℕ) (i k : ℕ) → AreSpans most taken mask offsets → i + k ≤ taken
    → slice_index offsets i ≤ slice_index offsets (i + k)
never_falls most taken mask offsets i zero are within =
    let at : i + 0 ≡ i = omega arith in
    omega (arith, ap (slice_index offsets) at)
never_falls most taken mask offsets i (suc k) are within =
    let before : slice_index offsets i ≤ slice_index offsets (i + k) = never_falls most taken mask offsets i k are (omega arith) in
    let step : slice_index offsets (i + k) ≤ slice_index offsets (i + k + 1) = are.rise (i + k) (omega arith) in
    subst (λ (j : ℕ). slice_index offsets i ≤ slice_index offsets j) (next i k) (omega arith)
  where
    next : (i k : ℕ) → i + k + 1 ≡ i + suc k
    next i k = omega arith

never_past : (most taken : ℕ) (mask : Option (List Bool)) (offsets : List ℕ) (i : ℕ) → AreSpans most taken mask offsets → i ≤ taken
    → slice_index offsets i ≤ last_of offsets
never_past most taken mask offsets i are within =
    let end : i + (taken - i) ≡ taken = omega arith in
    let before : slice_index offsets i ≤ slice_index offsets taken =
    subst (λ (j : ℕ). slice_index offsets i ≤ slice_index offsets j) end (never_falls most taken mask offsets i (taken - i) are (omega arith)) in
    omega (arith, last_at offsets taken are.counted)

-- what holds of each element holds of all
pub all_from : {A : Type 0} (test : A → Bool) (xs : List A) (d : A) → ((i : ℕ) → i < length xs → test (get_or xs i d) ≡ true)
    → list_all test xs ≡ true
all_from test [] d each = refl
all_from test (x ∷ xs) d each =
    and_from (test x) (list_all test xs) (each 0 (omega arith))
    (all_from test xs d (λ (i : ℕ) (inside : i < length xs). each (suc i) (omega arith)))

below_both : (n most len : ℕ) → n ≤ most → n ≤ len → n ≤ min most len
below_both n most len x y = omega arith

are_sound_offsets : (most taken len : ℕ) (mask : Option (List Bool)) (offsets : List ℕ) → AreSpans most taken mask offsets → len ≡ last_of offsets
    → are_offsets offsets (min most len) ≡ true
are_sound_offsets most taken len mask offsets are long =
    let some : nat_le 1 (length offsets) ≡ true = le-leb 1 (length offsets) (omega (arith, are.counted)) in
    let rising : holds_below (length offsets - 1) (rises_at offsets) ≡ true =
    holds_from (length offsets - 1) (rises_at offsets) (λ (i : ℕ) (inside : i < length offsets - 1).
    le-leb (slice_index offsets i) (slice_index offsets (i + 1)) (are.rise i (omega (arith, are.counted)))) in
    let below : list_all (λ offset. nat_le offset (min most len)) offsets ≡ true =
    all_from (λ offset. nat_le offset (min most len)) offsets 0 (λ (i : ℕ) (inside : i < length offsets).
    let past : slice_index offsets i ≤ last_of offsets = never_past most taken mask offsets i are (omega (arith, are.counted)) in
    le-leb (slice_index offsets i) (min most len)
    (below_both (slice_index offsets i) most len (omega (arith, are.small)) (omega (arith, long)))) in
    and_from (nat_le 1 (length offsets) && holds_below (length offsets - 1) (rises_at offsets))
    (list_all (λ offset. nat_le offset (min most len)) offsets)
    (and_from (nat_le 1 (length offsets)) (holds_below (length offsets - 1) (rises_at offsets)) some rising) below

-- ---- the slots

back_again : (a c : ℕ) → c ≤ a → c + (a - c) ≡ a
back_again a c le = omega arith

list_slots_same : (t : DataType) (most taken : ℕ) (mask : Option (List Bool)) (offsets : List ℕ) (c : Column) → AreSpans most taken mask offsets
    → column_len c ≡ last_of offsets
    → window (λ i. unless_null mask i (items (in_slots (piece_at offsets (slots c) i)))) 0 taken ≡ slots (lists t mask offsets c)
list_slots_same t most taken mask offsets c are long =
    let size : taken ≡ length offsets - 1 = omega (arith, are.counted) in
    window_same (λ i. unless_null mask i (items (in_slots (piece_at offsets (slots c) i)))) (slot_at (lists t mask offsets c)) 0 0 taken
    (λ (i : ℕ) (inside : i < taken).
    let k : ℕ = 0 + i in
    let a : ℕ = slice_index offsets k in
    let b : ℕ = slice_index offsets (k + 1) in
    let rise : a ≤ b = are.rise k (omega arith) in
    let past : b ≤ last_of offsets = never_past most taken mask offsets (k + 1) are (omega arith) in
    let piece : slice_range (slots c) a b ≡ window (slot_at c) a (b - a) =
    ap (slice_range (slots c) a) (sym (back_again b a rise))
    ∙ cut_list-window (slot_at c) (column_len c) a (b - a) (omega (arith, back_again b a rise, long)) in
    ap (λ (xs : List Slot). unless_null mask k (items (in_slots xs))) piece)
    ∙ ap (window (slot_at (lists t mask offsets c)) 0) size

pub lists_made : (t : DataType) (limit : Option ℕ) (taken : ℕ) (mask : Option (List Bool)) (offsets : List ℕ) (c : Column)
    → has_item_type (type_layer t) (column_type c) ≡ true → AreSpans (most_offset (physical_type t)) taken mask offsets → is_sound c ≡ true
    → joined_lists (spans taken mask offsets) (slots c ∷ [])
    ≡ ((if_long (column_len c == last_of offsets) (lists t mask offsets c) >>= sound_column limit (spans taken mask offsets))
    >>= (λ whole. Some (slots whole)))
lists_made t limit taken mask offsets c typed are sound =
    let size : length (slots c) ≡ column_len c = length-window (slot_at c) 0 (column_len c) in
    let most : ℕ = most_offset (physical_type t) in
    let whole : Column = lists t mask offsets c in
    let pieces : List Slot = window (λ i. unless_null mask i (items (in_slots (piece_at offsets (slots c) i)))) 0 taken in
    elim (cases_Bool (column_len c == last_of offsets)) [
      | inl long ↦
          let same : column_len c ≡ last_of offsets = eqb-true (column_len c) (last_of offsets) long in
          let test : (length (slots c) == last_of offsets) ≡ true = ap (λ (n : ℕ). n == last_of offsets) size ∙ long in
          let len : length offsets - 1 ≡ taken = omega (arith, are.counted) in
          let fits : mask_fits mask (length offsets - 1) ≡ true = ap (mask_fits mask) len ∙ are.marked in
          let of_type : Bool = has_item_type (type_layer t) (column_type c) in
          let are_theirs : Bool = are_offsets offsets (min most (column_len c)) in
          let is : is_sound (lists t mask offsets c) ≡ true =
          and_from (of_type && are_theirs && mask_fits mask (length offsets - 1)) (is_sound c)
          (and_from (of_type && are_theirs) (mask_fits mask (length offsets - 1))
          (and_from of_type are_theirs typed (are_sound_offsets most taken (column_len c) mask offsets are same)) fits) sound in
          ap (λ (b : Bool). guard b >>= (λ _. Some pieces)) test
          ∙ ap Some (list_slots_same t most taken mask offsets c are same)
          ∙ sym (ap (λ (b : Bool). (if b then Some whole else None) >>= (λ (whole : Column). Some (slots whole))) is)
          ∙ sym (ap (λ (b : Bool). (if_long b whole >>= sound_column limit (spans taken mask offsets)) >>= (λ whole. Some (slots whole))) long)
      | inr short ↦
          let test : (length (slots c) == last_of offsets) ≡ false = ap (λ (n : ℕ). n == last_of offsets) size ∙ short in
          ap (λ (b : Bool). guard b >>= (λ _. Some pieces)) test
          ∙ sym (ap (λ (b : Bool). (if_long b whole >>= sound_column limit (spans taken mask offsets)) >>= (λ whole. Some (slots whole))) short)
    ]
