-- The slots of lists by their marks and spans, one list more, and the first ones.
use Rattle.std.proofs.Common.{◌≡◌, ◌∙◌, ◌<◌, ◌≤◌, ◌+◌, ◌-◌, ℕ, zero, suc, List, [], ◌∷◌, ◌++◌, drop, length, take, sum, replicate, get_or}
use Rattle.std.proofs.Common.{Bool, true, false, not, refl, sym, ap, arith}
use Rattle.std.specs.Prelude.{Option, Some, None, slice_get, if◌then◌else◌}
use Rattle.std.proofs.lemmas.List.{get_or_append_left, get_or_at, get_or-replicate, get_or-take, take-append-le, take-take, take_at, take_all}
use Rattle.std.proofs.lemmas.Bool.{eqb-true}
use Rattle.std.proofs.lemmas.List.{length-replicate, length-take-le}
use Rattle.std.proofs.lemmas.Option.{get_or_from_slice_get}
use Rattle.nested_arrays_nulls.specs.columnar_memory.declared.DataType.{DataType}
use Rattle.nested_arrays_nulls.specs.columnar_memory.Spans.{Spans, extended, first_spans, last_of, offset_at, offsets_of}
use Rattle.nested_arrays_nulls.specs.columns.Slots.{Slot, null, items, in_slots, window}
use Rattle.nested_arrays_nulls.specs.columns.SoundColumns.{mask_fits}
use Rattle.nested_arrays_nulls.specs.columns.StoredColumns.{Column, is_valid_at, lists, slot_at, slots}
use Rattle.nested_arrays_cells.specs.parts.Marks.{marks, mask_of_marks}
use Rattle.nested_arrays_cells.proofs.columns_lemmas.Windows.{window_same}
use Rattle.nested_arrays_nulls.proofs.arrays_lemmas.flat_lemmas.Offsets.{get_or-offsets_of, spans_count}
use Rattle.nested_arrays_nulls.proofs.arrays_lemmas.columnar_memory_lemmas.buffer_lemmas.Runs.{offset_at-le-last_of}
use Rattle.nested_arrays_nulls.proofs.arrays_lemmas.columnar_memory_lemmas.buffer_lemmas.Runs.{offset_at-more}
use Rattle.nested_arrays_cells.proofs.parts_lemmas.MarkLists.{marks_back}

-- ---- marks

marked_at : (n : ℕ) (mask : Option (List Bool)) (i : ℕ) → i < n → is_valid_at mask i ≡ get_or (marks n mask) i false
marked_at n None i h = sym (get_or-replicate n i true false h)
marked_at n (Some bits) i h = refl

-- a mask that fits so many slots has a mark for each
pub marks_many : (n : ℕ) (mask : Option (List Bool)) → mask_fits mask n ≡ true → length (marks n mask) ≡ n
marks_many n None h = length-replicate n true
marks_many n (Some bits) h = eqb-true (length bits) n h

pub valid_mark : (ms : List Bool) (i : ℕ) → i < length ms → is_valid_at (mask_of_marks ms) i ≡ get_or ms i false
valid_mark ms i h =
    marked_at (length ms) (mask_of_marks ms) i h ∙ ap (λ (bits : List Bool). get_or bits i false) (marks_back ms (length ms) refl)

-- a mark of lists says whether a slot is null
pub mark_says : (ms : List Bool) (i : ℕ) (b : Bool) → i < length ms → slice_get ms i ≡ Some b → b ≡ not (not (is_valid_at (mask_of_marks ms) i))
mark_says ms i b h found =
    sym (twice b) ∙ ap (λ (bit : Bool). not (not bit)) (sym (valid_mark ms i h ∙ get_or_from_slice_get ms i b false found))
  where
    twice : (b : Bool) → not (not b) ≡ b
    twice true = refl
    twice false = refl

-- ---- slots

-- the list at a place, of the items that stand in its span, or null
abbrev pub list_at : (ℕ → Slot) → List Bool → Spans → ℕ → Slot
list_at at ms s i = if get_or ms i false then items (in_slots (window at (offset_at s i) (get_or s.lengths i 0))) else null

module _ (t : DataType) (ms : List Bool) (s : Spans) (child : Column) (counted : length ms ≡ length s.lengths) where
  slot_is : (i : ℕ) → i < length s.lengths → slot_at (lists t (mask_of_marks ms) (offsets_of s) child) i ≡ list_at (slot_at child) ms s i
  slot_is i h =
      let begin : get_or (offsets_of s) i 0 ≡ offset_at s i = get_or-offsets_of s i (omega (arith, h)) in
      let size : get_or (offsets_of s) (i + 1) 0 - get_or (offsets_of s) i 0 ≡ get_or s.lengths i 0 =
      omega (arith, begin, get_or-offsets_of s (i + 1) (omega (arith, h)), offset_at-more s i h) in
      let valid = valid_mark ms i (omega (arith, h, counted)) in
      λ j. if valid j then items (in_slots (window (slot_at child) (begin j) (size j))) else null

  pub list_slots : slots (lists t (mask_of_marks ms) (offsets_of s) child) ≡ window (list_at (slot_at child) ms s) 0 (length s.lengths)
  list_slots =
      ap (window (slot_at (lists t (mask_of_marks ms) (offsets_of s) child)) 0) (spans_count s)
      ∙ window_same (slot_at (lists t (mask_of_marks ms) (offsets_of s) child)) (list_at (slot_at child) ms s) 0 0 (length s.lengths)
      (λ i h. slot_is (0 + i) (omega (arith, h)))

pub window_more : (f : ℕ → Slot) (a n : ℕ) → window f a (suc n) ≡ window f a n ++ f (a + n) ∷ []
window_more f a zero = ap (λ (k : ℕ). f k ∷ []) (omega arith)
window_more f a (suc n) =
    let next : a + 1 + n ≡ a + suc n = omega arith in
    ap (λ (xs : List Slot). f a ∷ xs) (window_more f (a + 1) n ∙ ap (λ (k : ℕ). window f (a + 1) n ++ f k ∷ []) next)

pub window_first : (f : ℕ → Slot) (a m n : ℕ) → n ≤ m → take n (window f a m) ≡ window f a n
window_first f a m zero h = refl
window_first f a zero (suc n) h = absurd (omega arith)
window_first f a (suc m) (suc n) h = ap (λ (xs : List Slot). f a ∷ xs) (window_first f (a + 1) m n (omega arith))

pub window_rest : (f : ℕ → Slot) (a m o : ℕ) → o ≤ m → drop o (window f a m) ≡ window f (a + o) (m - o)
window_rest f a m zero h =
    let at : a ≡ a + 0 = omega arith in
    let size : m ≡ m - 0 = omega arith in
    λ j. window f (at j) (size j)
window_rest f a zero (suc o) h = absurd (omega arith)
window_rest f a (suc m) (suc o) h =
    let at : a + 1 + o ≡ a + suc o = omega arith in
    let size : m - o ≡ suc m - suc o = omega arith in
    window_rest f (a + 1) m o (omega arith) ∙ (λ j. window f (at j) (size j))

-- one list more of so many items, or a null
pub one_list_more : (at : ℕ → Slot) (ms : List Bool) (s : Spans) (m : Bool) (n : ℕ) → length ms ≡ length s.lengths
    → window (list_at at (ms ++ m ∷ []) (extended s (n ∷ []))) 0 (length s.lengths + 1)
    ≡ window (list_at at ms s) 0 (length s.lengths) ++ (if m then items (in_slots (window at (last_of s) n)) else null) ∷ []
one_list_more at ms s m n counted =
    let one : length s.lengths + 1 ≡ suc (length s.lengths) = omega arith in
    let none : 0 + length s.lengths ≡ length s.lengths = omega arith in
    ap (window (list_at at (ms ++ m ∷ []) (extended s (n ∷ []))) 0) one
    ∙ window_more (list_at at (ms ++ m ∷ []) (extended s (n ∷ []))) 0 (length s.lengths)
    ∙ (λ j. window_same (list_at at (ms ++ m ∷ []) (extended s (n ∷ []))) (list_at at ms s) 0 0 (length s.lengths)
    (λ i h. before (0 + i) (omega (arith, h))) j ++ (ap (list_at at (ms ++ m ∷ []) (extended s (n ∷ []))) none ∙ behind) j ∷ [])
  where
    before : (i : ℕ) → i < length s.lengths → list_at at (ms ++ m ∷ []) (extended s (n ∷ [])) i ≡ list_at at ms s i
    before i h =
        let mark = get_or_append_left ms (m ∷ []) false i (omega (arith, h, counted)) in
        let first = take-append-le i s.lengths (n ∷ []) (omega (arith, h)) in
        let size = get_or_append_left s.lengths (n ∷ []) 0 i h in
        λ j. if mark j then items (in_slots (window at (s.start + sum (first j)) (size j))) else null

    behind : list_at at (ms ++ m ∷ []) (extended s (n ∷ [])) (length s.lengths)
        ≡ (if m then items (in_slots (window at (last_of s) n)) else null)
    behind =
        let mark = get_or_at ms m [] false (length s.lengths) counted in
        let first = take_at s.lengths (n ∷ []) (length s.lengths) refl in
        let size = get_or_at s.lengths n [] 0 (length s.lengths) refl in
        λ j. if mark j then items (in_slots (window at (s.start + sum (first j)) (size j))) else null

-- the first lists, over items of which the first ones are the same
pub first_lists : (at kept : ℕ → Slot) (ms : List Bool) (s : Spans) (k : ℕ) → k ≤ length s.lengths
    → ((i : ℕ) → i < last_of (first_spans s k) → kept i ≡ at i)
    → window (list_at kept (take k ms) (first_spans s k)) 0 k ≡ take k (window (list_at at ms s) 0 (length s.lengths))
first_lists at kept ms s k le same =
    window_same (list_at kept (take k ms) (first_spans s k)) (list_at at ms s) 0 0 k
    (λ i h. here (0 + i) (omega (arith, h)))
    ∙ sym (window_first (list_at at ms s) 0 (length s.lengths) k le)
  where
    here : (i : ℕ) → i < k → list_at kept (take k ms) (first_spans s k) i ≡ list_at at ms s i
    here i h =
        let mark = get_or-take k ms i false h in
        let first = take-take i k s.lengths (omega (arith, h)) in
        let size = get_or-take k s.lengths i 0 h in
        let long = length-take-le k s.lengths le in
        let within : (j : ℕ) → j < get_or (take k s.lengths) i 0 → s.start + sum (take i (take k s.lengths)) + j < last_of (first_spans s k) =
        λ j lt. omega (
          arith,
          lt,
          long,
          h,
          offset_at-more (first_spans s k) i (omega (arith, h, long)),
          offset_at-le-last_of (first_spans s k) (i + 1),
        ) in
        let span = window_same kept at (s.start + sum (take i (take k s.lengths))) (s.start + sum (take i (take k s.lengths)))
        (get_or (take k s.lengths) i 0) (λ j lt. same _ (within j lt)) in
        (λ j. if mark j then items (in_slots (span j)) else null)
        ∙ (λ j. if get_or ms i false then items (in_slots (window at (s.start + sum (first j)) (size j))) else null)
