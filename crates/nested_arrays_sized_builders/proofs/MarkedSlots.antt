-- The slots of a column by its marks: one more, and the first ones.
use Rattle.std.proofs.Common.{◌≡◌, ◌∙◌, ◌<◌, ◌≤◌, ◌+◌, ℕ, suc, List, [], ◌∷◌, ◌++◌, length, take, get_or, Bool, true, false, refl, sym, ap, arith}
use Rattle.std.specs.Prelude.{Option, Some, None, if◌then◌else◌}
use Rattle.std.proofs.lemmas.Bool.{cases_Bool}
use Rattle.std.proofs.lemmas.List.{get_or_append_left, get_or_at, get_or-replicate, get_or-take, length-append, length-map}
use mathlib.Core.Logic.{inl, inr}
use Rattle.nested_arrays_generic_builders.specs.nulls.columnar_memory.declared.DataType.{DataType}
use Rattle.nested_arrays_generic_builders.specs.nulls.columns.FreshColumns.{is_valid, mask_of}
use Rattle.nested_arrays_generic_builders.specs.nulls.columns.Kinds.{most_slots}
use Rattle.nested_arrays_generic_builders.specs.nulls.columns.OpenBatch.{fits}
use Rattle.nested_arrays_generic_builders.specs.nulls.columns.Slots.{Slot, null, window}
use Rattle.nested_arrays_generic_builders.specs.nulls.columns.StoredColumns.{is_valid_at}
use Rattle.nested_arrays_generic_builders.specs.cells.parts.Marks.{marks, mask_of_marks}
use Rattle.nested_arrays_generic_builders.specs.cells.parts.columns.OpenParts.{marks_of}
use Rattle.nested_arrays_generic_builders.proofs.ListSlots.{window_first, window_more}
use Rattle.nested_arrays_generic_builders.proofs.cells_lemmas.columns_lemmas.Windows.{window_same}
use Rattle.nested_arrays_generic_builders.proofs.cells_lemmas.columns_lemmas.Limits.{fits_length}
use Rattle.nested_arrays_generic_builders.proofs.cells_lemmas.columns_lemmas.Masks.{mask_by_count, mask_is}
use Rattle.nested_arrays_generic_builders.proofs.cells_lemmas.parts_lemmas.MarkLists.{marks_back}

-- ---- marks

marked_at : (n : ℕ) (mask : Option (List Bool)) (i : ℕ) → i < n → is_valid_at mask i ≡ get_or (marks n mask) i false
marked_at n None i h = sym (get_or-replicate n i true false h)
marked_at n (Some bits) i h = refl

-- whether a slot is valid under the mask of some marks
pub valid_mark : (ms : List Bool) (i : ℕ) → i < length ms → is_valid_at (mask_of_marks ms) i ≡ get_or ms i false
valid_mark ms i h =
    marked_at (length ms) (mask_of_marks ms) i h ∙ ap (λ (bits : List Bool). get_or bits i false) (marks_back ms (length ms) refl)

-- the mask of the marks of slots is theirs
pub marks_masked : (xs : List Slot) → mask_of_marks (marks_of xs) ≡ mask_of xs
marks_masked xs = sym (mask_is xs ∙ mask_by_count (marks_of xs))

-- marks by the mask that they make
pub marks_by_mask : (ms : List Bool) (xs : List Slot) → mask_of_marks ms ≡ mask_of xs → length ms ≡ length xs → ms ≡ marks_of xs
marks_by_mask ms xs same long =
    let mask : mask_of_marks ms ≡ mask_of_marks (marks_of xs) = same ∙ sym (marks_masked xs) in
    let both : length (marks_of xs) ≡ length ms = length-map xs is_valid ∙ sym long in
    sym (marks_back ms (length ms) refl) ∙ ap (marks (length ms)) mask ∙ marks_back (marks_of xs) (length ms) both

-- ---- slots

-- what stands at a place, or null under a mark
abbrev pub masked_at : (ℕ → Slot) → List Bool → ℕ → Slot
masked_at at ms i = if get_or ms i false then at i else null

-- one slot more
pub one_more_marked : (at more : ℕ → Slot) (ms : List Bool) (m : Bool) (n : ℕ) → length ms ≡ n → ((i : ℕ) → i < n → more i ≡ at i)
    → window (masked_at more (ms ++ m ∷ [])) 0 (n + 1) ≡ window (masked_at at ms) 0 n ++ (if m then more n else null) ∷ []
one_more_marked at more ms m n counted same =
    let one : n + 1 ≡ suc n = omega arith in
    let from : 0 + n ≡ n = omega arith in
    let last : masked_at more (ms ++ m ∷ []) (0 + n) ≡ (if m then more n else null) =
    ap (masked_at more (ms ++ m ∷ [])) from ∙ (λ j. if get_or_at ms m [] false n counted j then more n else null) in
    ap (window (masked_at more (ms ++ m ∷ [])) 0) one ∙ window_more (masked_at more (ms ++ m ∷ [])) 0 n
    ∙ (λ j. window_same (masked_at more (ms ++ m ∷ [])) (masked_at at ms) 0 0 n (λ i h. before (0 + i) (omega (arith, h))) j ++ last j ∷ [])
  where
    before : (i : ℕ) → i < n → masked_at more (ms ++ m ∷ []) i ≡ masked_at at ms i
    before i h =
        let mark = get_or_append_left ms (m ∷ []) false i (omega (arith, h, counted)) in
        let own = same i h in
        λ j. if mark j then own j else null

-- the first slots
pub first_marked : (at kept : ℕ → Slot) (ms : List Bool) (n k : ℕ) → k ≤ n → ((i : ℕ) → i < k → kept i ≡ at i)
    → window (masked_at kept (take k ms)) 0 k ≡ take k (window (masked_at at ms) 0 n)
first_marked at kept ms n k le same =
    window_same (masked_at kept (take k ms)) (masked_at at ms) 0 0 k (λ i h. here (0 + i) (omega (arith, h)))
    ∙ sym (window_first (masked_at at ms) 0 n k le)
  where
    here : (i : ℕ) → i < k → masked_at kept (take k ms) i ≡ masked_at at ms i
    here i h =
        let mark = get_or-take k ms i false h in
        let own = same i h in
        λ j. if mark j then own j else null

-- more slots than a column may have do not fit
pub too_many : (t : DataType) (xs : List Slot) (s : Slot) → most_slots ≤ length xs → fits t (xs ++ s ∷ []) ≡ false
too_many t xs s many =
    elim (cases_Bool (fits t (xs ++ s ∷ []))) [
      | inl fit ↦ absurd (omega (arith, many, length-append xs (s ∷ []), fits_length t (xs ++ s ∷ []) fit))
      | inr unfit ↦ unfit
    ]
