-- Marks of a mask, of which none is unset.
use Rattle.std.proofs.Common.{◌≡◌, ◌∙◌, ◌<◌, ◌≤◌, ◌+◌, ℕ, zero, suc, List, [], ◌∷◌, Bool, true, false, refl, sym, ap, arith, get_or, length}
use Rattle.std.specs.Prelude.{◌↔◌, not, cond, Option, Some, slice_range}
use Rattle.std.specs.Option.{ForSome}
use Rattle.std.proofs.lemmas.Bool.{false≢true}
use Rattle.std.proofs.lemmas.List.Sums.{sum_by-cons}
use Rattle.nested_arrays_flat.specs.columnar_memory.Bits.{unset_count}
use Rattle.nested_arrays_flat.proofs.columns_lemmas.Windows.{get_or-cut_list, length-cut_list}
use Rattle.nested_arrays_flat.specs.columns.SoundColumns.{is_sound, mask_fits}
use Rattle.nested_arrays_flat.specs.columns.StoredColumns.{Column, column_len, cut_list, is_valid_at}
use Rattle.nested_arrays_flat.proofs.ColumnParts.{sound_mask}
use Rattle.nested_arrays_flat.proofs.CutMasks.{marks_within}
use Rattle.nested_arrays_flat.specs.ColumnMasks.{column_mask}

abbrev unset : Bool → ℕ
unset mark = cond (not mark) 1 0

all_set : (marks : List Bool) (k : ℕ) → unset_count marks ≡ 0 → k < length marks → get_or marks k false ≡ true
all_set [] k none h = absurd (omega arith)
all_set (true ∷ marks) zero none h = refl
all_set (true ∷ marks) (suc k) none h = all_set marks k (omega (arith, none, sum_by-cons unset true marks)) (omega arith)
all_set (false ∷ marks) k none h = absurd (omega (arith, none, sum_by-cons unset false marks))

-- where no mark of a part is unset, each is set
each_set : (marks : List Bool) (i n k : ℕ) → i + n ≤ length marks → unset_count (slice_range marks i (i + n)) ≡ 0 → k < n
    → is_valid_at (Some marks) (i + k) ≡ true
each_set marks i n k within none h =
    sym (get_or-cut_list marks i n k false h) ∙ all_set (cut_list marks i n) k none (omega (arith, length-cut_list marks i n within))

-- a range of slots of a sound column has its marks
pub marks_of_range : (c : Column) (mask : Option (List Bool)) (i n : ℕ) → is_sound c ≡ true → mask ≡ column_mask c → i + n ≤ column_len c
    → ForSome mask (λ marks. i + n ≤ length marks)
marks_of_range c mask i n sound is h =
    marks_within mask (column_len c) i n (ap (λ m. mask_fits m (column_len c)) is ∙ sound_mask c sound) h

-- and where each is set, none is unset
none_unset : (marks : List Bool) → ((k : ℕ) → k < length marks → get_or marks k false ≡ true) → unset_count marks ≡ 0
none_unset [] each = refl
none_unset (true ∷ marks) each = omega (arith, sum_by-cons unset true marks, none_unset marks (λ k h. each (suc k) (omega arith)))
none_unset (false ∷ marks) each = absurd (false≢true (each zero (omega arith)))

-- none of a part is unset exactly where each is set
pub marks_set : (marks : List Bool) (i n : ℕ) → i + n ≤ length marks
    → (unset_count (slice_range marks i (i + n)) ≡ 0) ↔ ((k : ℕ) → k < n → is_valid_at (Some marks) (i + k) ≡ true)
marks_set marks i n within = (
  λ none k h. each_set marks i n k within none h,
  λ each. none_unset (cut_list marks i n) (λ k h.
      let small : k < n = omega (arith, h, length-cut_list marks i n within) in
      get_or-cut_list marks i n k false small ∙ each k small),
)
