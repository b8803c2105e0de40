-- Cells that are read one after another.
use Rattle.std.proofs.Common.{◌≡◌, ◌∙◌, ℕ, zero, suc, ◌+◌, ◌<◌, ◌≤◌, List, [], ◌∷◌, ◌++◌, length, map, get_or, take, Bool, true, false, refl}
use Rattle.std.proofs.Common.{sym, ap, arith}
use Rattle.std.specs.Prelude.{◌&&◌}
use Rattle.std.specs.List.{list_all}
use Rattle.std.proofs.lemmas.Bool.{and_from}
use Rattle.std.proofs.lemmas.List.{map-append, take_all, take_more}
use Rattle.std.proofs.lemmas.List.Folds.{list_all-append, list_all_at}
use Rattle.nested_arrays_builder_arrays.proofs.arrays_lemmas.columns_lemmas.Windows.{length-window}
use Rattle.nested_arrays_builder_arrays.specs.arrays.columns.Slots.{Slot, null, in_slots, slot_then, window}
use Rattle.nested_arrays_builder_arrays.specs.arrays.columns.StoredColumns.{Column, column_len, column_type, in_columns, slot_at, slots_at}
use Rattle.nested_arrays_builder_arrays.specs.arrays.Places.{HavePlace}
use Rattle.nested_arrays_cells.specs.ArrayCells.{has_cell_at}
use Rattle.nested_arrays_cells.proofs.ReadCells.{AreRead, AreReadEach}

-- ---- one more

window_suc : {A : Type 0} (f : ℕ → A) (a n : ℕ) → window f a (suc n) ≡ window f a n ++ f (a + n) ∷ []
window_suc f a zero = ap (λ k. f k ∷ []) (omega arith)
window_suc f a (suc n) =
    let at : a + 1 + n ≡ a + suc n = omega arith in
    ap (λ rest. f a ∷ rest) (window_suc f (a + 1) n ∙ ap (λ k. window f (a + 1) n ++ f k ∷ []) at)

window_more : {A : Type 0} (f : ℕ → A) (a n : ℕ) → window f a (n + 1) ≡ window f a n ++ f (a + n) ∷ []
window_more f a n = let next : n + 1 ≡ suc n = omega arith in ap (window f a) next ∙ window_suc f a n

at_window : {A : Type 0} (f : ℕ → A) (a n k : ℕ) (d : A) → k < n → get_or (window f a n) k d ≡ f (a + k)
at_window f a zero k d lt = absurd (omega arith)
at_window f a (suc n) zero d lt = ap f (omega arith)
at_window f a (suc n) (suc k) d lt = at_window f (a + 1) n k d (omega (arith, lt)) ∙ ap f (omega arith)

passes_more : {A : Type 0} (test : A → Bool) (xs : List A) (x : A) → list_all test xs ≡ true → test x ≡ true → list_all test (xs ++ x ∷ []) ≡ true
passes_more test xs x all one =
    list_all-append test xs (x ∷ []) ∙ and_from (list_all test xs) (list_all test (x ∷ [])) all (and_from (test x) true one refl)

mapped_more : {A B : Type 0} (f : A → B) (xs : List A) (x : A) (ys : List B) (y : B) → map f xs ≡ ys → f x ≡ y
    → map f (xs ++ x ∷ []) ≡ ys ++ y ∷ []
mapped_more f xs x ys y before is = map-append f xs (x ∷ []) ∙ (λ j. before j ++ is j ∷ [])

-- ---- slots from a place on

module _ {C : Type 0} (slot_of : C → Slot) (has : Slot → Bool) (slot : ℕ → Slot) (start : ℕ) where
  pub none_read : AreRead has slot start 0 (map slot_of [])
  none_read = record { shown = refl; cells = refl }

  pub one_more_read : (k : ℕ) (cells : List C) (cell : C) → AreRead has slot start k (map slot_of cells) → has (slot (start + k)) ≡ true
      → slot_of cell ≡ slot (start + k) → AreRead has slot start (k + 1) (map slot_of (cells ++ cell ∷ []))
  one_more_read k cells cell before one is = record {
    shown = mapped_more slot_of cells cell (window slot start k) (slot (start + k)) before.shown is ∙ sym (window_more slot start k);
    cells = ap (list_all has) (window_more slot start k) ∙ passes_more has (window slot start k) (slot (start + k)) before.cells one;
  }

pub one_is_none : (has : Slot → Bool) (slot : ℕ → Slot) (start len k : ℕ) → k < len → has (slot (start + k)) ≡ false
    → list_all has (window slot start len) ≡ false
one_is_none has slot start len k lt none =
    list_all_at has (window slot start len) k null (omega (arith, lt, length-window slot start len))
    (ap has (at_window slot start len k null lt) ∙ none)

-- ---- slots at a place

module _ {C : Type 0} (slot_of : C → Slot) (columns : List Column) (i : ℕ) where
  pub none_read_each : AreReadEach columns i 0 (map slot_of [])
  none_read_each = record { shown = refl; cells = refl }

  pub one_more_read_each : (k : ℕ) (column : Column) (cells : List C) (cell : C) → k < length columns → column ≡ get_or columns k column
      → AreReadEach columns i k (map slot_of cells) → has_cell_at i column ≡ true → slot_of cell ≡ slot_at column i
      → AreReadEach columns i (k + 1) (map slot_of (cells ++ cell ∷ []))
  one_more_read_each k column cells cell lt there before one is =
      let more : take (k + 1) columns ≡ take k columns ++ column ∷ [] =
      take_more columns k column lt ∙ ap (λ c. take k columns ++ c ∷ []) (sym there) in record {
        shown = mapped_more slot_of cells cell (map (λ c. slot_at c i) (take k columns)) (slot_at column i) before.shown is
            ∙ sym (ap (map (λ c. slot_at c i)) more ∙ map-append (λ c. slot_at c i) (take k columns) (column ∷ []));
        cells = ap (list_all (has_cell_at i)) more ∙ passes_more (has_cell_at i) (take k columns) column before.cells one;
      }

  pub all_read_each : (read : List Slot) → AreReadEach columns i (length columns) read
      → (list_all (has_cell_at i) columns ≡ true) × (in_slots read ≡ slots_at (in_columns columns) i)
  all_read_each read all =
      let whole : take (length columns) columns ≡ columns = take_all (length columns) columns (omega arith) in (
        sym (ap (list_all (has_cell_at i)) whole) ∙ all.cells,
        ap in_slots (all.shown ∙ ap (map (λ c. slot_at c i)) whole) ∙ each columns,
      )
    where
      each : (columns : List Column) → in_slots (map (λ column. slot_at column i) columns) ≡ slots_at (in_columns columns) i
      each [] = refl
      each (column ∷ columns) = ap (λ rest. slot_then (slot_at column i) rest) (each columns)

pub one_of_each_is_none : (columns : List Column) (i k : ℕ) (column : Column) → k < length columns → column ≡ get_or columns k column
    → has_cell_at i column ≡ false → list_all (has_cell_at i) columns ≡ false
one_of_each_is_none columns i k column lt there none = list_all_at (has_cell_at i) columns k column lt (ap (has_cell_at i) (sym there) ∙ none)

-- a place of each of several columns is one of any of them
pub place_in : (columns : List Column) (i k : ℕ) (d : Column) → HavePlace (in_columns columns) i → k < length columns
    → i < column_len (get_or columns k d)
place_in [] i k d h lt = absurd (omega arith)
place_in (column ∷ columns) i zero d h lt = h.0
place_in (column ∷ columns) i (suc k) d h lt = place_in columns i k d h.1 (omega (arith, lt))
