-- Slots that are pushed to several columns, one to each.
use Rattle.std.proofs.Common.{◌≡◌, ◌∙◌, ℕ, zero, suc, ◌+◌, ◌<◌, ◌≤◌, List, [], ◌∷◌, length, map, take, get_or, Bool, true, false, refl, sym, ap}
use Rattle.std.proofs.Common.{inl, inr, arith, add-one, subst, ◌&&◌, ◌||◌, ◌++◌, not}
use Rattle.std.specs.Prelude.{slice_set}
use Rattle.std.specs.List.{list_all}
use Rattle.std.proofs.lemmas.Bool.{and_from, and_parts}
use Rattle.std.proofs.lemmas.List.{length_push, take_all}
use borrow.Author.Count.{below_more}
use Rattle.columnar_memory_types.specs.declared.data_type.DataType.TheVariants as types
use Rattle.columnar_memory_types.specs.declared.error.Error.{Error}
use Rattle.columnar_memory_types.specs.declared.error.Error.TheVariants as errors
use Rattle.tables_chunks.specs.declared.fault.Fault.{Fault}
use Rattle.tables_chunks.specs.declared.fault.Fault.TheVariants as faults
use Rattle.tables_chunks.specs.ipc_format.columnar_memory.declared.DataType.{DataType}
use Rattle.tables_chunks.specs.ipc_format.columns.Cells.{fits_cell}
use Rattle.tables_chunks.specs.ipc_format.columns.OpenBatch.{is_within}
use Rattle.tables_chunks.specs.ipc_format.columns.Slots.{Slot, null}
use Rattle.nested_arrays_cells.specs.parts.Open.{Open, opened, with_slot, IsRefusal}
use Rattle.tables_rows.specs.Columns.{are_taken, is_fitting, lowered, slots_overflow, with_each, AreLong, IsRefused, IsShort}
use Rattle.tables_rows.proofs.CutBack.{none_each}

-- some column
abbrev pub any_column : Open
any_column = opened types.Null []

-- the slot of a cell at a place of a row
pub slot_at : {A : Type 0} (f : A → Slot) (row : List A) (k : ℕ) (cell : A) → k < length row → cell ≡ get_or row k cell
    → f cell ≡ get_or (map f row) k null
slot_at f [] k cell inside own = absurd (omega arith)
slot_at f (first ∷ row) zero cell inside own = ap f own
slot_at f (first ∷ row) (suc k) cell inside own = slot_at f row k cell (omega arith) own

-- the next column is as it was
next_is : (columns : List Open) (slots : List Slot) (k : ℕ) (d : Open) → k < length columns
    → get_or (with_each columns (take k slots)) k d ≡ get_or columns k d
next_is [] slots k d inside = absurd (omega arith)
next_is (column ∷ columns) slots zero d inside = refl
next_is (column ∷ columns) [] (suc k) d inside = refl
next_is (column ∷ columns) (slot ∷ slots) (suc k) d inside = next_is columns slots k d (omega arith)

each_at : (columns : List Open) (slots : List Slot) (k : ℕ) (d : Open) → k < length columns → k < length slots
    → get_or (with_each columns slots) k d ≡ with_slot (get_or columns k d) (get_or slots k null)
each_at [] slots k d inside many = absurd (omega arith)
each_at (column ∷ columns) [] k d inside many = absurd (omega arith)
each_at (column ∷ columns) (slot ∷ slots) zero d inside many = refl
each_at (column ∷ columns) (slot ∷ slots) (suc k) d inside many = each_at columns slots k d (omega arith) (omega arith)

set_next : (columns : List Open) (slots : List Slot) (k : ℕ) (d : Open) → k < length columns → k < length slots
    → slice_set (with_each columns (take k slots)) k (with_slot (get_or columns k d) (get_or slots k null)) ≡ with_each columns (take (suc k) slots)
set_next [] slots k d inside many = absurd (omega arith)
set_next (column ∷ columns) [] k d inside many = absurd (omega arith)
set_next (column ∷ columns) (slot ∷ slots) zero d inside many = ap (λ others. with_slot column slot ∷ others) (none_each columns)
set_next (column ∷ columns) (slot ∷ slots) (suc k) d inside many =
    ap (λ others. with_slot column slot ∷ others) (set_next columns slots k d (omega arith) (omega arith))

not_taken : (columns : List Open) (slots : List Slot) (k : ℕ) (d : Open) → k < length columns → k < length slots
    → fits_cell (get_or columns k d).data_type (get_or slots k null) ≡ false → are_taken columns slots ≡ false
not_taken [] slots k d inside many other = absurd (omega arith)
not_taken (column ∷ columns) [] k d inside many other = absurd (omega arith)
not_taken (column ∷ columns) (slot ∷ slots) zero d inside many other = ap (λ b. b && are_taken columns slots) other
not_taken (column ∷ columns) (slot ∷ slots) (suc k) d inside many other =
    ap (λ b. fits_cell column.data_type slot && b) (not_taken columns slots k d (omega arith) (omega arith) other)
    ∙ never (fits_cell column.data_type slot)
  where
    never : (b : Bool) → (b && false) ≡ false
    never true = refl
    never false = refl

-- a slot that fits behind others fits its type
last_fits : (data_type : DataType) (slots : List Slot) (slot : Slot) → list_all (fits_cell data_type) (slots ++ slot ∷ []) ≡ true
    → fits_cell data_type slot ≡ true
last_fits data_type [] slot fit = (and_parts (fits_cell data_type slot) true fit).0
last_fits data_type (first ∷ slots) slot fit =
    last_fits data_type slots slot (and_parts (fits_cell data_type first) (list_all (fits_cell data_type) (slots ++ slot ∷ [])) fit).1

its_slot_fits : (column : Open) (slot : Slot) → is_fitting (with_slot column slot) ≡ true → fits_cell column.data_type slot ≡ true
its_slot_fits column slot fit =
    let all = list_all (fits_cell column.data_type) (column.slots ++ slot ∷ []) in
    last_fits column.data_type column.slots slot (and_parts all (is_within column.data_type (column.slots ++ slot ∷ [])) fit).0

-- the slots before a place fit behind those of their columns
abbrev FitBefore : List Open → List Slot → ℕ → Type 0
FitBefore columns slots k = (j : ℕ) (d : Open) → j < k → is_fitting (get_or (with_each columns slots) j d) ≡ true

-- so those of all overflow where the slot at the place fits its type, and its column doesn't fit with it
overflow_at : (columns : List Open) (slots : List Slot) (k : ℕ) (d : Open) → k < length columns → k < length slots → FitBefore columns slots k
    → fits_cell (get_or columns k d).data_type (get_or slots k null) ≡ true
    → is_fitting (with_slot (get_or columns k d) (get_or slots k null)) ≡ false → slots_overflow columns slots ≡ true
overflow_at [] slots k d inside many before fit over = absurd (omega arith)
overflow_at (column ∷ columns) [] k d inside many before fit over = absurd (omega arith)
overflow_at (column ∷ columns) (slot ∷ slots) zero d inside many before fit over =
    and_from (fits_cell column.data_type slot) (not (is_fitting (with_slot column slot)) || slots_overflow columns slots) fit
    (ap (λ b. not b || slots_overflow columns slots) over)
overflow_at (column ∷ columns) (slot ∷ slots) (suc k) d inside many before fit over =
    and_from (fits_cell column.data_type slot) (not (is_fitting (with_slot column slot)) || slots_overflow columns slots)
    (its_slot_fits column slot (before 0 d (omega arith)))
    (ap (λ b. not (is_fitting (with_slot column slot)) || b)
    (overflow_at columns slots k d (omega arith) (omega arith) (λ j d less. before (suc j) d (omega arith)) fit over)
    ∙ always (not (is_fitting (with_slot column slot))))
  where
    always : (b : Bool) → (b || true) ≡ true
    always true = refl
    always false = refl

-- why the slot of a column is not taken is why those of all are not
short_of : (columns : List Open) (slots : List Slot) (k : ℕ) (d : Open) → k < length columns → k < length slots → FitBefore columns slots k
    → (fault : Fault) → IsRefused (get_or columns k d) (get_or slots k null) fault → IsShort columns slots fault
short_of columns slots k d inside many before faults.Memory refused = tt
short_of columns slots k d inside many before (faults.Lower (errors.InvalidArgumentError what)) refused =
    not_taken columns slots k d inside many refused
short_of columns slots k d inside many before (faults.Lower errors.Overflow) refused =
    overflow_at columns slots k d inside many before refused.0 refused.1
short_of columns slots k d inside many before _ refused = absurd refused

-- what a column refuses, as a fault
pub refused_as : (column : Open) (slot : Slot) (error : Error) → IsRefusal column slot error → IsRefused column slot (lowered error)
refused_as column slot errors.OutOfMemory refused = tt
refused_as column slot (errors.InvalidArgumentError what) (inl out) = absurd out
refused_as column slot (errors.InvalidArgumentError what) (inr (inl other)) = other.1
refused_as column slot (errors.InvalidArgumentError what) (inr (inr over)) = absurd over.0
refused_as column slot errors.Overflow (inl out) = absurd out
refused_as column slot errors.Overflow (inr (inl other)) = absurd other.0
refused_as column slot errors.Overflow (inr (inr over)) = (over.1, over.2)
refused_as column slot _ (inl out) = absurd out
refused_as column slot _ (inr (inl other)) = absurd other.0
refused_as column slot _ (inr (inr over)) = absurd over.0

-- what is pushed next: the columns before have their slots
module _ (columns now : List Open) (slots : List Slot) (k : ℕ) (slot : Slot) (inside : k < length columns) (many : length slots ≡ length columns)
    (grown : now ≡ with_each columns (take k slots)) (is : slot ≡ get_or slots k null) where
  column_there : (d : Open) → get_or now k d ≡ get_or columns k d
  column_there d = ap (λ others. get_or others k d) grown ∙ next_is columns slots k d inside

  pub one_more_each : (d : Open) (new : List Open) → new ≡ slice_set now k (with_slot (get_or now k d) slot)
      → new ≡ with_each columns (take (k + 1) slots)
  one_more_each d new put =
      put ∙ (λ j. slice_set (grown j) k (with_slot (column_there d j) (is j)))
      ∙ set_next columns slots k d inside (omega (arith, many, inside)) ∙ ap (λ n. with_each columns (take n slots)) (sym (add-one k))

  pub fits_there : (d : Open) → is_fitting (with_slot (get_or now k d) slot) ≡ true → is_fitting (get_or (with_each columns slots) k d) ≡ true
  fits_there d fit =
      ap is_fitting (each_at columns slots k d inside (omega (arith, many, inside)))
      ∙ sym (λ j. is_fitting (with_slot (column_there d j) (is j))) ∙ fit

  pub is_short : (d : Open) (fault : Fault) → FitBefore columns slots k → IsRefused (get_or now k d) slot fault → IsShort columns slots fault
  is_short d fault before refused =
      short_of columns slots k d inside (omega (arith, many, inside)) before fault
      (subst (λ (s : Slot). IsRefused (get_or columns k d) s fault) is
      (subst (λ (o : Open). IsRefused o slot fault) (column_there d) refused))

pub more_of : (F : ℕ → Open → Type 0) (k : ℕ) → ((j : ℕ) (d : Open) → j < k → F j d) → ((d : Open) → F k d) → (j : ℕ) (d : Open) → j < k + 1
    → F j d
more_of F k below here j d less = below_more (λ (j : ℕ). (d : Open) → F j d) k (λ j less d. below j d less) here j less d

pub all_fit : (columns : List Open) → ((k : ℕ) (d : Open) → k < length columns → is_fitting (get_or columns k d) ≡ true)
    → list_all is_fitting columns ≡ true
all_fit [] each = refl
all_fit (column ∷ columns) each =
    and_from (is_fitting column) (list_all is_fitting columns) (each 0 column (omega arith))
    (all_fit columns (λ k d less. each (suc k) d (omega arith)))

pub each_of_them : (columns now : List Open) (slots : List Slot) (n : ℕ) → length slots ≡ n → now ≡ with_each columns (take n slots)
    → now ≡ with_each columns slots
each_of_them columns now slots n many grown = grown ∙ ap (with_each columns) (take_all n slots (omega (arith, many)))

-- the columns before the next one are no shorter than they were
pub no_shorter : (columns now : List Open) (slots : List Slot) (k held : ℕ) → AreLong held columns → now ≡ with_each columns (take k slots)
    → (j : ℕ) (d : Open) → j < k → k ≤ length columns → held ≤ length (get_or now j d).slots
no_shorter columns now slots k held long grown j d less within =
    subst (λ (os : List Open). held ≤ length (get_or os j d).slots) (sym grown) (there columns (take k slots) j long (omega arith))
  where
    there : (os : List Open) (ss : List Slot) (j : ℕ) → AreLong held os → j < length os → held ≤ length (get_or (with_each os ss) j d).slots
    there [] ss j long inside = absurd (omega arith)
    there (o ∷ os) [] j long inside = omega (arith, long j d inside)
    there (o ∷ os) (s ∷ ss) zero long inside = omega (arith, long 0 o inside, length_push o.slots s)
    there (o ∷ os) (s ∷ ss) (suc j) long inside = there os ss j (λ k d less. long (suc k) d (omega arith)) (omega arith)
