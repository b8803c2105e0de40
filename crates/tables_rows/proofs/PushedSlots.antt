-- Slots and rows that are pushed into open columns, or don't fit.
use Rattle.std.proofs.Common.{◌≡◌, ◌∙◌, ℕ, zero, suc, ◌+◌, ◌≤◌, ◌<◌, Bool, true, false, ◌&&◌, List, [], ◌∷◌, ◌++◌, length, map, take}
use Rattle.std.proofs.Common.{get_or, refl, sym, ap, subst, arith, inl, inr, add-one}
use Rattle.std.specs.Prelude.{◌⊎◌, nat_lt, slice_set, Err}
use Rattle.std.specs.List.{list_all}
use Rattle.std.proofs.lemmas.Bool.{and_parts, and_from, false≢true, ltb-true}
use Rattle.std.proofs.lemmas.List.{length-map}
use Rattle.std.proofs.lemmas.List.Folds.{list_all-append}
use Rattle.tables_chunks.specs.declared.fault.Fault.{Fault}
use Rattle.tables_chunks.specs.declared.fault.Fault.TheVariants as faults
use Rattle.tables_chunks.specs.ipc_format.columnar_memory.declared.Error.{Error}
use Rattle.tables_chunks.specs.ipc_format.columnar_memory.declared.Error.TheVariants as errors
use Rattle.tables_chunks.specs.ipc_format.columnar_memory.Error.{IsOutOfMemory}
use Rattle.tables_chunks.specs.ipc_format.columns.Cells.{fits_cell}
use Rattle.tables_chunks.specs.ipc_format.columns.OpenBatch.{is_within}
use Rattle.tables_chunks.specs.ipc_format.columns.Slots.{Slot, null}
use Rattle.tables_chunks.specs.ipc_format.columns.StoredColumns.{Column, column_len, column_type, slot_at}
use Rattle.nested_arrays_cells.specs.Pushes.{IsPushedIf}
use Rattle.nested_arrays_cells.specs.ArrayCells.{has_cell, has_cell_at}
use Rattle.nested_arrays_cells.specs.parts.Open.{Open, column_of, opened, with_slot}
use Rattle.tables_chunks.specs.SameRows.{stored_row}
use Rattle.tables_rows.specs.Grouping.{all_fit, emptied, open_fits, open_types, refusal_of, with_row, IsNotTaken, PushesSlot, TakesRow}
use Rattle.tables_rows.proofs.CellsFit.{fits_has_cell}

-- ---- what isn't taken

refuted : {P : Type 0} → ⊥ → P
refuted no_way = absurd no_way

-- what doesn't fit for one reason doesn't for another
pub weaker : (P Q : Type 0) → (P → Q) → (fault : Fault) → IsNotTaken P fault → IsNotTaken Q fault
weaker P Q leads faults.Memory is = tt
weaker P Q leads (faults.Lower errors.Overflow) is = leads is
weaker P Q leads (faults.Lower (errors.NotYetImplemented what)) is = is
weaker P Q leads (faults.Lower (errors.InvalidArgumentError what)) is = is
weaker P Q leads (faults.Lower (errors.ExternalFormat what)) is = is
weaker P Q leads (faults.Lower (errors.OutOfSpec what)) is = is
weaker P Q leads (faults.Lower (errors.External from what)) is = is
weaker P Q leads (faults.Lower (errors.Io what)) is = is
weaker P Q leads (faults.Lower errors.OutOfMemory) is = is
weaker P Q leads (faults.Ipc error) is = is
weaker P Q leads faults.Unfinished is = is
weaker P Q leads (faults.NotSealable bar) is = is
weaker P Q leads faults.RowWidth is = is
weaker P Q leads faults.NoColumns is = is
weaker P Q leads faults.TooManyRows is = is
weaker P Q leads faults.NoSuchColumn is = is

-- want of memory is no other reason
pub out_of_memory : (P : Type 0) (fault : Fault) → fault ≡ faults.Memory → IsNotTaken P fault
out_of_memory P fault is = subst (λ (f : Fault). IsNotTaken P f) (sym is) tt

-- ---- slots

and_false : (b : Bool) → (b && false) ≡ false
and_false true = refl
and_false false = refl

-- a slot that doesn't fit by itself doesn't fit behind others
no_cell : (old : Open) (slot : Slot) → fits_cell old.data_type slot ≡ false → open_fits (with_slot old slot) ≡ false
no_cell old slot not_fit =
    let test = fits_cell old.data_type in
    ap (λ b. b && is_within old.data_type (old.slots ++ slot ∷ []))
    (list_all-append test old.slots (slot ∷ []) ∙ ap (λ b. list_all test old.slots && (b && true)) not_fit ∙ and_false (list_all test old.slots))

refused_by : (has : Bool) (old new : Open) (slot : Slot) (error : Error) → has_cell old.data_type slot ≡ has
    → IsPushedIf {U = Unit {0}} has old slot new (Err error) → IsOutOfMemory error ⊎ (open_fits (with_slot old slot) ≡ false)
refused_by true old new slot error has (same, inl out) = inl out
refused_by true old new slot error has (same, inr (inl other)) = inr (no_cell old slot other.1)
refused_by true old new slot error has (same, inr (inr over)) = inr over.2
refused_by false old new slot error has pushed = inr (no_cell old slot (by_test (fits_cell old.data_type slot) refl))
  where
    by_test : (test : Bool) → fits_cell old.data_type slot ≡ test → fits_cell old.data_type slot ≡ false
    by_test true is = absurd (false≢true (sym has ∙ fits_has_cell old.data_type slot is))
    by_test false is = is

called : (P : Type 0) (error : Error) → IsOutOfMemory error ⊎ P → IsNotTaken P (refusal_of error)
called P errors.OutOfMemory is = tt
called P errors.Overflow (inl no_way) = refuted no_way
called P errors.Overflow (inr is) = is
called P (errors.NotYetImplemented what) (inl no_way) = refuted no_way
called P (errors.NotYetImplemented what) (inr is) = is
called P (errors.InvalidArgumentError what) (inl no_way) = refuted no_way
called P (errors.InvalidArgumentError what) (inr is) = is
called P (errors.ExternalFormat what) (inl no_way) = refuted no_way
called P (errors.ExternalFormat what) (inr is) = is
called P (errors.OutOfSpec what) (inl no_way) = refuted no_way
called P (errors.OutOfSpec what) (inr is) = is
called P (errors.External from what) (inl no_way) = refuted no_way
called P (errors.External from what) (inr is) = is
called P (errors.Io what) (inl no_way) = refuted no_way
called P (errors.Io what) (inr is) = is

-- a slot of an array that is refused
pub slot_refused : (array : Column) (row : ℕ) (old new : Open) (error : Error) (fault : Fault) → old.data_type ≡ column_type array
    → IsPushedIf {U = Unit {0}} (has_cell_at row array) old (slot_at array row) new (Err error) → fault ≡ refusal_of error
    → PushesSlot old (slot_at array row) (Err fault) new
slot_refused array row old new error fault typed pushed is =
    let slot = slot_at array row in
    subst (λ (f : Fault). IsNotTaken (open_fits (with_slot old slot) ≡ false) f) (sym is)
    (called (open_fits (with_slot old slot) ≡ false) error
    (refused_by (has_cell_at row array) old new slot error (ap (λ t. has_cell t slot) typed) pushed))

-- ---- rows

pub none_pushed : (os : List Open) → os ≡ with_row os []
none_pushed [] = refl
none_pushed (o ∷ os) = refl

pub row_count : (os : List Open) (ss : List Slot) → length (with_row os ss) ≡ length os
row_count [] ss = refl
row_count (o ∷ os) [] = refl
row_count (o ∷ os) (s ∷ ss) = ap suc (row_count os ss)

next_is : (os : List Open) (ss : List Slot) (k : ℕ) (d : Open) → k < length os → get_or (with_row os (take k ss)) k d ≡ get_or os k d
next_is [] ss k d lt = absurd (omega arith)
next_is (o ∷ os) ss zero d lt = refl
next_is (o ∷ os) [] (suc k) d lt = refl
next_is (o ∷ os) (s ∷ ss) (suc k) d lt = next_is os ss k d (omega (arith, lt))

row_at_place : (os : List Open) (ss : List Slot) (k : ℕ) (d : Open) → k < length os → k < length ss
    → get_or (with_row os ss) k d ≡ with_slot (get_or os k d) (get_or ss k null)
row_at_place [] ss k d lt many = absurd (omega arith)
row_at_place (o ∷ os) [] k d lt many = absurd (omega (arith, many))
row_at_place (o ∷ os) (s ∷ ss) zero d lt many = refl
row_at_place (o ∷ os) (s ∷ ss) (suc k) d lt many = row_at_place os ss k d (omega (arith, lt)) (omega (arith, many))

set_next : (os : List Open) (ss : List Slot) (k : ℕ) (d : Open) → k < length os → k < length ss
    → slice_set (with_row os (take k ss)) k (with_slot (get_or os k d) (get_or ss k null)) ≡ with_row os (take (suc k) ss)
set_next [] ss k d lt many = absurd (omega arith)
set_next (o ∷ os) [] k d lt many = absurd (omega (arith, many))
set_next (o ∷ os) (s ∷ ss) zero d lt many = ap (λ rest. with_slot o s ∷ rest) (none_pushed os)
set_next (o ∷ os) (s ∷ ss) (suc k) d lt many = ap (λ rest. with_slot o s ∷ rest) (set_next os ss k d (omega (arith, lt)) (omega (arith, many)))

-- where one of some columns doesn't fit, they don't
not_all : (os : List Open) (k : ℕ) (d : Open) → k < length os → open_fits (get_or os k d) ≡ false → all_fit os ≡ false
not_all [] k d lt is = absurd (omega arith)
not_all (o ∷ os) zero d lt is = ap (λ b. b && all_fit os) is
not_all (o ∷ os) (suc k) d lt is = ap (λ b. open_fits o && b) (not_all os k d (omega (arith, lt)) is) ∙ and_false (open_fits o)

one_more_fits : (os : List Open) (k : ℕ) (d : Open) → k < length os → all_fit (take k os) ≡ true → open_fits (get_or os k d) ≡ true
    → all_fit (take (suc k) os) ≡ true
one_more_fits [] k d lt fit is = absurd (omega arith)
one_more_fits (o ∷ os) zero d lt fit is = and_from (open_fits o) true is refl
one_more_fits (o ∷ os) (suc k) d lt fit is =
    let parts = and_parts (open_fits o) (all_fit (take k os)) fit in
    and_from (open_fits o) (all_fit (take (suc k) os)) parts.0 (one_more_fits os k d (omega (arith, lt)) parts.1 is)

typed_at : (os : List Open) (arrays : List Column) (k : ℕ) (d : Open) (e : Column) → open_types os ≡ map column_type arrays → k < length arrays
    → (get_or os k d).data_type ≡ column_type (get_or arrays k e)
typed_at [] [] k d e typed lt = absurd (omega arith)
typed_at [] (a ∷ arrays) k d e typed lt = absurd cc
typed_at (o ∷ os) [] k d e typed lt = absurd (omega arith)
typed_at (o ∷ os) (a ∷ arrays) zero d e typed lt = (cc)
typed_at (o ∷ os) (a ∷ arrays) (suc k) d e typed lt =
    let rest : open_types os ≡ map column_type arrays = cc in
    typed_at os arrays k d e rest (omega (arith, lt))

pub as_many : (os : List Open) (arrays : List Column) → open_types os ≡ map column_type arrays → length os ≡ length arrays
as_many os arrays typed =
    sym (length-map os (λ (o : Open). o.data_type)) ∙ ap length typed ∙ length-map arrays column_type

stored_at_place : (arrays : List Column) (row k : ℕ) (e : Column) → k < length arrays
    → get_or (stored_row arrays row) k null ≡ slot_at (get_or arrays k e) row
stored_at_place [] row k e lt = absurd (omega arith)
stored_at_place (a ∷ arrays) row zero e lt = refl
stored_at_place (a ∷ arrays) row (suc k) e lt = stored_at_place arrays row k e (omega (arith, lt))

inside_at : (arrays : List Column) (row k : ℕ) (e : Column) → list_all (λ (array : Column). nat_lt row (column_len array)) arrays ≡ true
    → k < length arrays → row < column_len (get_or arrays k e)
inside_at [] row k e all lt = absurd (omega arith)
inside_at (a ∷ arrays) row zero e all lt =
    ltb-true row (column_len a) (and_parts (nat_lt row (column_len a)) (list_all (λ (array : Column). nat_lt row (column_len array)) arrays) all).0
inside_at (a ∷ arrays) row (suc k) e all lt =
    inside_at arrays row k e (and_parts (nat_lt row (column_len a)) (list_all (λ (array : Column). nat_lt row (column_len array)) arrays) all).1
    (omega (arith, lt))

same_default : (os : List Open) (k : ℕ) (e d : Open) → k < length os → get_or os k e ≡ get_or os k d
same_default [] k e d lt = absurd (omega arith)
same_default (o ∷ os) zero e d lt = refl
same_default (o ∷ os) (suc k) e d lt = same_default os k e d (omega (arith, lt))

-- the column that is next, and the array whose slot is pushed into it
module _ (os now : List Open) (arrays : List Column) (row k : ℕ) (child : Open) (array : Column) (takes : TakesRow os arrays row)
    (pushed : now ≡ with_row os (take k (stored_row arrays row))) (lt : k < length arrays) (own : child ≡ get_or now k child)
    (its : array ≡ get_or arrays k array) where
  abbrev slots_now : List Slot
  slots_now = stored_row arrays row

  few : k < length os
  few = omega (arith, lt, as_many os arrays takes.typed)

  many : k < length slots_now
  many = omega (arith, lt, length-map arrays (λ (column : Column). slot_at column row))

  next : child ≡ get_or os k child
  next = own ∙ ap (λ zs. get_or zs k child) pushed ∙ next_is os slots_now k child few

  pub child_typed : child.data_type ≡ column_type array
  child_typed = ap (λ (o : Open). o.data_type) next ∙ typed_at os arrays k child array takes.typed lt ∙ ap column_type (sym its)

  pub row_inside : row < column_len array
  row_inside = subst (λ (a : Column). row < column_len a) (sym its) (inside_at arrays row k array takes.inside lt)

  slot_is : slot_at array row ≡ get_or slots_now k null
  slot_is = ap (λ (a : Column). slot_at a row) its ∙ sym (stored_at_place arrays row k array lt)

  pub slot_pushed : (new : Open) → new ≡ with_slot child (slot_at array row) → slice_set now k new ≡ with_row os (take (k + 1) slots_now)
  slot_pushed new more =
      let put : new ≡ with_slot (get_or os k child) (get_or slots_now k null) = more ∙ (λ j. with_slot (next j) (slot_is j)) in
      (λ j. slice_set (pushed j) k (put j)) ∙ set_next os slots_now k child few many ∙ ap (λ n. with_row os (take n slots_now)) (sym (add-one k))

  there : get_or (with_row os slots_now) k child ≡ with_slot child (slot_at array row)
  there = row_at_place os slots_now k child few many ∙ (λ j. with_slot (sym next j) (sym slot_is j))

  pub fits_so_far : all_fit (take k (with_row os slots_now)) ≡ true → open_fits (with_slot child (slot_at array row)) ≡ true
      → all_fit (take (k + 1) (with_row os slots_now)) ≡ true
  fits_so_far fit is =
      ap (λ n. all_fit (take n (with_row os slots_now))) (add-one k)
      ∙ one_more_fits (with_row os slots_now) k child (omega (arith, few, row_count os slots_now)) fit (ap open_fits there ∙ is)

  pub row_refused : (fault : Fault) (new : Open) → PushesSlot child (slot_at array row) (Err fault) new
      → IsNotTaken (all_fit (with_row os slots_now) ≡ false) fault
  row_refused fault new refused = weaker (open_fits (with_slot child (slot_at array row)) ≡ false) (all_fit (with_row os slots_now) ≡ false)
      (λ is. not_all (with_row os slots_now) k child (omega (arith, few, row_count os slots_now)) (ap open_fits there ∙ is)) fault refused

-- ---- columns that are taken

-- the first of some columns left empty
abbrev pub emptied_first : ℕ → List Open → List Open
emptied_first zero os = os
emptied_first (suc k) [] = []
emptied_first (suc k) (o ∷ os) = opened o.data_type [] ∷ emptied_first k os

pub next_full : (k : ℕ) (os : List Open) (d : Open) → get_or (emptied_first k os) k d ≡ get_or os k d
next_full zero os d = refl
next_full (suc k) [] d = refl
next_full (suc k) (o ∷ os) d = next_full k os d

set_emptied : (k : ℕ) (os : List Open) (d : Open) → k < length os
    → slice_set (emptied_first k os) k (opened (get_or os k d).data_type []) ≡ emptied_first (suc k) os
set_emptied k [] d lt = absurd (omega arith)
set_emptied zero (o ∷ os) d lt = refl
set_emptied (suc k) (o ∷ os) d lt = ap (λ rest. opened o.data_type [] ∷ rest) (set_emptied k os d (omega (arith, lt)))

pub all_emptied : (k : ℕ) (os : List Open) → length os ≤ k → emptied_first k os ≡ emptied os
all_emptied zero [] few = refl
all_emptied zero (o ∷ os) few = absurd (omega arith)
all_emptied (suc k) [] few = refl
all_emptied (suc k) (o ∷ os) few = ap (λ rest. opened o.data_type [] ∷ rest) (all_emptied k os (omega (arith, few)))

take_next : (os : List Open) (k : ℕ) (d : Open) → k < length os → take (suc k) os ≡ take k os ++ get_or os k d ∷ []
take_next [] k d lt = absurd (omega arith)
take_next (o ∷ os) zero d lt = refl
take_next (o ∷ os) (suc k) d lt = ap (λ rest. o ∷ rest) (take_next os k d (omega (arith, lt)))

map_next : (xs : List Open) (x : Open) → map column_of (xs ++ x ∷ []) ≡ map column_of xs ++ column_of x ∷ []
map_next [] x = refl
map_next (y ∷ xs) x = ap (λ rest. column_of y ∷ rest) (map_next xs x)

module _ (os now : List Open) (k : ℕ) (child : Open) (left : now ≡ emptied_first k os) (inside : k < length os)
    (own : child ≡ get_or now k child) where
  full : child ≡ get_or os k child
  full = own ∙ ap (λ zs. get_or zs k child) left ∙ next_full k os child

  pub one_emptied : (new : Open) → new ≡ opened child.data_type [] → slice_set now k new ≡ emptied_first (k + 1) os
  one_emptied new is =
      let put : new ≡ opened (get_or os k child).data_type [] = is ∙ ap (λ (o : Open). opened o.data_type []) full in
      (λ j. slice_set (left j) k (put j)) ∙ set_emptied k os child inside ∙ ap (λ n. emptied_first n os) (sym (add-one k))

  pub one_taken : (arrays after : List Column) (array : Column) → arrays ≡ map column_of (take k os) → array ≡ column_of child
      → after ≡ arrays ++ array ∷ [] → after ≡ map column_of (take (k + 1) os)
  one_taken arrays after array so_far is more =
      more ∙ (λ j. so_far j ++ (is ∙ ap column_of full) j ∷ [])
      ∙ sym (ap (λ n. map column_of (take n os)) (add-one k) ∙ ap (map column_of) (take_next os k child inside)
      ∙ map_next (take k os) (get_or os k child))
