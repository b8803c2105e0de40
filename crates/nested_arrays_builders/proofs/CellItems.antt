-- The slots of cells that hold others.
use Rattle.std.proofs.Common.{inl, inr, ◌≡◌, ◌∙◌, ℕ, zero, suc, ◌<◌, List, [], ◌∷◌, length, map, get_or}
use Rattle.std.proofs.Common.{Bool, true, false, refl, sym, ap, subst, arith}
use Rattle.std.specs.Prelude.{◌&&◌, ◌==◌, replicate}
use Rattle.std.specs.List.{list_all}
use Rattle.std.proofs.lemmas.Bool.{cases_Bool, eqb-true, false≢true}
use Rattle.std.proofs.lemmas.List.{length-map}
use Rattle.std.proofs.lemmas.List.Folds.{list_all_at}
use Rattle.nested_arrays_builder_values.specs.parts.arrays.columns.Cells.{fit_each, is_list_of, is_list_of_size, is_record_of}
use Rattle.nested_arrays_builder_values.specs.parts.arrays.columns.Children.{field_of, fixed_items_of, items_of, slot_number}
use Rattle.nested_arrays_builder_values.specs.parts.arrays.columns.Rows.{Cell, cell_slot, cell_slots}
use Rattle.nested_arrays_builder_values.specs.parts.arrays.columns.Slots.{Slot, null, items, fields, in_slots, slot_list, slot_then}
use Rattle.nested_arrays_builder_values.specs.parts.columns.OpenParts.{is_list, is_list_sized, is_record_sized}
use Rattle.nested_arrays_builder_values.proofs.parts_lemmas.columns_lemmas.Pieces.{listed}
use Rattle.nested_arrays_builder_values.specs.parts.Scalars.{in_cells, cell_step, cell_of, scalar_slot}
use Rattle.nested_arrays_scalars.specs.declared.scalars.AnyScalar.{AnyScalar, map-AnyScalar}
use Rattle.nested_arrays_scalars.specs.declared.scalars.AnyScalar.TheFolds.{fold-roll-AnyScalar}
use Rattle.nested_arrays_scalars.specs.declared.scalars.AnyScalar.TheOpen as layer
use Rattle.nested_arrays_scalars.specs.declared.scalars.AnyScalar.TheVariants as variant
use Rattle.nested_arrays_scalars.specs.declared.scalars.AnyScalar.TheViews.{roll-AnyScalar, out-AnyScalar, roll-out-AnyScalar}
use denote.Hole.Carrier
use Rattle.nested_arrays_builders.proofs.TakenSlots.{each_has_one}

-- a layer of a cell, where each inside stands as what it is
abbrev cells_in : layer.AnyScalar-F AnyScalar → layer.AnyScalar-F Cell
cells_in x = map-AnyScalar AnyScalar Cell cell_of x

slot_roll : (x : layer.AnyScalar-F AnyScalar) → scalar_slot (roll-AnyScalar x) ≡ cell_slot (cell_step (cells_in x))
slot_roll x = ap cell_slot (fold-roll-AnyScalar Cell cell_step x)

slots_of_cells : (cells : List AnyScalar) → cell_slots (in_cells (map cell_of cells)) ≡ in_slots (map scalar_slot cells)
slots_of_cells [] = refl
slots_of_cells (cell ∷ cells) = ap (λ rest. slot_then (scalar_slot cell) rest) (slots_of_cells cells)

pub list_slot : (cells : List AnyScalar) → scalar_slot (variant.List cells) ≡ items (in_slots (map scalar_slot cells))
unfolding roll-AnyScalar denote.Hole.Carrier.roll
list_slot cells = slot_roll (layer.List cells) ∙ ap items (slots_of_cells cells)

pub record_slot : (cells : List AnyScalar) → scalar_slot (variant.Record cells) ≡ fields (in_slots (map scalar_slot cells))
unfolding roll-AnyScalar denote.Hole.Carrier.roll
record_slot cells = slot_roll (layer.Record cells) ∙ ap fields (slots_of_cells cells)

pub slot_in : (cells : List AnyScalar) (k : ℕ) (d : AnyScalar) → k < length cells
    → get_or (map scalar_slot cells) k null ≡ scalar_slot (get_or cells k d)
slot_in [] k d lt = absurd (omega arith)
slot_in (cell ∷ cells) zero d lt = refl
slot_in (cell ∷ cells) (suc k) d lt = slot_in cells k d (omega (arith, lt))

-- where one does not pass not all do
pub one_fails : (test : Slot → Bool) (cells : List AnyScalar) (k : ℕ) (cell : AnyScalar) → k < length cells → cell ≡ get_or cells k cell
    → test (scalar_slot cell) ≡ false → false ≡ list_all test (map scalar_slot cells)
one_fails test cells k cell lt is off =
    let at : get_or (map scalar_slot cells) k null ≡ scalar_slot cell = slot_in cells k cell lt ∙ ap scalar_slot (sym is) in
    let inside : k < length (map scalar_slot cells) = omega (arith, lt, length-map cells scalar_slot) in
    sym (list_all_at test (map scalar_slot cells) k null inside (ap test at ∙ off))

-- ---- lists

module _ (cell : AnyScalar) (cells : List AnyScalar) (is : cell ≡ variant.List cells) where
  slot_is : scalar_slot cell ≡ items (in_slots (map scalar_slot cells))
  slot_is = ap scalar_slot is ∙ list_slot cells

  items_are : items_of (scalar_slot cell) ≡ map scalar_slot cells
  items_are = ap items_of slot_is ∙ listed (map scalar_slot cells)

  pub items_many : length cells ≡ length (items_of (scalar_slot cell))
  items_many = sym (ap length items_are ∙ length-map cells scalar_slot)

  pub as_many : (n : ℕ) → is_list_sized n (scalar_slot cell) ≡ true → length cells ≡ n
  as_many n sized = items_many ∙ eqb-true (length (items_of (scalar_slot cell))) n
      (ap (λ s. length (items_of s) == n) slot_is ∙ sym (ap (is_list_sized n) slot_is) ∙ sized)

  pub item_at : (n k : ℕ) (d : AnyScalar) → k < length cells
      → scalar_slot (get_or cells k d) ≡ get_or (fixed_items_of n (scalar_slot cell)) k null
  item_at n k d lt =
      sym (ap (λ s. get_or (fixed_items_of n s) k null) slot_is ∙ ap (λ ys. get_or ys k null) (listed (map scalar_slot cells))
      ∙ slot_in cells k d lt)

  pub list_fits : (test : Slot → Bool) → is_list_of test (scalar_slot cell) ≡ list_all test (map scalar_slot cells)
  list_fits test = ap (is_list_of test) slot_is ∙ ap (list_all test) (listed (map scalar_slot cells))

  pub sized_list_fits : (n : ℕ) (test : Slot → Bool)
      → is_list_of_size n test (scalar_slot cell) ≡ ((length cells == n) && list_all test (map scalar_slot cells))
  sized_list_fits n test = ap (is_list_of_size n test) slot_is ∙ ap (λ ys. (length ys == n) && list_all test ys) (listed (map scalar_slot cells))
      ∙ ap (λ m. (m == n) && list_all test (map scalar_slot cells)) (length-map cells scalar_slot)

-- ---- records

module _ (cell : AnyScalar) (cells : List AnyScalar) (is : cell ≡ variant.Record cells) where
  record_is : scalar_slot cell ≡ fields (in_slots (map scalar_slot cells))
  record_is = ap scalar_slot is ∙ record_slot cells

  pub record_fits : (tests : List (Slot → Bool)) → is_record_of tests (scalar_slot cell) ≡ fit_each tests (in_slots (map scalar_slot cells))
  record_fits tests = ap (is_record_of tests) record_is

  pub as_many_fields : (n : ℕ) → is_record_sized n (scalar_slot cell) ≡ true → length cells ≡ n
  as_many_fields n sized =
      sym (length-map cells scalar_slot) ∙ sym (ap length (listed (map scalar_slot cells)))
      ∙ eqb-true (length (slot_list (in_slots (map scalar_slot cells)))) n (sym (ap (is_record_sized n) record_is) ∙ sized)

  pub field_at : (k : ℕ) (d : AnyScalar) → k < length cells → scalar_slot (get_or cells k d) ≡ field_of k (scalar_slot cell)
  field_at k d lt = sym (ap (field_of k) record_is ∙ number_at cells k d lt)
    where
      number_at : (cells : List AnyScalar) (k : ℕ) (d : AnyScalar) → k < length cells
          → slot_number k (in_slots (map scalar_slot cells)) ≡ scalar_slot (get_or cells k d)
      number_at [] k d lt = absurd (omega arith)
      number_at (cell ∷ cells) zero d lt = refl
      number_at (cell ∷ cells) (suc k) d lt = number_at cells k d (omega (arith, lt))

-- no cells fit fields of another number
pub uncounted : (tests : List (Slot → Bool)) (cells : List AnyScalar) → (length tests ≡ length cells → ⊥)
    → false ≡ fit_each tests (in_slots (map scalar_slot cells))
uncounted tests cells differ = elim (cases_Bool (fit_each tests (in_slots (map scalar_slot cells)))) [
  | inl h ↦ absurd (differ (sym (each_has_one tests (in_slots (map scalar_slot cells)) h) ∙ ap length (listed (map scalar_slot cells))
      ∙ length-map cells scalar_slot))
  | inr h ↦ sym h
]

-- ---- nulls

no_list_roll : (x : layer.AnyScalar-F AnyScalar) → ((cells : List AnyScalar) → roll-AnyScalar x ≡ variant.List cells → ⊥)
    → is_list (scalar_slot (roll-AnyScalar x)) ≡ true → scalar_slot (roll-AnyScalar x) ≡ null
unfolding roll-AnyScalar denote.Hole.Carrier.roll
no_list_roll layer.Null other h = slot_roll layer.Null
no_list_roll (layer.List cells) other h = absurd (other cells refl)
no_list_roll x other h = absurd (false≢true (sym (ap is_list (slot_roll x)) ∙ h))

-- what may stand in a column of lists and is none is null
pub no_list : (cell : AnyScalar) → ((cells : List AnyScalar) → cell ≡ variant.List cells → ⊥) → is_list (scalar_slot cell) ≡ true
    → scalar_slot cell ≡ null
no_list cell other h =
    let P : AnyScalar → Type 0 = λ c. ((cells : List AnyScalar) → c ≡ variant.List cells → ⊥) → is_list (scalar_slot c) ≡ true
    → scalar_slot c ≡ null in
    subst P (roll-out-AnyScalar cell) (no_list_roll (out-AnyScalar cell)) other h

no_record_roll : (n : ℕ) (x : layer.AnyScalar-F AnyScalar) → ((cells : List AnyScalar) → roll-AnyScalar x ≡ variant.Record cells → ⊥)
    → is_record_sized n (scalar_slot (roll-AnyScalar x)) ≡ true → scalar_slot (roll-AnyScalar x) ≡ null
unfolding roll-AnyScalar denote.Hole.Carrier.roll
no_record_roll n layer.Null other h = slot_roll layer.Null
no_record_roll n (layer.Record cells) other h = absurd (other cells refl)
no_record_roll n x other h = absurd (false≢true (sym (ap (is_record_sized n) (slot_roll x)) ∙ h))

pub no_record : (n : ℕ) (cell : AnyScalar) → ((cells : List AnyScalar) → cell ≡ variant.Record cells → ⊥)
    → is_record_sized n (scalar_slot cell) ≡ true → scalar_slot cell ≡ null
no_record n cell other h =
    let P : AnyScalar → Type 0 = λ c. ((cells : List AnyScalar) → c ≡ variant.Record cells → ⊥) → is_record_sized n (scalar_slot c) ≡ true
    → scalar_slot c ≡ null in
    subst P (roll-out-AnyScalar cell) (no_record_roll n (out-AnyScalar cell)) other h

pub sized_is_list : (n : ℕ) (s : Slot) → is_list_sized n s ≡ true → is_list s ≡ true
sized_is_list n null h = refl
sized_is_list n (items ys) h = refl
sized_is_list n _ h = absurd cc

-- each place of a null has null
null_at : (n k : ℕ) → k < n → null ≡ get_or (replicate n null) k null
null_at zero k lt = absurd (omega arith)
null_at (suc n) zero lt = refl
null_at (suc n) (suc k) lt = null_at n k (omega (arith, lt))

pub null_item : (n k : ℕ) (s : Slot) → s ≡ null → k < n → s ≡ get_or (fixed_items_of n s) k null
null_item n k s is lt = is ∙ null_at n k lt ∙ sym (ap (λ s. get_or (fixed_items_of n s) k null) is)
