-- Several slots that are pushed one after another.
use Rattle.std.proofs.Common.{inl, inr, ◌≡◌, ◌∙◌, ℕ, zero, suc, ◌+◌, ◌<◌, ◌≤◌, List, [], ◌∷◌, ◌++◌, length, take}
use Rattle.std.proofs.Common.{drop, get_or, Bool, true, false, refl, sym, ap}
use Rattle.std.proofs.Common.{arith, append_assoc, length-append}
use Rattle.std.specs.Prelude.{◌&&◌, ◌==◌, replicate}
use Rattle.std.specs.List.{list_all}
use Rattle.std.proofs.lemmas.Bool.{and_parts, eqb-true, false≢true}
use Rattle.std.proofs.lemmas.List.{take_at, take_all, take_more, take-append-drop, length-replicate}
use Rattle.nested_arrays_builder_values.specs.parts.arrays.columnar_memory.declared.DataType.{DataType}
use Rattle.nested_arrays_builder_values.specs.parts.arrays.columnar_memory.declared.Error.{Error}
use Rattle.nested_arrays_builder_values.specs.parts.arrays.columns.Cells.{fits_cell, is_list_of_size}
use Rattle.nested_arrays_builder_values.specs.parts.arrays.columns.Children.{fixed_items_of}
use Rattle.nested_arrays_builder_values.specs.parts.arrays.columns.OpenBatch.{fits}
use Rattle.nested_arrays_builder_values.specs.parts.arrays.columns.Slots.{Slot, null, items, slot_list}
use Rattle.nested_arrays_builder_values.proofs.parts_lemmas.arrays_lemmas.columns_lemmas.Fitting.{null_fits}
use Rattle.nested_arrays_builder_values.specs.parts.columns.OpenParts.{is_list_sized}
use Rattle.nested_arrays_builder_values.proofs.parts_lemmas.columns_lemmas.Limits.{fits_not_with_more}
use Rattle.nested_arrays_builder_values.specs.parts.Open.{Open, opened, first_slots, with_slot, IsRefusal}
use Rattle.nested_arrays_builders.specs.Parts.{with_slots, IsShort}

pub each_passes : {A : Type 0} (test : A → Bool) (xs : List A) (k : ℕ) (d : A) → list_all test xs ≡ true → k < length xs
    → test (get_or xs k d) ≡ true
each_passes test [] k d all lt = absurd (omega arith)
each_passes test (x ∷ xs) zero d all lt = (and_parts (test x) (list_all test xs) all).0
each_passes test (x ∷ xs) (suc k) d all lt = each_passes test xs k d (and_parts (test x) (list_all test xs) all).1 (omega (arith, lt))

-- ---- the items of a list of so many

nulls_fit : (t : DataType) (n : ℕ) → list_all (fits_cell t) (replicate n null) ≡ true
nulls_fit t zero = refl
nulls_fit t (suc n) = ap (λ b. b && list_all (fits_cell t) (replicate n null)) (null_fits t) ∙ nulls_fit t n

-- a list of so many items, or null, is one, and its items fit
pub record AreItems (t : DataType) (n : ℕ) (s : Slot) : Type 0 where
  pub sized : is_list_sized n s ≡ true
  pub many : length (fixed_items_of n s) ≡ n
  pub fit : list_all (fits_cell t) (fixed_items_of n s) ≡ true

pub are_items : (t : DataType) (n : ℕ) (s : Slot) → is_list_of_size n (fits_cell t) s ≡ true → AreItems t n s
are_items t n null h = record { sized = refl; many = length-replicate n null; fit = nulls_fit t n }
are_items t n (items slots) h =
    let both = and_parts (length (slot_list slots) == n) (list_all (fits_cell t) (slot_list slots)) h in
    record { sized = both.0; many = eqb-true (length (slot_list slots)) n both.0; fit = both.1 }
are_items t n _ h = absurd cc

-- ---- one more of them

module _ (o now : Open) (ys : List Slot) (k : ℕ) (s : Slot) (lt : k < length ys) (held : now ≡ with_slots o (take k ys))
    (is : s ≡ get_or ys k null) where
  joined : now.slots ++ s ∷ [] ≡ o.slots ++ take (k + 1) ys
  joined = (λ j. (held j).slots ++ is j ∷ []) ∙ append_assoc o.slots (take k ys) (get_or ys k null ∷ [])
      ∙ ap (λ zs. o.slots ++ zs) (sym (take_more ys k null lt))

  pub one_more : with_slot now s ≡ with_slots o (take (k + 1) ys)
  one_more = λ j. opened (held j).data_type (joined j)

  pub item_fits : list_all (fits_cell o.data_type) ys ≡ true → fits_cell now.data_type s ≡ true
  item_fits all = (λ j. fits_cell (held j).data_type (is j)) ∙ each_passes (fits_cell o.data_type) ys k null all lt

  -- where one of them is not taken they are short of room
  pub is_short : (e : Error) → fits_cell now.data_type s ≡ true → IsRefusal now s e → IsShort o ys e
  is_short e fit (inl out) = inl out
  is_short e fit (inr (inl other)) = absurd (false≢true (sym other.1 ∙ fit))
  is_short e fit (inr (inr over)) =
      let here : fits o.data_type (o.slots ++ take (k + 1) ys) ≡ false =
      (λ j. fits (sym held j).data_type (sym joined j)) ∙ over.2 in
      let all : (o.slots ++ take (k + 1) ys) ++ drop (k + 1) ys ≡ o.slots ++ ys =
      append_assoc o.slots (take (k + 1) ys) (drop (k + 1) ys) ∙ ap (λ zs. o.slots ++ zs) (take-append-drop (k + 1) ys) in
      inr (over.0, sym (ap (fits o.data_type) all) ∙ fits_not_with_more o.data_type (o.slots ++ take (k + 1) ys) (drop (k + 1) ys) here)

-- the first of them go again
pub taken_back : (o now : Open) (zs : List Slot) → now ≡ with_slots o zs → first_slots now (length o.slots) ≡ o
taken_back o now zs held = ap (λ (p : Open). first_slots p (length o.slots)) held ∙ ap (opened o.data_type) (take_at o.slots zs (length o.slots) refl)

pub no_fewer : (o now : Open) (zs : List Slot) → now ≡ with_slots o zs → length o.slots ≤ length now.slots
no_fewer o now zs held = omega (arith, ap (λ (p : Open). length p.slots) held, length-append o.slots zs)

pub all_of_them : (o now : Open) (ys : List Slot) (n : ℕ) → length ys ≡ n → now ≡ with_slots o (take n ys) → now ≡ with_slots o ys
all_of_them o now ys n many held = held ∙ ap (with_slots o) (take_all n ys (omega (arith, many)))
