-- Slots as items of a list, and as a list.
use Rattle.std.proofs.Common.{◌≡◌, ◌∙◌, ℕ, List, [], ◌∷◌, refl, sym, ap, subst, Bool}
use Rattle.std.specs.Prelude.{◌↔◌, IsTrue}
use Rattle.nested_arrays_arrays.specs.columns.Slots.{Slot, Slots, in_slots, items, slot_list, slot_then, no_slot, window}
use Rattle.nested_arrays_arrays.specs.columns.StoredColumns.{Column, column_len, slot_at, slots}

abbrev items_in : Slot → Slots
items_in (items slots) = slots
items_in _ = no_slot

list_back : (xs : List Slot) → slot_list (in_slots xs) ≡ xs
list_back [] = refl
list_back (x ∷ xs) = ap (λ (ys : List Slot). x ∷ ys) (list_back xs)

same_lists : (xs ys : List Slot) → items (in_slots xs) ≡ items (in_slots ys) → xs ≡ ys
same_lists xs ys same = sym (list_back xs) ∙ ap (λ (slot : Slot). slot_list (items_in slot)) same ∙ list_back ys

-- the items of two columns are the same exactly where their slots are
pub same_items_slots : (l r : Column) (n m : ℕ) (result : Bool) → n ≡ column_len l → m ≡ column_len r
    → (IsTrue result ↔ (items (in_slots (window (slot_at l) 0 n)) ≡ items (in_slots (window (slot_at r) 0 m)))) → IsTrue result ↔ (slots l ≡ slots r)
same_items_slots l r n m result is_n is_m exact =
    let of_right : IsTrue result ↔ (items (in_slots (window (slot_at l) 0 n)) ≡ items (in_slots (slots r))) =
    subst (λ (k : ℕ). IsTrue result ↔ (items (in_slots (window (slot_at l) 0 n)) ≡ items (in_slots (window (slot_at r) 0 k)))) is_m exact in
    let of_both : IsTrue result ↔ (items (in_slots (slots l)) ≡ items (in_slots (slots r))) =
    subst (λ (k : ℕ). IsTrue result ↔ (items (in_slots (window (slot_at l) 0 k)) ≡ items (in_slots (slots r)))) is_n of_right in
    (λ h. same_lists (slots l) (slots r) (of_both.0 h), λ same. of_both.1 (ap (λ (xs : List Slot). items (in_slots xs)) same))

-- the items of two ranges are the same exactly where the ranges are
pub same_items_ranges : (xs ys : List Slot) (result : Bool) → (IsTrue result ↔ (items (in_slots xs) ≡ items (in_slots ys)))
    → IsTrue result ↔ (xs ≡ ys)
same_items_ranges xs ys result exact =
    (λ h. same_lists xs ys (exact.0 h), λ same. exact.1 (ap (λ (zs : List Slot). items (in_slots zs)) same))
