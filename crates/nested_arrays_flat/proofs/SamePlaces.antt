-- Columns with the same slots, place by place.
use Rattle.std.proofs.Common.{◌≡◌, ◌∙◌, ◌<◌, ◌+◌, ℕ, Bool, zero, suc, sym, ap, arith, length}
use Rattle.std.specs.Prelude.{◌↔◌, ◌==◌, IsTrue}
use Rattle.std.proofs.lemmas.Bool.{eq-eqb, eqb-true}
use Rattle.flat_arrays_core.specs.columnar_memory.declared.DataType.{DataType}
use Rattle.nested_arrays_columns.proofs.Windows.{window_same, length-window}
use Rattle.nested_arrays_columns.specs.Slots.{Slot, Slots, null, no_slot, slot_then, in_slots, window}
use Rattle.nested_arrays_columns.specs.StoredColumns.{Column, column_len, column_type, nulls, slot_at, slots}
use Rattle.nested_arrays_flat.specs.EqualArrays.{AreEqual}

abbrev pub first_slot : Slots → Slot
first_slot no_slot = null
first_slot (slot_then slot slots) = slot

abbrev pub other_slots : Slots → Slots
other_slots no_slot = no_slot
other_slots (slot_then slot slots) = slots

pub each_same : (f g : ℕ → Slot) (a b n : ℕ) → in_slots (window f a n) ≡ in_slots (window g b n) → (k : ℕ) → k < n → f (a + k) ≡ g (b + k)
each_same f g a b zero same k h = absurd (omega arith)
each_same f g a b (suc n) same zero h = ap f (omega arith) ∙ ap first_slot same ∙ ap g (omega arith)
each_same f g a b (suc n) same (suc k) h =
    ap f (omega arith) ∙ each_same f g (a + 1) (b + 1) n (ap other_slots same) k (omega arith) ∙ ap g (omega arith)

-- columns as long as one another have the same slots where the ranges are the same
pub slots_same : (l r : Column) (n : ℕ) → n ≡ column_len l → n ≡ column_len r
    → ((k : ℕ) → k < n → slot_at l (0 + k) ≡ slot_at r (0 + k)) ↔ (slots l ≡ slots r)
slots_same l r n long as_long = (
  λ same. ap (window (slot_at l) 0) (sym long) ∙ window_same (slot_at l) (slot_at r) 0 0 n same ∙ ap (window (slot_at r) 0) as_long,
  λ same. each_same (slot_at l) (slot_at r) 0 0 n
      (ap in_slots (ap (window (slot_at l) 0) long ∙ same ∙ ap (window (slot_at r) 0) (sym as_long))),
)

pub slots_count : (l r : Column) → slots l ≡ slots r → column_len l ≡ column_len r
slots_count l r same = sym (length-window (slot_at l) 0 (column_len l)) ∙ ap length same ∙ length-window (slot_at r) 0 (column_len r)

-- the same, place by place
pub slots_by_place : (l r : Column) (n : ℕ) → n ≡ column_len l → n ≡ column_len r
    → ((k : ℕ) → k < n → slot_at l k ≡ slot_at r k) ↔ (slots l ≡ slots r)
slots_by_place l r n long as_long =
    let both = slots_same l r n long as_long in (
      λ same. both.0 (λ k h. ap (slot_at l) (omega arith) ∙ same k h ∙ ap (slot_at r) (omega arith)),
      λ same k h. ap (slot_at l) (omega arith) ∙ both.1 same k h ∙ ap (slot_at r) (omega arith),
    )

-- nulls of one type are equal where they are as many
pub nulls_same : (a b : Column) (t u : DataType) (m n : ℕ) → nulls t m ≡ a → nulls u n ≡ b → t ≡ u → IsTrue (m == n) ↔ AreEqual a b
nulls_same a b t u m n left right types = (
  λ h. record {
    types = ap column_type (sym left) ∙ types ∙ ap column_type right;
    slots = ap slots (sym left ∙ (λ i. nulls (types i) (eqb-true m n h i)) ∙ right);
  },
  λ equal. eq-eqb m n (ap column_len left ∙ slots_count a b equal.slots ∙ ap column_len (sym right)),
)

-- columns of one type are equal where their slots are
pub equal_then : (a b : Column) (t u : DataType) → t ≡ column_type a → u ≡ column_type b → t ≡ u → (result : Bool)
    → (IsTrue result ↔ (slots a ≡ slots b)) → IsTrue result ↔ AreEqual a b
equal_then a b t u left right types result same =
    (λ h. record { types = sym left ∙ types ∙ right; slots = same.0 h }, λ equal. same.1 equal.slots)
