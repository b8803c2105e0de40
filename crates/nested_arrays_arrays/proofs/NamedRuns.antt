-- Slots of dictionaries by the values that their keys name, and pairs of values that are known to be the same.
use Rattle.std.proofs.Common.{◌≡◌, ◌∙◌, ◌<◌, ◌≤◌, ◌+◌, ℕ, ℤ, zero, suc, Bool, List, true, false, length, replicate, set, refl, sym, ap, arith}
use Rattle.std.proofs.Common.{get_or, inl, inr}
use Rattle.std.specs.Prelude.{◌↔◌, Option, Some, pos, slice_index, slice_index_or, if◌then◌else◌}
use Rattle.std.proofs.lemmas.Bool.Decides.{eqb_tells}
use Rattle.std.proofs.lemmas.Grind.{get_or-set_at}
use Rattle.std.proofs.lemmas.Option.{slice_get-get_or}
use Rattle.std.proofs.lemmas.List.{get_or-replicate, get_or-set_other, length-replicate, length-set}
use Rattle.nested_arrays_parts.specs.columnar_memory.Numbers.{Numbers, one}
use Rattle.nested_arrays_parts.specs.columnar_memory.declared.DataType.{DataType}
use Rattle.nested_arrays_parts.specs.columns.SlotNodes.{nodes_of, slot_nodes}
use Rattle.nested_arrays_parts.specs.columns.Slots.{Slot, null, in_slots, window}
use Rattle.nested_arrays_parts.specs.columns.StoredColumns.{Column, column_len, is_valid_at, place_of, slot_at}
use Rattle.nested_arrays_parts.specs.flat.ColumnMasks.{column_mask}
use Rattle.nested_arrays_parts.proofs.SameForms.{null_slot, valid_slot}
use Rattle.nested_arrays_parts.proofs.SlotCounts.{flat_nodes}
use Rattle.nested_arrays_parts.specs.Forms.{column_form}
use Rattle.nested_arrays_parts.specs.Keys.{keyed, numbers_in}
use Rattle.nested_arrays_parts.specs.Ranges.{range_nodes}
use Rattle.nested_arrays_arrays.proofs.KeyMasks.{key_there}
use Rattle.nested_arrays_arrays.specs.NamedRuns.{AreSamePairs, named_slot}
use Rattle.nested_arrays_arrays.specs.NamedValues.{firsts}

-- ---- keys

pub no_key : (t : DataType) (keys values : Column) (i : ℕ) → is_valid_at (column_mask keys) i ≡ false → null ≡ slot_at (keyed t keys values) i
no_key t keys values i marked = sym (null_slot (keyed t keys values) i marked)

pub key_slot : (t : DataType) (keys values : Column) (i place : ℕ) → is_valid_at (column_mask keys) i ≡ true
    → place ≡ place_of (slice_index_or (numbers_in keys) i (pos 0)) → slot_at values place ≡ slot_at (keyed t keys values) i
key_slot t keys values i place valid is = ap (slot_at values) is ∙ sym (valid_slot (keyed t keys values) i valid)

-- what a mask says of a slot of keys
pub marked : (mask : Option (List Bool)) (keys : Column) (i : ℕ) (told b : Bool) → mask ≡ column_mask keys → told ≡ is_valid_at mask i → told ≡ b
    → is_valid_at (column_mask keys) i ≡ b
marked mask keys i told b is said here = ap (λ m. is_valid_at m i) (sym is) ∙ sym said ∙ here

-- the place that a stored key names
pub stored_place : {K : Type 0} (number : K → Numbers) (value : K → ℤ) (stored : List K) (keys : Column) (i : ℕ) (key : K) (place : ℕ)
    → ((x : K) → number x ≡ one (value x)) → i < length stored → key ≡ get_or stored i key → firsts number stored ≡ numbers_in keys
    → place ≡ place_of (value key) → place ≡ place_of (slice_index_or (numbers_in keys) i (pos 0))
stored_place number value stored keys i key place law within is same said =
    let there = key_there number value stored i key law (slice_get-get_or stored i key within ∙ ap Some (sym is)) in
    said ∙ ap place_of (sym there) ∙ ap (λ (numbers : List ℤ). place_of (slice_index_or numbers i (pos 0))) same

-- the slots of keys are the same where those of their values are
pub named_same : (l r values others own other : Column) (i j : ℕ) (p q : Option ℕ) → values ≡ own → others ≡ other → named_slot own p ≡ slot_at l i
    → named_slot other q ≡ slot_at r j → (named_slot values p ≡ named_slot others q) ↔ (slot_at l i ≡ slot_at r j)
named_same l r values others own other i j p q left right here there =
    let this : named_slot values p ≡ slot_at l i = ap (λ c. named_slot c p) left ∙ here in
    let that : named_slot others q ≡ slot_at r j = ap (λ c. named_slot c q) right ∙ there in
    (λ same. sym this ∙ same ∙ that, λ same. this ∙ same ∙ sym that)

-- ---- pairs

-- no pairs yet: each left place is past the column
pub no_pairs : (n past : ℕ) (rights : List ℕ) (l r : Column) → column_len l ≤ past → AreSamePairs (replicate n past) rights l r
no_pairs n past rights l r all h within small =
    let here : h < n = omega (arith, within, length-replicate n past) in absurd (omega (arith, all, small, get_or-replicate n h past 0 here))

-- one more pair
pub with_pair : (lefts rights : List ℕ) (l r : Column) (h p q : ℕ) → h < length lefts → h < length rights → slot_at l p ≡ slot_at r q
    → AreSamePairs lefts rights l r → AreSamePairs (set lefts h p) (set rights h q) l r
with_pair lefts rights l r h p q within other_within same known k below small =
    elim (eqb_tells k h) as (λ _. slot_at l (slice_index (set lefts h p) k) ≡ slot_at r (slice_index (set rights h q) k)) [
      | inl here ↦
          ap (slot_at l) (get_or-set_at lefts h k p 0 here.1 within) ∙ same
          ∙ ap (slot_at r) (sym (get_or-set_at rights h k q 0 here.1 other_within))
      | inr there ↦
          let left = get_or-set_other lefts h k p 0 there.1 in
          ap (slot_at l) left ∙ known k (omega (arith, below, length-set lefts h p)) (omega (arith, small, left))
          ∙ ap (slot_at r) (sym (get_or-set_other rights h k q 0 there.1))
    ]

-- ---- counts

masked_alone : (b : Bool) (slot : Slot) → slot_nodes slot ≡ 1 → slot_nodes (if b then slot else null) ≡ 1
masked_alone true slot is = is
masked_alone false slot is = refl

slot_alone : (c : Column) (i : ℕ) → column_form c ≤ 4 → slot_nodes (slot_at c i) ≡ 1
slot_alone c i few = omega (arith, flat_nodes c i 1 few)

each_alone : (f : ℕ → Slot) (a n : ℕ) → ((k : ℕ) → slot_nodes (f k) ≡ 1) → nodes_of (in_slots (window f a n)) ≡ n
each_alone f a zero alone = refl
each_alone f a (suc n) alone = omega (arith, alone a, each_alone f (a + 1) n alone)

-- a slot of a dictionary of values without slots inside stands alone
pub named_nodes : (t : DataType) (keys values : Column) (i n : ℕ) → column_form values ≤ 4 → range_nodes (keyed t keys values) i n ≡ n
named_nodes t keys values i n few = each_alone (slot_at (keyed t keys values)) i n
    (λ k. masked_alone (is_valid_at (column_mask keys) k) (slot_at values (place_of (slice_index_or (numbers_in keys) k (pos 0))))
    (slot_alone values (place_of (slice_index_or (numbers_in keys) k (pos 0))) few))
