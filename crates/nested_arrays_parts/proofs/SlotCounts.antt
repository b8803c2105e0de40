-- How many slots stand in columns without children.
use Rattle.std.proofs.Common.{◌≡◌, ◌≤◌, ◌+◌, ℕ, zero, suc, Bool, true, false, refl, arith}
use Rattle.std.specs.Prelude.{if◌then◌else◌}
use Rattle.nested_arrays_flat.specs.columns.SlotNodes.{nodes_of, slot_nodes}
use Rattle.nested_arrays_flat.specs.columns.Slots.{Slot, null, in_slots, window}
use Rattle.nested_arrays_flat.specs.columns.StoredColumns.{Column, nulls, flat, is_valid_at, slot_at, stored_at}
use Rattle.nested_arrays_flat.specs.columns.StoredColumns.{Stored, bits, numbers, pairs, triples, texts, byte_strings, fixed_bytes}
use Rattle.nested_arrays_parts.specs.Forms.{column_form}
use Rattle.nested_arrays_parts.specs.Ranges.{range_nodes}

stored_alone : (stored : Stored) (i : ℕ) → slot_nodes (stored_at stored i) ≡ 1
stored_alone (bits values) i = refl
stored_alone (numbers kind values) i = refl
stored_alone (pairs kind values) i = refl
stored_alone (triples kind values) i = refl
stored_alone (texts offsets content) i = refl
stored_alone (byte_strings offsets content) i = refl
stored_alone (fixed_bytes size content) i = refl

masked_alone : (b : Bool) (slot : Slot) → slot_nodes slot ≡ 1 → slot_nodes (if b then slot else null) ≡ 1
masked_alone true slot is = is
masked_alone false slot is = refl

-- no slot stands in one of a column without children
slot_alone : (c : Column) (i : ℕ) → column_form c ≤ 4 → slot_nodes (slot_at c i) ≡ 1
slot_alone (nulls t n) i few = refl
slot_alone (flat t mask stored) i few = masked_alone (is_valid_at mask i) (stored_at stored i) (stored_alone stored i)
slot_alone _ i few = absurd (omega arith)

nodes_alone : (f : ℕ → Slot) (a n : ℕ) → ((k : ℕ) → slot_nodes (f k) ≡ 1) → nodes_of (in_slots (window f a n)) ≡ n
nodes_alone f a zero each = refl
nodes_alone f a (suc n) each = omega (arith, each a, nodes_alone f (a + 1) n each)

pub flat_nodes : (c : Column) (i n : ℕ) → column_form c ≤ 4 → range_nodes c i n ≡ n
flat_nodes c i n few = nodes_alone (slot_at c) i n (λ k. slot_alone c k few)
