-- The places of the slots of a dense union, each its own.
use Rattle.std.proofs.Common.{◌≡◌, ℕ, zero, suc, ◌+◌, ◌^◌, ◌<◌, ◌≤◌, List, length, true, arith}
use Rattle.std.specs.Prelude.{ℤ, pos, int_le, ◌==◌, Some}
use Rattle.std.specs.List.{list_all}
use Rattle.std.proofs.lemmas.Bool.{and_parts, ltb-true}
use Rattle.nested_arrays_iterators.specs.columnar_memory.declared.DataType.{DataType}
use Rattle.nested_arrays_iterators.proofs.columns_lemmas.Conditions.{parts_of_5}
use Rattle.nested_arrays_iterators.specs.columns.Kinds.{is_signed}
use Rattle.nested_arrays_iterators.specs.columns.Slots.{window}
use Rattle.nested_arrays_iterators.specs.columns.SoundColumns.{are_sound, has_child_at, has_child_types, has_places, holds_below, is_offset, is_sound}
use Rattle.nested_arrays_iterators.specs.columns.StoredColumns.{Columns, unions, type_layer}

is_below : (n : ℕ) → is_offset (pos n) ≡ true → n < 2 ^ 31
is_below n h = ltb-true n (2 ^ 31) (and_parts (int_le (pos 0) (pos n)) (is_signed 32 (pos n)) h).1

-- as many places as offsets count
places_end : (first n : ℕ) → list_all is_offset (window pos first (suc n)) ≡ true → first + n < 2 ^ 31
places_end first zero h = omega (arith, is_below first (and_parts (is_offset (pos first)) true h).0)
places_end first (suc n) h =
    omega (arith, places_end (first + 1) n (and_parts (is_offset (pos first)) (list_all is_offset (window pos (first + 1) (suc n))) h).1)

few_places : (n : ℕ) → list_all is_offset (window pos 0 n) ≡ true → n ≤ 2 ^ 31
few_places zero h = omega arith
few_places (suc n) h = omega (arith, places_end 0 n h)

-- a dense union has no more slots
pub few_slots : (t : DataType) (ids : List ℤ) (n : ℕ) (children : Columns) → is_sound (unions t ids (Some (window pos 0 n)) children) ≡ true
    → n ≤ 2 ^ 31
few_slots t ids n children sound =
    let offsets = Some (window pos 0 n) in
    let parts = parts_of_5 (has_child_types (type_layer t) offsets children) (list_all (is_signed 8) ids) (has_places ids offsets children)
    (holds_below (length ids) (has_child_at (type_layer t) ids offsets children)) (are_sound children) sound in
    few_places n (and_parts (length (window pos 0 n) == length ids) (list_all is_offset (window pos 0 n)) parts.2).1
