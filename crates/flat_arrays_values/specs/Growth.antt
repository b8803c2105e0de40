-- How the list of a builder grows and changes.
use Rattle.std.specs.Prelude.{ℕ, ◌==◌, if◌then◌else◌, Bool, true, List, ◌++◌, length, map, replicate, Option, Some, None}
use Rattle.std.specs.Prelude.{is_some, unwrap_or, slice_set}
use Rattle.columnar_memory_core.specs.Bits.{unset_count}
use Rattle.flat_arrays_values.specs.Flat.{Flat, flat}

-- more marks behind those of n values; where there is no mask, one is made with the first false mark
abbrev pub with_marks : ℕ → Option (List Bool) → List Bool → Option (List Bool)
with_marks n None bits = if unset_count bits == 0 then None else Some (replicate n true ++ bits)
with_marks n (Some mask) bits = Some (mask ++ bits)

-- the mark of one of n values replaced; where there is no mask, one is made for a false mark
abbrev pub with_mark : ℕ → Option (List Bool) → ℕ → Bool → Option (List Bool)
with_mark n None i b = if b then None else Some (slice_set (replicate n true) i b)
with_mark n (Some mask) i b = Some (slice_set mask i b)

-- more values with their marks
abbrev pub grown : {V : Type 0} → Flat V → List V → List Bool → Flat V
grown a values bits = flat a.data_type (a.values ++ values) (with_marks (length a.values) a.validity bits)

-- more slots, where a null stores this value
abbrev pub with_slots : {V : Type 0} → V → Flat V → List (Option V) → Flat V
with_slots zero a slots = grown a (map (λ slot. unwrap_or slot zero) slots) (map is_some slots)

-- more values, none of them null
abbrev pub with_values : {V : Type 0} → Flat V → List V → Flat V
with_values a values = grown a values (replicate (length values) true)

-- the slot at a place replaced, where a null stores this value
abbrev pub with_slot : {V : Type 0} → V → Flat V → ℕ → Option V → Flat V
with_slot zero a i slot =
    flat a.data_type (slice_set a.values i (unwrap_or slot zero)) (with_mark (length a.values) a.validity i (is_some slot))
