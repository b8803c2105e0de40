-- What the slots of a dictionary need of its values.
use Rattle.std.specs.Prelude.{ℕ, zero, suc, ◌+◌, ◌-◌, ℤ, pos, max, List, [], ◌∷◌, ◌++◌, map, replicate}
use Rattle.nested_arrays_builder_parts.specs.arrays.columns.FreshColumns.{is_valid, key_among}
use Rattle.nested_arrays_builder_parts.specs.arrays.columns.Slots.{Slot}
use Rattle.nested_arrays_builder_parts.specs.columns.OpenParts.{used_by}

-- how many of some values a slot needs: one more than its key, and none under a null
abbrev pub use_among : List Slot → Slot → ℕ
use_among values slot = used_by (is_valid slot) (key_among values slot)

abbrev pub uses_among : List Slot → List Slot → List ℕ
uses_among values slots = map (use_among values) slots

-- the key of a slot that needs so many; 0 where it needs none
abbrev pub key_of : ℕ → ℕ
key_of zero = 0
key_of (suc key) = key

-- the keys of slots that need so many
abbrev pub keys_from : List ℕ → List ℤ
keys_from uses = map (λ n. pos (key_of n)) uses

-- the greatest of some numbers, or 0
abbrev pub greatest : List ℕ → ℕ
greatest [] = 0
greatest (n ∷ ns) = max n (greatest ns)

-- the places at which the greatest of some numbers and a first one rises, once for each step by one
abbrev pub raises_from : ℕ → ℕ → List ℕ → List ℕ
raises_from place most [] = []
raises_from place most (n ∷ ns) = replicate (n - most) place ++ raises_from (place + 1) (max most n) ns
