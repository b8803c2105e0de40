-- Arrays of byte strings of one size that are made of values and of slots (Arrow columnar format, "Fixed-size Primitive Layout",
-- "Validity bitmaps").
use Rattle.std.specs.Prelude.{◌≡◌, ◌<◌, ◌⊎◌, ℕ, Bool, List, [], ◌∷◌, ◌++◌, length, map, replicate, All, Option, None, is_some}
use Rattle.std.specs.Prelude.{IfSome, option_map, unwrap_or, Result, MatchResult}
use Rattle.std.specs.Iterator.Runs.{SomeRun, WholeRun}
use Rattle.std.specs.List.{concat}
use Rattle.flat_arrays_core.specs.columnar_memory.Error.{IsInvalidArgument, IsOutOfMemory, IsOutOfSpec}
use Rattle.flat_arrays_core.specs.columnar_memory.declared.DataType.TheVariants as types
use Rattle.flat_arrays_core.specs.columnar_memory.declared.Error.{Error}
use Rattle.flat_arrays_core.specs.Flat.{mask_of}
use Rattle.nested_arrays_columns.specs.StoredColumns.{Column}
use Rattle.nested_arrays_flat.specs.FlatColumns.{fixed_column}

-- these bytes, one string of the size after another, under the plainest data type of such strings
abbrev pub sized_column : ℕ → List ℕ → Option (List Bool) → Column
sized_column size bytes mask = fixed_column (types.FixedSizeBinary size) size bytes mask

-- what an array stores for a slot: zeros for a null
abbrev pub stored_for : ℕ → Option (List ℕ) → List ℕ
stored_for size slot = unwrap_or slot (replicate size 0)

-- the column of these slots, with a mask where one is null
abbrev pub of_slots : ℕ → List (Option (List ℕ)) → Column
of_slots size slots = sized_column size (concat (map (stored_for size) slots)) (mask_of (map is_some slots))

-- the column of these values, none of which is null
abbrev pub of_values : ℕ → List (List ℕ) → Column
of_values size values = sized_column size (concat values) None

-- a slot's value, if it has one, has so many bytes
abbrev pub HasSize : ℕ → Option (List ℕ) → Type 0
HasSize size slot = IfSome slot (λ value. length value ≡ size)

-- the column of these slots, each value of which has the size
abbrev pub IsGathered : ℕ → List (Option (List ℕ)) → Column → Type 0
IsGathered size slots column = (column ≡ of_slots size slots) × All (HasSize size) slots

-- the value of the last slot has another size, and that of no slot before it
abbrev pub EndsInOtherSize : ℕ → List (Option (List ℕ)) → Type 0
EndsInOtherSize size slots = (before : List (Option (List ℕ))) × (last : Option (List ℕ)) × (slots ≡ before ++ last ∷ [])
    × All (HasSize size) before × ¬ HasSize size last

-- The column of all slots of an iterator, each value of which has the size, a byte at least. It is refused as out of the format where the size
-- is zero, and as an argument at the first value of another size, which is the last item that is taken; or memory ran out.
abbrev pub GathersAlong : {S A : Type 0} → (S → Option (Option A) → S → Type 0) → (A → List ℕ) → ℕ → S → Result Column Error → Type 0
GathersAlong steps bytes_of size it r =
    MatchResult r
    (λ a. (0 < size) × WholeRun steps it (λ p. IsGathered size (map (option_map bytes_of) p.items) a))
    (λ e. IsOutOfMemory e ⊎ (IsOutOfSpec e × (size ≡ 0))
    ⊎ (IsInvalidArgument e × (0 < size) × SomeRun steps it (λ p. EndsInOtherSize size (map (option_map bytes_of) p.items))))

-- one more slot is stored behind some bytes, or its value has another size, or memory ran out
abbrev pub StoresSlot : {U : Type 0} → ℕ → List ℕ → Option (List ℕ) → List ℕ → Result U Error → Type 0
StoresSlot size bytes slot after r =
    MatchResult r (λ _. (after ≡ bytes ++ stored_for size slot) × HasSize size slot)
    (λ e. IsOutOfMemory e ⊎ (IsInvalidArgument e × ¬ HasSize size slot))
