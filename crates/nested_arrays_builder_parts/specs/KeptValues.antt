-- Slots of a type without children as they are kept: marks and values.
use Rattle.std.specs.Prelude.{◌≡◌, ◌<◌, ◌⊎◌, Bool, true, false, List, [], ◌∷◌, ◌++◌, length, map, Result, MatchResult}
use Rattle.nested_arrays_core.specs.arrays.columnar_memory.declared.Error.{Error}
use Rattle.nested_arrays_core.specs.arrays.columnar_memory.Error.{IsInvalidArgument, IsOutOfMemory, IsOverflow}
use Rattle.nested_arrays_core.specs.arrays.columnar_memory.declared.DataType.{DataType}
use Rattle.nested_arrays_core.specs.arrays.columnar_memory.Layouts.{physical_type}
use Rattle.nested_arrays_core.specs.arrays.columns.FreshColumns.{is_valid}
use Rattle.nested_arrays_core.specs.arrays.columns.FreshLaws.{is_buildable}
use Rattle.nested_arrays_core.specs.arrays.columns.OpenBatch.{fits}
use Rattle.nested_arrays_core.specs.arrays.columns.Slots.{Slot}
use Rattle.nested_arrays_core.specs.arrays.columns.StoredColumns.{Column, slots}
use Rattle.nested_arrays_builder_parts.specs.Growing.{Growing, takes, has_room, with_value, values_of, layout_of, width_of, grown_column}
use Rattle.nested_arrays_builder_parts.specs.Marks.{mask_of_marks}
use Rattle.nested_arrays_core.specs.arrays.columns.Kinds.{most_slots}
use Rattle.nested_arrays_builder_parts.specs.Open.{Open, opened}
use Rattle.nested_arrays_core.specs.arrays.flat.FlatColumns.{byte_width}

-- the column of these marks and values
abbrev pub kept_column : DataType → List Bool → Growing → Column
kept_column data_type marks values = grown_column data_type (length marks) (mask_of_marks marks) values

-- values of such a type
pub record IsTyped (data_type : DataType) (values : Growing) : Type 0 where
  pub lies : physical_type data_type ≡ layout_of values
  pub wide : byte_width data_type ≡ width_of values
  pub can : is_buildable data_type ≡ true

-- These slots are kept as a mark and a value each, zeros or no bytes under a null, and they fit.
pub record AreKeptAs (data_type : DataType) (marks : List Bool) (values : Growing) (some : List Slot) : Type 0 where
  pub typed : IsTyped data_type values
  pub marked : marks ≡ map is_valid some
  pub held : values ≡ values_of values some
  pub fit : fits data_type some ≡ true

-- the open column of some marks and values
abbrev pub open_of : DataType → List Bool → Growing → Open
open_of data_type marks values = opened data_type (slots (kept_column data_type marks values))

-- A slot's mark and value stand behind the others; or they are as they were: the slot has no value of the kind, there is no room for it, or memory
-- ran out.
abbrev pub TakesSlot : {U : Type 0} → List Bool → Growing → Slot → List Bool → Growing → Result U Error → Type 0
TakesSlot marks values slot new_marks new_values r =
    MatchResult r
    (λ _. (new_marks ≡ marks ++ is_valid slot ∷ []) × (new_values ≡ with_value values slot) × (takes values slot ≡ true)
    × (has_room values slot ≡ true) × (length marks < most_slots))
    (λ e. (new_marks ≡ marks) × (new_values ≡ values) × (IsOutOfMemory e ⊎ (IsInvalidArgument e × (takes values slot ≡ false))
    ⊎ (IsOverflow e × (takes values slot ≡ true) × ((has_room values slot ≡ false) ⊎ (length marks ≡ most_slots)))))
