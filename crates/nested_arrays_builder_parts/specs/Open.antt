-- Columns that are being built: a data type, and the slots that were pushed.
use Rattle.std.specs.Prelude.{◌≡◌, ◌⊎◌, Bool, true, false, ℕ, List, [], ◌∷◌, ◌++◌, take, Result, MatchResult}
use Rattle.std.specs.Coded.{Coded, code_by, coded×, coded_list}
use Rattle.std.proofs.Common.{refl}
use Rattle.columnar_memory_types.specs.contracts.data_type.DataType as data_type
use Rattle.nested_arrays_core.specs.arrays.columnar_memory.declared.DataType.{DataType}
use Rattle.nested_arrays_core.specs.arrays.columnar_memory.declared.Error.{Error}
use Rattle.nested_arrays_core.specs.arrays.columnar_memory.Error.{IsInvalidArgument, IsOutOfMemory, IsOverflow}
use Rattle.nested_arrays_core.specs.arrays.columns.Cells.{fits_cell}
use Rattle.nested_arrays_core.specs.arrays.columns.FreshColumns.{fresh}
use Rattle.nested_arrays_core.specs.arrays.columns.OpenBatch.{fits}
use Rattle.nested_arrays_core.specs.arrays.columns.SlotCodes.{slot_code}
use Rattle.nested_arrays_core.specs.arrays.columns.Slots.{Slot, null}
use Rattle.nested_arrays_core.specs.arrays.columns.StoredColumns.{Column}

pub record Open : Type 0 where
  pub data_type : DataType
  pub slots : List Slot

abbrev pub opened : DataType → List Slot → Open
opened data_type slots = record { data_type = data_type; slots = slots }

-- an open column is stored as the pair of its parts
abbrev pub open_code : Coded Open
open_code = code_by (DataType × List Slot) (coded× data_type.the_row.coded (coded_list slot_code)) (λ o. (o.data_type, o.slots))
    (λ parts. opened parts.0 parts.1) (λ o. refl)

-- one more slot
abbrev pub with_slot : Open → Slot → Open
with_slot old slot = opened old.data_type (old.slots ++ slot ∷ [])

-- the first slots
abbrev pub first_slots : Open → ℕ → Open
first_slots old n = opened old.data_type (take n old.slots)

-- the column that the open one becomes
abbrev pub column_of : Open → Column
column_of o = fresh o.data_type o.slots

-- the slots fit a column of the type
abbrev pub IsWithin : Open → Type 0
IsWithin o = fits o.data_type o.slots ≡ true

-- why a slot was not taken: it does not fit the type, or it does and the column has no room for it, or memory ran out
abbrev pub IsRefusal : Open → Slot → Error → Type 0
IsRefusal old slot e = IsOutOfMemory e ⊎ (IsInvalidArgument e × (fits_cell old.data_type slot ≡ false))
    ⊎ (IsOverflow e × (fits_cell old.data_type slot ≡ true) × (fits old.data_type (old.slots ++ slot ∷ []) ≡ false))

-- A slot is pushed: it stands behind the others, and all fit; or it is refused, and the open column is as it was.
abbrev pub IsPushed : {U : Type 0} → Open → Slot → Open → Result U Error → Type 0
IsPushed old slot new r =
    MatchResult r (λ _. (new ≡ with_slot old slot) × IsWithin (with_slot old slot)) (λ e. (new ≡ old) × IsRefusal old slot e)
