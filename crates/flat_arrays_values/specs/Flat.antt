-- What a flat array is: a data type, the values that it stores, and where a slot may be null a mask (Arrow columnar format, "Fixed-size
-- Primitive Layout", "Validity bitmaps").
use Rattle.std.specs.Prelude.{◌≡◌, ℕ, Bool, true, false, List, length, map, replicate, Option, Some, None, option_map, unwrap_or}
use Rattle.std.specs.Prelude.{is_some, if◌then◌else◌, ◌==◌}
use Rattle.std.specs.List.{zip}
use Rattle.std.specs.Option.{ForSome}
use Rattle.std.specs.Coded.{Coded, code_by, coded×, coded_list, coded_option, coded_bool}
use Rattle.std.proofs.Common.{refl}
use Rattle.columnar_memory_core.specs.contracts.DataType as data_type
use Rattle.columnar_memory_core.specs.declared.DataType.{DataType}
use Rattle.columnar_memory_core.specs.declared.PhysicalType.{PhysicalType}
use Rattle.columnar_memory_core.specs.Layouts.{physical_type}
use Rattle.columnar_memory_core.specs.Bits.{unset_count}
use Rattle.columnar_memory_core.specs.Window.{window}

pub record Flat (V : Type 0) : Type 0 where
  pub data_type : DataType
  pub values : List V
  -- true where a slot has its value, false where it is null; without a mask no slot is null
  pub validity : Option (List Bool)

abbrev pub flat : {V : Type 0} → DataType → List V → Option (List Bool) → Flat V
flat data_type values validity = record { data_type = data_type; values = values; validity = validity }

-- an array is stored as the tuple of its parts
abbrev pub flat_code : {V : Type 0} → Coded V → Coded (Flat V)
flat_code {V} code = code_by (DataType × (List V × Option (List Bool)))
    (coded× data_type.the_row.coded (coded× (coded_list code) (coded_option (coded_list coded_bool))))
    (λ a. (a.data_type, (a.values, a.validity))) (λ parts. flat parts.0 parts.1.0 parts.1.1) (λ a. refl)

-- if there is a mask, it has so many marks
abbrev pub IsMaskOf : ℕ → Option (List Bool) → Type 0
IsMaskOf n validity = ForSome validity (λ mask. length mask ≡ n)

-- Arrays of the type lie in memory like this, and a mask has a mark for each value.
pub record IsFlat {V : Type 0} (layout : PhysicalType) (a : Flat V) : Type 0 where
  pub fits : physical_type a.data_type ≡ layout
  pub masked : IsMaskOf (length a.values) a.validity

-- the mark of each of n values
abbrev pub marks : ℕ → Option (List Bool) → List Bool
marks n None = replicate n true
marks n (Some mask) = mask

abbrev pub marks_of : {V : Type 0} → Flat V → List Bool
marks_of a = marks (length a.values) a.validity

-- each stored value with its mark
abbrev pub marked_of : {V : Type 0} → Flat V → List (V × Bool)
marked_of a = zip a.values (marks_of a)

-- a stored value where its mark is true, and null where it is false
abbrev pub slot_of : {V : Type 0} → V × Bool → Option V
slot_of marked = if marked.1 then Some marked.0 else None

abbrev pub slots_of : {V : Type 0} → Flat V → List (Option V)
slots_of a = map slot_of (marked_of a)

-- the marks from an offset on, this many
abbrev pub cut_mask : Option (List Bool) → ℕ → ℕ → Option (List Bool)
cut_mask validity offset count = option_map (λ mask. window mask offset count) validity

-- the slots from an offset on, this many
abbrev pub cut : {V : Type 0} → Flat V → ℕ → ℕ → Flat V
cut a offset count = flat a.data_type (window a.values offset count) (cut_mask a.validity offset count)

-- so many nulls, each of which stores this value
abbrev pub nulls : {V : Type 0} → DataType → V → ℕ → Flat V
nulls data_type zero n = flat data_type (replicate n zero) (Some (replicate n false))

-- these marks as a mask, or no mask where each is true
abbrev pub mask_of : List Bool → Option (List Bool)
mask_of bits = if unset_count bits == 0 then None else Some bits

-- a mask where a slot is null, and else none
abbrev pub needed_mask : Option (List Bool) → Option (List Bool)
needed_mask None = None
needed_mask (Some mask) = mask_of mask

-- the same slots, with a mask only where one is null
abbrev pub tidied : {V : Type 0} → Flat V → Flat V
tidied a = flat a.data_type a.values (needed_mask a.validity)

-- the array of these slots, which stores this value for each null
abbrev pub of_slots : {V : Type 0} → DataType → V → List (Option V) → Flat V
of_slots data_type zero slots = flat data_type (map (λ slot. unwrap_or slot zero) slots) (mask_of (map is_some slots))
