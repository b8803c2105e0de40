-- What an array of byte strings or texts stores (Arrow columnar format, "Variable-size Binary Layout", "Validity bitmaps"), and its slots.
use Rattle.std.specs.Prelude.{ℕ, Bool, true, false, Option, Some, None, List, []}
use Rattle.std.specs.Prelude.{◌∷◌, ◌==◌, length, map, take, drop, replicate, option_map, if◌then◌else◌, is_some, unwrap_or, refl}
use Rattle.std.specs.Coded.{Coded, code_by, coded×, coded_bool, coded_list, coded_option, coded_ℕ}
use Rattle.std.specs.List.{concat, zip}
use Rattle.flat_arrays_values.specs.columnar_memory.Bits.{unset_count}
use Rattle.flat_arrays_values.specs.columnar_memory.Spans.{Spans, spans_between}
use Rattle.flat_arrays_values.specs.columnar_memory.Window.{window}
use Rattle.columnar_memory_types.specs.contracts.data_type.DataType as data_type
use Rattle.flat_arrays_values.specs.columnar_memory.declared.DataType.{DataType}

-- a data type, where each byte string stands among the bytes, and the bytes
pub record ByteStrings : Type 0 where
  pub data_type : DataType
  pub offsets : Spans
  pub bytes : List ℕ
  -- true where a slot has its value, false where it is null; without a mask no slot is null
  pub validity : Option (List Bool)

abbrev pub byte_strings_code : Coded ByteStrings
byte_strings_code = code_by ((DataType × (ℕ × List ℕ)) × (List ℕ × Option (List Bool)))
    (coded× (coded× data_type.the_row.coded (coded× coded_ℕ (coded_list coded_ℕ)))
    (coded× (coded_list coded_ℕ) (coded_option (coded_list coded_bool))))
    (λ a. ((a.data_type, (a.offsets.start, a.offsets.lengths)), (a.bytes, a.validity)))
    (λ p. record { data_type = p.0.0; offsets = record { start = p.0.1.0; lengths = p.0.1.1 }; bytes = p.1.0; validity = p.1.1 }) (λ _. refl)

abbrev pub byte_strings : DataType → Spans → List ℕ → Option (List Bool) → ByteStrings
byte_strings data_type offsets bytes validity = record { data_type = data_type; offsets = offsets; bytes = bytes; validity = validity }

-- how many slots there are
abbrev pub len_of : ByteStrings → ℕ
len_of a = length a.offsets.lengths

-- byte strings of these lengths, one after another in some bytes
abbrev pub cut_by : List ℕ → List ℕ → List (List ℕ)
cut_by [] bytes = []
cut_by (l ∷ ls) bytes = take l bytes ∷ cut_by ls (drop l bytes)

-- the stored byte strings, those under nulls too
abbrev pub values_of : ByteStrings → List (List ℕ)
values_of a = cut_by a.offsets.lengths (drop a.offsets.start a.bytes)

-- the mark of each of n values
abbrev pub marks : ℕ → Option (List Bool) → List Bool
marks n None = replicate n true
marks n (Some mask) = mask

abbrev pub marks_of : ByteStrings → List Bool
marks_of a = marks (len_of a) a.validity

-- each stored value with its mark
abbrev pub marked_of : ByteStrings → List (List ℕ × Bool)
marked_of a = zip (values_of a) (marks_of a)

-- a stored value where its mark is true, and null where it is false
abbrev pub slot_of : List ℕ × Bool → Option (List ℕ)
slot_of marked = if marked.1 then Some marked.0 else None

abbrev pub slots_of : ByteStrings → List (Option (List ℕ))
slots_of a = map slot_of (marked_of a)

-- so many marks from an offset on
abbrev pub cut_mask : Option (List Bool) → ℕ → ℕ → Option (List Bool)
cut_mask validity offset count = option_map (λ mask. window mask offset count) validity

-- so many slots from an offset on: the windows on offsets and mask move, and the bytes stay
abbrev pub cut : ByteStrings → ℕ → ℕ → ByteStrings
cut a offset count =
    byte_strings a.data_type (spans_between a.offsets offset count) a.bytes (cut_mask a.validity offset count)

-- the same values under another mask, or under none
abbrev pub with_mask : ByteStrings → Option (List Bool) → ByteStrings
with_mask a mask = byte_strings a.data_type a.offsets a.bytes mask

-- so many nulls, each of which stores no bytes
abbrev pub nulls : DataType → ℕ → ByteStrings
nulls data_type n = byte_strings data_type (record { start = 0; lengths = replicate n 0 }) [] (Some (replicate n false))

-- where byte strings stand that follow one another from 0 on
abbrev pub packed : List (List ℕ) → Spans
packed values = record { start = 0; lengths = map length values }

-- the array of these byte strings, one after another
abbrev pub of_values : DataType → List (List ℕ) → ByteStrings
of_values data_type values = byte_strings data_type (packed values) (concat values) None

-- what an array stores for a slot: no bytes for a null
abbrev pub stored_for : Option (List ℕ) → List ℕ
stored_for slot = unwrap_or slot []

-- these marks as a mask, or no mask where each is true
abbrev pub mask_of : List Bool → Option (List Bool)
mask_of bits = if unset_count bits == 0 then None else Some bits

-- the array of these slots, one after another
abbrev pub of_slots : DataType → List (Option (List ℕ)) → ByteStrings
of_slots data_type slots = with_mask (of_values data_type (map stored_for slots)) (mask_of (map is_some slots))
