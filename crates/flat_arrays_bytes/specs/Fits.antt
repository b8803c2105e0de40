-- Which parts make an array of byte strings or of texts.
use Rattle.std.specs.Prelude.{◌≡◌, ℕ, ◌≤◌, Bool, Option, Some, None, List, length, Result, MatchResult, if◌then◌else◌}
use Rattle.flat_arrays_values.specs.columnar_memory.Error.{IsOutOfSpec}
use Rattle.flat_arrays_values.specs.columnar_memory.Spans.{last_of}
use Rattle.flat_arrays_values.specs.columnar_memory.Layouts.{physical_type}
use Rattle.flat_arrays_values.specs.columnar_memory.declared.DataType.{DataType}
use Rattle.flat_arrays_values.specs.columnar_memory.declared.DataType.TheVariants as types
use Rattle.flat_arrays_values.specs.columnar_memory.declared.Error.{Error}
use Rattle.flat_arrays_values.specs.columnar_memory.declared.PhysicalType.{PhysicalType}
use Rattle.flat_arrays_values.specs.columnar_memory.declared.PhysicalType.TheVariants as layouts
use Rattle.flat_arrays_bytes.specs.ByteStrings.{ByteStrings, len_of, values_of}
use Rattle.flat_arrays_bytes.specs.Texts.{AllTexts}

-- if there is a mask, it has so many marks
abbrev pub IsMaskOf : ℕ → Option (List Bool) → Type 0
IsMaskOf n None = Unit {0}
IsMaskOf n (Some mask) = length mask ≡ n

-- if there is a mask, it has so many marks or more
abbrev pub HoldsMarks : ℕ → Option (List Bool) → Type 0
HoldsMarks n None = Unit {0}
HoldsMarks n (Some mask) = n ≤ length mask

-- the function gives back a mask as long as the one it takes, if there is one
abbrev pub KeepsLength : (List Bool → List Bool → Type 0) → Option (List Bool) → Type 0
KeepsLength Gives None = Unit {0}
KeepsLength Gives (Some mask) = (after : List Bool) → Gives mask after → length after ≡ length mask

-- Arrays of the type lie in memory like this, a mask has a mark for each value, and the last value ends within the bytes.
pub record Fits (layout : PhysicalType) (a : ByteStrings) : Type 0 where
  pub fits : physical_type a.data_type ≡ layout
  pub masked : IsMaskOf (len_of a) a.validity
  pub within : last_of a.offsets ≤ length a.bytes

-- how byte strings lie in memory, by whether their offsets are large
abbrev pub binary_layout : Bool → PhysicalType
binary_layout is_large = if is_large then layouts.LargeBinary else layouts.Binary

-- the data type of byte strings, by whether their offsets are large
abbrev pub binary_type : Bool → DataType
binary_type is_large = if is_large then types.LargeBinary else types.Binary

-- the same of texts
abbrev pub text_layout : Bool → PhysicalType
text_layout is_large = if is_large then layouts.LargeUtf8 else layouts.Utf8

abbrev pub text_type : Bool → DataType
text_type is_large = if is_large then types.LargeUtf8 else types.Utf8

-- the parts are those of an array of byte strings
abbrev pub IsBinary : Bool → ByteStrings → Type 0
IsBinary is_large a = Fits (binary_layout is_large) a

-- the parts are those of an array of texts: each stored value, under a null too, is UTF-8 by itself
abbrev pub IsText : Bool → ByteStrings → Type 0
IsText is_large a = Fits (text_layout is_large) a × AllTexts (values_of a)

-- the array of these parts, if they are those of an array, or a refusal
abbrev pub IsChecked : (ByteStrings → Type 0) → ByteStrings → Result ByteStrings Error → Type 0
IsChecked IsArray parts r = MatchResult r (λ a. (a ≡ parts) × IsArray parts) (λ e. IsOutOfSpec e × ¬ IsArray parts)
