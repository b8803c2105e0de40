-- Numbers of any kind by themselves.
use Rattle.std.specs.Prelude.{◌≡◌, ℤ, pos, false, Option, MatchOption}
use Rattle.nested_arrays_core.specs.arrays.columnar_memory.Numbers.{Numbers, one, two, three}
use Rattle.nested_arrays_core.specs.arrays.columnar_memory.declared.PrimitiveType.{PrimitiveType}
use Rattle.nested_arrays_core.specs.arrays.columnar_memory.declared.PrimitiveType.TheVariants as kinds
use Rattle.nested_arrays_core.specs.arrays.columns.Kinds.{same_kind}
use Rattle.nested_arrays_core.specs.arrays.columns.Slots.{Slot, number, pair, triple}
use Rattle.nested_arrays_builder_parts.specs.declared.numbers.AnyNumber.{AnyNumber}
use Rattle.nested_arrays_builder_parts.specs.declared.numbers.AnyNumber.TheVariants as variant

abbrev pub kind_of_number : AnyNumber → PrimitiveType
kind_of_number (variant.Int8 n) = kinds.Int8
kind_of_number (variant.Int16 n) = kinds.Int16
kind_of_number (variant.Int32 n) = kinds.Int32
kind_of_number (variant.Int64 n) = kinds.Int64
kind_of_number (variant.Int128 n) = kinds.Int128
kind_of_number (variant.Int256 n) = kinds.Int256
kind_of_number (variant.UInt8 n) = kinds.UInt8
kind_of_number (variant.UInt16 n) = kinds.UInt16
kind_of_number (variant.UInt32 n) = kinds.UInt32
kind_of_number (variant.UInt64 n) = kinds.UInt64
kind_of_number (variant.DaysMs value) = kinds.DaysMs
kind_of_number (variant.MonthsDaysNs value) = kinds.MonthDayNano

abbrev pub numbers_of_number : AnyNumber → Numbers
numbers_of_number (variant.Int8 n) = one n
numbers_of_number (variant.Int16 n) = one n
numbers_of_number (variant.Int32 n) = one n
numbers_of_number (variant.Int64 n) = one n
numbers_of_number (variant.Int128 n) = one n
numbers_of_number (variant.Int256 n) = one n
numbers_of_number (variant.UInt8 n) = one (pos n)
numbers_of_number (variant.UInt16 n) = one (pos n)
numbers_of_number (variant.UInt32 n) = one (pos n)
numbers_of_number (variant.UInt64 n) = one (pos n)
numbers_of_number (variant.DaysMs value) = two value.0 value.1
numbers_of_number (variant.MonthsDaysNs value) = three value.0 value.1 value.2

-- the slot that a number becomes
abbrev pub slot_of_number : AnyNumber → Slot
slot_of_number (variant.DaysMs value) = pair kinds.DaysMs value.0 value.1
slot_of_number (variant.MonthsDaysNs value) = triple kinds.MonthDayNano value.0 value.1 value.2
slot_of_number (variant.Int8 n) = number kinds.Int8 n
slot_of_number (variant.Int16 n) = number kinds.Int16 n
slot_of_number (variant.Int32 n) = number kinds.Int32 n
slot_of_number (variant.Int64 n) = number kinds.Int64 n
slot_of_number (variant.Int128 n) = number kinds.Int128 n
slot_of_number (variant.Int256 n) = number kinds.Int256 n
slot_of_number (variant.UInt8 n) = number kinds.UInt8 (pos n)
slot_of_number (variant.UInt16 n) = number kinds.UInt16 (pos n)
slot_of_number (variant.UInt32 n) = number kinds.UInt32 (pos n)
slot_of_number (variant.UInt64 n) = number kinds.UInt64 (pos n)

-- the value of a number that is of this kind, and none of another
abbrev pub IsTakenOut : {T : Type 0} → PrimitiveType → (T → Numbers) → AnyNumber → Option T → Type 0
IsTakenOut kind content any r = MatchOption r (same_kind kind (kind_of_number any) ≡ false)
    (λ value. (kind_of_number any ≡ kind) × (numbers_of_number any ≡ content value))
