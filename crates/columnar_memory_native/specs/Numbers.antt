-- Values of a physical kind as whole numbers, and the bytes that store them (Arrow columnar format,
-- "Fixed-size Primitive Layout", "Byte Order (Endianness)").
use Rattle.std.specs.Prelude.{◌+◌, ◌-◌, ◌*◌, ◌/◌, ◌%◌, ◌^◌, ◌<ℤ◌, ◌≤ℤ◌, ◌++◌, ℕ, suc, ℤ, pos, negsuc, neg_ℤ}
use Rattle.std.specs.Prelude.{Bool, true, false, List, [], take, drop, nat_lt, if◌then◌else◌, FitsSigned}
use Rattle.std.specs.Int.{Width, w8, w16, w32, w64, w128, FitsUnsignedBits, cast_signed, cast_unsigned}
use Rattle.std.specs.Int.{to_le_bytes, to_be_bytes, from_le_bytes, from_be_bytes}
use Rattle.columnar_memory_types.specs.declared.kinds.PrimitiveType.{PrimitiveType}
use Rattle.columnar_memory_types.specs.declared.kinds.PrimitiveType.TheVariants as kinds

-- the whole numbers that a value is made of
pub data Numbers : Type 0 where
  one : ℤ → Numbers
  -- days and milliseconds
  two : ℤ → ℤ → Numbers
  -- months, days and nanoseconds
  three : ℤ → ℤ → ℤ → Numbers

abbrev pub first_number : Numbers → ℤ
first_number (one a) = a
first_number (two a b) = a
first_number (three a b c) = a

abbrev pub second_number : Numbers → ℤ
second_number (one a) = pos 0
second_number (two a b) = b
second_number (three a b c) = b

abbrev pub third_number : Numbers → ℤ
third_number (three a b c) = c
third_number _ = pos 0

-- how many bytes a value of a kind takes
abbrev pub kind_size : PrimitiveType → ℕ
kind_size kinds.Int8 = 1
kind_size kinds.Int16 = 2
kind_size kinds.Int32 = 4
kind_size kinds.Int64 = 8
kind_size kinds.Int128 = 16
kind_size kinds.Int256 = 32
kind_size kinds.UInt8 = 1
kind_size kinds.UInt16 = 2
kind_size kinds.UInt32 = 4
kind_size kinds.UInt64 = 8
kind_size kinds.Float16 = 2
kind_size kinds.Float32 = 4
kind_size kinds.Float64 = 8
kind_size kinds.DaysMs = 8
kind_size kinds.MonthDayNano = 16

-- z is a number of 256 bits in two's complement
abbrev pub FitsWide : ℤ → Type 0
FitsWide z = (neg_ℤ (pos (2 ^ 255)) ≤ℤ z) × (z <ℤ pos (2 ^ 255))

-- A kind has such a value. Floats are no values here.
abbrev pub IsNative : PrimitiveType → Numbers → Type 0
IsNative kinds.Int8 (one z) = FitsSigned w8 z
IsNative kinds.Int16 (one z) = FitsSigned w16 z
IsNative kinds.Int32 (one z) = FitsSigned w32 z
IsNative kinds.Int64 (one z) = FitsSigned w64 z
IsNative kinds.Int128 (one z) = FitsSigned w128 z
IsNative kinds.Int256 (one z) = FitsWide z
IsNative kinds.UInt8 (one z) = FitsUnsignedBits 8 z
IsNative kinds.UInt16 (one z) = FitsUnsignedBits 16 z
IsNative kinds.UInt32 (one z) = FitsUnsignedBits 32 z
IsNative kinds.UInt64 (one z) = FitsUnsignedBits 64 z
IsNative kinds.DaysMs (two days milliseconds) = FitsSigned w32 days × FitsSigned w32 milliseconds
IsNative kinds.MonthDayNano (three months days nanoseconds) = FitsSigned w32 months × FitsSigned w32 days × FitsSigned w64 nanoseconds
IsNative _ _ = ⊥

-- the value that stands where nothing else does
abbrev pub zeros : PrimitiveType → Numbers
zeros kinds.DaysMs = two (pos 0) (pos 0)
zeros kinds.MonthDayNano = three (pos 0) (pos 0) (pos 0)
zeros _ = one (pos 0)

-- a number of a width in two's complement, its lowest or its highest byte first
abbrev pub number_bytes : Bool → Width → ℤ → List ℕ
number_bytes true w z = to_le_bytes w (cast_unsigned w z)
number_bytes false w z = to_be_bytes w (cast_unsigned w z)

-- the 256 bits of a number in two's complement
abbrev pub wide_bits : ℤ → ℕ
wide_bits (pos n) = n
wide_bits (negsuc n) = 2 ^ 256 - suc n

-- 256 bits are two numbers of 128, the lower or the higher one first
abbrev pub wide_bytes : Bool → ℕ → List ℕ
wide_bytes true n = to_le_bytes w128 (n % 2 ^ 128) ++ to_le_bytes w128 (n / 2 ^ 128)
wide_bytes false n = to_be_bytes w128 (n / 2 ^ 128) ++ to_be_bytes w128 (n % 2 ^ 128)

-- The bytes of a value of a kind, the lowest or the highest byte first. The parts of an interval stand in the byte order singly.
abbrev pub bytes_of : PrimitiveType → Bool → Numbers → List ℕ
bytes_of kinds.Int8 little (one z) = number_bytes little w8 z
bytes_of kinds.Int16 little (one z) = number_bytes little w16 z
bytes_of kinds.Int32 little (one z) = number_bytes little w32 z
bytes_of kinds.Int64 little (one z) = number_bytes little w64 z
bytes_of kinds.Int128 little (one z) = number_bytes little w128 z
bytes_of kinds.Int256 little (one z) = wide_bytes little (wide_bits z)
bytes_of kinds.UInt8 little (one z) = number_bytes little w8 z
bytes_of kinds.UInt16 little (one z) = number_bytes little w16 z
bytes_of kinds.UInt32 little (one z) = number_bytes little w32 z
bytes_of kinds.UInt64 little (one z) = number_bytes little w64 z
bytes_of kinds.DaysMs little (two days milliseconds) = number_bytes little w32 days ++ number_bytes little w32 milliseconds
bytes_of kinds.MonthDayNano little (three months days nanoseconds) =
    number_bytes little w32 months ++ number_bytes little w32 days ++ number_bytes little w64 nanoseconds
bytes_of _ little _ = []

-- the number of a width that some bytes spell
abbrev pub unsigned_in : Bool → Width → List ℕ → ℕ
unsigned_in true w bytes = from_le_bytes w bytes
unsigned_in false w bytes = from_be_bytes w bytes

-- the same in two's complement
abbrev pub signed_in : Bool → Width → List ℕ → ℤ
signed_in little w bytes = cast_signed w (unsigned_in little w bytes)

-- the 256 bits that some bytes spell
abbrev pub wide_in : Bool → List ℕ → ℕ
wide_in true bytes = from_le_bytes w128 (take 16 bytes) + 2 ^ 128 * from_le_bytes w128 (drop 16 bytes)
wide_in false bytes = from_be_bytes w128 (drop 16 bytes) + 2 ^ 128 * from_be_bytes w128 (take 16 bytes)

-- the number of 256 bits in two's complement
abbrev pub wide_number : ℕ → ℤ
wide_number n = if nat_lt n (2 ^ 255) then pos n else negsuc (2 ^ 256 - 1 - n)

-- the value of a kind that some bytes spell
abbrev pub numbers_in : PrimitiveType → Bool → List ℕ → Numbers
numbers_in kinds.Int8 little bytes = one (signed_in little w8 bytes)
numbers_in kinds.Int16 little bytes = one (signed_in little w16 bytes)
numbers_in kinds.Int32 little bytes = one (signed_in little w32 bytes)
numbers_in kinds.Int64 little bytes = one (signed_in little w64 bytes)
numbers_in kinds.Int128 little bytes = one (signed_in little w128 bytes)
numbers_in kinds.Int256 little bytes = one (wide_number (wide_in little bytes))
numbers_in kinds.UInt8 little bytes = one (pos (unsigned_in little w8 bytes))
numbers_in kinds.UInt16 little bytes = one (pos (unsigned_in little w16 bytes))
numbers_in kinds.UInt32 little bytes = one (pos (unsigned_in little w32 bytes))
numbers_in kinds.UInt64 little bytes = one (pos (unsigned_in little w64 bytes))
numbers_in kinds.DaysMs little bytes = two (signed_in little w32 (take 4 bytes)) (signed_in little w32 (drop 4 bytes))
numbers_in kinds.MonthDayNano little bytes =
    three (signed_in little w32 (take 4 bytes)) (signed_in little w32 (take 4 (drop 4 bytes))) (signed_in little w64 (drop 8 bytes))
numbers_in _ little bytes = one (pos 0)
