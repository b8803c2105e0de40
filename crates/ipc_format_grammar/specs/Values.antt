-- Single values in the bytes of a buffer (Arrow columnar format, "Fixed-size Primitive Layout", "Byte Order (Endianness)").
use Rattle.std.specs.Prelude.{ℕ, ◌+◌, ◌-◌, ◌*◌, ◌/◌, ◌%◌, ◌^◌, ℤ, pos, negsuc, Bool, true, false, List, take, drop, nat_lt, ◌==◌}
use Rattle.std.specs.Prelude.{if◌then◌else◌, slice_index}
use Rattle.std.specs.Int.{Width, w8, w16, w32, w64, w128, from_le_bytes, from_be_bytes, cast_signed}
use Rattle.nested_arrays_columns.specs.columnar_memory.declared.IntegerType.{IntegerType}
use Rattle.nested_arrays_columns.specs.columnar_memory.declared.IntegerType.TheVariants as integers
use Rattle.nested_arrays_columns.specs.columnar_memory.declared.PrimitiveType.{PrimitiveType}
use Rattle.nested_arrays_columns.specs.columnar_memory.declared.PrimitiveType.TheVariants as kinds
use Rattle.nested_arrays_columns.specs.Slots.{Slot, null, number, pair, triple}

-- bit i of some bytes, the lowest bit of a byte first
abbrev pub bit_at : List ℕ → ℕ → Bool
bit_at bytes i = (slice_index bytes (i / 8) / 2 ^ (i % 8)) % 2 == 1

-- a number of a width by its bytes, the lowest or the highest of them first
abbrev pub unsigned_of : Bool → Width → List ℕ → ℕ
unsigned_of true w bytes = from_le_bytes w bytes
unsigned_of false w bytes = from_be_bytes w bytes

-- the same in two's complement
abbrev pub signed_of : Bool → Width → List ℕ → ℤ
signed_of is_little_endian w bytes = cast_signed w (unsigned_of is_little_endian w bytes)

-- 256 bits are two numbers of 128, the lower or the higher one first
abbrev pub wide_of : Bool → List ℕ → ℕ
wide_of true bytes = from_le_bytes w128 (take 16 bytes) + 2 ^ 128 * from_le_bytes w128 (drop 16 bytes)
wide_of false bytes = from_be_bytes w128 (drop 16 bytes) + 2 ^ 128 * from_be_bytes w128 (take 16 bytes)

abbrev pub signed_256 : ℕ → ℤ
signed_256 n = if nat_lt n (2 ^ 255) then pos n else negsuc (2 ^ 256 - 1 - n)

-- how many bytes a number of a kind takes
abbrev pub kind_size : PrimitiveType → ℕ
kind_size kinds.Int8 = 1
kind_size kinds.Int16 = 2
kind_size kinds.Int32 = 4
kind_size kinds.Int64 = 8
kind_size kinds.Int128 = 16
kind_size kinds.Int256 = 32
kind_size kinds.UInt8 = 1
kind_size kinds.UInt16 = 2
kind_size kinds.UInt32 = 4
kind_size kinds.UInt64 = 8
kind_size kinds.Float16 = 2
kind_size kinds.Float32 = 4
kind_size kinds.Float64 = 8
kind_size kinds.DaysMs = 8
kind_size kinds.MonthDayNano = 16

abbrev pub signed_number : PrimitiveType → Bool → Width → List ℕ → Slot
signed_number kind is_little_endian w bytes = number kind (signed_of is_little_endian w bytes)

abbrev pub unsigned_number : PrimitiveType → Bool → Width → List ℕ → Slot
unsigned_number kind is_little_endian w bytes = number kind (pos (unsigned_of is_little_endian w bytes))

-- The value of a kind by its bytes. The parts of an interval stand in the byte order singly. Floats are no values here.
abbrev pub value_of : PrimitiveType → Bool → List ℕ → Slot
value_of kinds.Int8 little bytes = signed_number kinds.Int8 little w8 bytes
value_of kinds.Int16 little bytes = signed_number kinds.Int16 little w16 bytes
value_of kinds.Int32 little bytes = signed_number kinds.Int32 little w32 bytes
value_of kinds.Int64 little bytes = signed_number kinds.Int64 little w64 bytes
value_of kinds.Int128 little bytes = signed_number kinds.Int128 little w128 bytes
value_of kinds.Int256 little bytes = number kinds.Int256 (signed_256 (wide_of little bytes))
value_of kinds.UInt8 little bytes = unsigned_number kinds.UInt8 little w8 bytes
value_of kinds.UInt16 little bytes = unsigned_number kinds.UInt16 little w16 bytes
value_of kinds.UInt32 little bytes = unsigned_number kinds.UInt32 little w32 bytes
value_of kinds.UInt64 little bytes = unsigned_number kinds.UInt64 little w64 bytes
value_of kinds.DaysMs little bytes = pair kinds.DaysMs (signed_of little w32 (take 4 bytes)) (signed_of little w32 (drop 4 bytes))
value_of kinds.MonthDayNano little bytes =
    triple kinds.MonthDayNano (signed_of little w32 (take 4 bytes)) (signed_of little w32 (take 4 (drop 4 bytes)))
    (signed_of little w64 (drop 8 bytes))
value_of _ little bytes = null

-- the bytes of element i, where each has so many
abbrev pub element_bytes : ℕ → List ℕ → ℕ → List ℕ
element_bytes size bytes i = take size (drop (size * i) bytes)

-- value i of a buffer of a kind
abbrev pub value_at : PrimitiveType → Bool → List ℕ → ℕ → Slot
value_at kind is_little_endian bytes i = value_of kind is_little_endian (element_bytes (kind_size kind) bytes i)

-- the key by its bytes
abbrev pub key_of : IntegerType → Bool → List ℕ → ℤ
key_of integers.Int8 little bytes = signed_of little w8 bytes
key_of integers.Int16 little bytes = signed_of little w16 bytes
key_of integers.Int32 little bytes = signed_of little w32 bytes
key_of integers.Int64 little bytes = signed_of little w64 bytes
key_of integers.UInt8 little bytes = pos (unsigned_of little w8 bytes)
key_of integers.UInt16 little bytes = pos (unsigned_of little w16 bytes)
key_of integers.UInt32 little bytes = pos (unsigned_of little w32 bytes)
key_of integers.UInt64 little bytes = pos (unsigned_of little w64 bytes)

abbrev pub key_size : IntegerType → ℕ
key_size integers.Int8 = 1
key_size integers.Int16 = 2
key_size integers.Int32 = 4
key_size integers.Int64 = 8
key_size integers.UInt8 = 1
key_size integers.UInt16 = 2
key_size integers.UInt32 = 4
key_size integers.UInt64 = 8

abbrev pub key_at : IntegerType → Bool → List ℕ → ℕ → ℤ
key_at key is_little_endian bytes i = key_of key is_little_endian (element_bytes (key_size key) bytes i)
