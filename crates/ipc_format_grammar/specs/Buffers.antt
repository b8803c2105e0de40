-- The bytes of buffers, little-endian (Arrow columnar format, "Validity bitmaps", "Fixed-size Primitive Layout", "Variable-size Binary
-- Layout").
use Rattle.std.specs.Prelude.{ℕ, zero, suc, ◌+◌, ◌*◌, ◌/◌, ◌%◌, ◌-◌, ◌^◌, ℤ, pos, negsuc, Bool, List, [], ◌∷◌, ◌++◌}
use Rattle.std.specs.Prelude.{length, take, drop, count_by, replicate, nat_lt, if◌then◌else◌}
use Rattle.std.specs.List.{flat_map}
use Rattle.std.specs.Int.{Width, w8, w16, w32, w64, w128, byte_len, to_le_bytes, cast_unsigned}
use Rattle.nested_arrays_columns.specs.columnar_memory.declared.IntegerType.{IntegerType}
use Rattle.nested_arrays_columns.specs.columnar_memory.declared.IntegerType.TheVariants as integers
use Rattle.nested_arrays_columns.specs.columnar_memory.declared.PrimitiveType.{PrimitiveType}
use Rattle.nested_arrays_columns.specs.columnar_memory.declared.PrimitiveType.TheVariants as kinds
use Rattle.nested_arrays_columns.specs.Slots.{Slot, number, pair, triple}
use Rattle.nested_arrays_columns.specs.Cells.{is_null}
pub use Rattle.nested_arrays_columns.specs.FreshColumns.{is_valid, is_true, content_of, fixed_content_of, sums_from}
use Rattle.ipc_format_grammar.specs.Values.{kind_size}

-- ---- bitmaps

-- what passes a test among some things, a bit each, as one number: the first thing's bit is the lowest
abbrev pub bits_by : {A : Type 0} → (A → Bool) → List A → ℕ
bits_by test [] = 0
bits_by test (x ∷ xs) = (if test x then 1 else 0) + 2 * bits_by test xs

-- a byte for each eight things, of which the last may be of fewer; there are at most so many bytes
abbrev pub bitmap_by : {A : Type 0} → (A → Bool) → ℕ → List A → List ℕ
bitmap_by test zero xs = []
bitmap_by test (suc most) [] = []
bitmap_by test (suc most) (x ∷ xs) = bits_by test (take 8 (x ∷ xs)) ∷ bitmap_by test most (drop 8 (x ∷ xs))

abbrev pub bitmap_of : {A : Type 0} → (A → Bool) → List A → List ℕ
bitmap_of test xs = bitmap_by test (length xs) xs

-- a bitmap by its bits
abbrev pub bitmap_bytes : List Bool → List ℕ
bitmap_bytes bits = bitmap_of (λ bit. bit) bits

abbrev pub null_count : List Slot → ℕ
null_count slots = count_by is_null slots

-- the validity bitmap, where a slot is null; else nothing
abbrev pub validity_bytes : List Slot → List ℕ
validity_bytes slots = if nat_lt 0 (null_count slots) then bitmap_of is_valid slots else []

-- ---- numbers

-- a whole number of a width; zeros under a null
abbrev pub number_bytes : Width → Slot → List ℕ
number_bytes w (number kind n) = to_le_bytes w (cast_unsigned w n)
number_bytes w _ = replicate (byte_len w) 0

-- 256 bits in two's complement, the lower half first
abbrev pub wide_number : ℤ → ℕ
wide_number (pos n) = n % 2 ^ 256
wide_number (negsuc n) = 2 ^ 256 - 1 - n % 2 ^ 256

abbrev pub wide_bytes : Slot → List ℕ
wide_bytes (number kind n) = to_le_bytes w128 (wide_number n % 2 ^ 128) ++ to_le_bytes w128 (wide_number n / 2 ^ 128)
wide_bytes _ = replicate 32 0

abbrev pub days_and_ms_bytes : Slot → List ℕ
days_and_ms_bytes (pair kind days ms) = to_le_bytes w32 (cast_unsigned w32 days) ++ to_le_bytes w32 (cast_unsigned w32 ms)
days_and_ms_bytes _ = replicate 8 0

abbrev pub months_days_and_ns_bytes : Slot → List ℕ
months_days_and_ns_bytes (triple kind months days ns) =
    to_le_bytes w32 (cast_unsigned w32 months) ++ to_le_bytes w32 (cast_unsigned w32 days) ++ to_le_bytes w64 (cast_unsigned w64 ns)
months_days_and_ns_bytes _ = replicate 16 0

-- the value of a kind; floats have none here
abbrev pub kind_bytes : PrimitiveType → Slot → List ℕ
kind_bytes kinds.Int8 = number_bytes w8
kind_bytes kinds.Int16 = number_bytes w16
kind_bytes kinds.Int32 = number_bytes w32
kind_bytes kinds.Int64 = number_bytes w64
kind_bytes kinds.Int128 = number_bytes w128
kind_bytes kinds.Int256 = wide_bytes
kind_bytes kinds.UInt8 = number_bytes w8
kind_bytes kinds.UInt16 = number_bytes w16
kind_bytes kinds.UInt32 = number_bytes w32
kind_bytes kinds.UInt64 = number_bytes w64
kind_bytes kinds.DaysMs = days_and_ms_bytes
kind_bytes kinds.MonthDayNano = months_days_and_ns_bytes
kind_bytes kind = λ slot. replicate (kind_size kind) 0

-- how wide keys are
abbrev pub key_width : IntegerType → Width
key_width integers.Int8 = w8
key_width integers.Int16 = w16
key_width integers.Int32 = w32
key_width integers.Int64 = w64
key_width integers.UInt8 = w8
key_width integers.UInt16 = w16
key_width integers.UInt32 = w32
key_width integers.UInt64 = w64

-- ---- offsets

-- offsets of a width by the lengths between them, from 0 on
abbrev pub offset_bytes : Width → List ℕ → List ℕ
offset_bytes w lengths = flat_map (to_le_bytes w) (sums_from 0 lengths)
