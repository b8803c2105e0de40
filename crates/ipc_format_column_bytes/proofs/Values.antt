-- The bytes of a value are those of the values that a column stores.
use Rattle.std.proofs.Common.{◌≡◌, ◌/◌, ◌%◌, ◌^◌, ◌++◌, Bool, true, false, refl, ap, arith}
use Rattle.std.specs.Prelude.{ℤ, pos, negsuc}
use Rattle.std.specs.Int.{w128, to_le_bytes, to_be_bytes}
use Rattle.std.proofs.lemmas.Int.{ints}
use Rattle.ipc_format_streams.specs.columnar_memory.Numbers.{Numbers, one, two, three, IsNative, FitsWide, bytes_of, wide_bits}
use Rattle.ipc_format_streams.specs.columnar_memory.declared.PrimitiveType.{PrimitiveType}
use Rattle.ipc_format_streams.specs.columnar_memory.declared.PrimitiveType.TheVariants as kinds
use Rattle.ipc_format_streams.specs.grammar.Buffers.{wide_number}
use Rattle.ipc_format_column_bytes.specs.Numbers.{value_bytes}

same_wide : (z : ℤ) → FitsWide z → wide_bits z ≡ wide_number z
same_wide (pos n) fits = omega (arith, ints)
same_wide (negsuc n) fits = omega (arith, ints)

pub value_is : (kind : PrimitiveType) (little : Bool) (value : Numbers) → IsNative kind value
    → bytes_of kind little value ≡ value_bytes little kind value
value_is kinds.Int8 true (one z) native = refl
value_is kinds.Int8 false (one z) native = refl
value_is kinds.Int16 true (one z) native = refl
value_is kinds.Int16 false (one z) native = refl
value_is kinds.Int32 true (one z) native = refl
value_is kinds.Int32 false (one z) native = refl
value_is kinds.Int64 true (one z) native = refl
value_is kinds.Int64 false (one z) native = refl
value_is kinds.Int128 true (one z) native = refl
value_is kinds.Int128 false (one z) native = refl
value_is kinds.Int256 true (one z) native = ap (λ n. to_le_bytes w128 (n % 2 ^ 128) ++ to_le_bytes w128 (n / 2 ^ 128)) (same_wide z native)
value_is kinds.Int256 false (one z) native = ap (λ n. to_be_bytes w128 (n / 2 ^ 128) ++ to_be_bytes w128 (n % 2 ^ 128)) (same_wide z native)
value_is kinds.UInt8 true (one z) native = refl
value_is kinds.UInt8 false (one z) native = refl
value_is kinds.UInt16 true (one z) native = refl
value_is kinds.UInt16 false (one z) native = refl
value_is kinds.UInt32 true (one z) native = refl
value_is kinds.UInt32 false (one z) native = refl
value_is kinds.UInt64 true (one z) native = refl
value_is kinds.UInt64 false (one z) native = refl
value_is kinds.DaysMs true (two days ms) native = refl
value_is kinds.DaysMs false (two days ms) native = refl
value_is kinds.MonthDayNano true (three months days ns) native = refl
value_is kinds.MonthDayNano false (three months days ns) native = refl
value_is _ little value native = absurd native
