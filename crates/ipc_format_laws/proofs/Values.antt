-- The bytes of a value give it back (Arrow columnar format, "Fixed-size Primitive Layout").
use Rattle.std.proofs.Common.{◌≡◌, ◌∙◌, ℕ, ◌-◌, ◌%◌, ◌^◌, ◌<◌, ℤ, pos, negsuc, Bool, true, false, length, refl, sym, ap, subst, arith}
use Rattle.std.proofs.Common.{FitsSigned, nat_lt}
use Rattle.std.specs.Prelude.{not}
use Rattle.std.specs.Int.{Width, w8, w16, w32, w64, w128, byte_len, cast_unsigned, FitsUnsignedBits}
use mir.Val.{hbits}
use Rattle.std.proofs.lemmas.Bool.{and_parts, ltb-true, le-ltb}
use Rattle.std.proofs.lemmas.List.{length-replicate}
use Rattle.ipc_format_grammar.proofs.flatbuffers_lemmas.Numbers.{length-to_le_bytes}
use Rattle.ipc_format_grammar.specs.columnar_memory.declared.PrimitiveType.{PrimitiveType}
use Rattle.ipc_format_grammar.specs.columnar_memory.declared.PrimitiveType.TheVariants as kinds
use Rattle.ipc_format_grammar.specs.columnar_memory.NumberLaws.{signed_in-number_bytes, unsigned_in-number_bytes, wide_in-wide_bytes}
use Rattle.ipc_format_grammar.specs.columns.Kinds.{is_signed, is_unsigned, in_kind, same_kind}
use Rattle.ipc_format_grammar.specs.columns.Slots.{Slot, number, pair, triple}
use Rattle.ipc_format_grammar.specs.columns.Cells.{is_null, is_number_of, is_days_and_ms, is_months_days_and_ns}
use Rattle.ipc_format_grammar.proofs.columns_lemmas.SameSlotsDecide.{same_kind-implies}
use Rattle.ipc_format_grammar.proofs.columns_lemmas.Conditions.{parts_of_3, parts_of_4}
use Rattle.ipc_format_grammar.specs.Values.{kind_size, value_of, signed_256}
use Rattle.ipc_format_grammar.specs.Buffers.{is_valid, number_bytes, wide_number, wide_bytes, days_and_ms_bytes, months_days_and_ns_bytes, kind_bytes}

-- whether a slot fits a column of a kind: floats are no values here
abbrev pub fits_kind : PrimitiveType → Slot → Bool
fits_kind kinds.DaysMs = is_days_and_ms
fits_kind kinds.MonthDayNano = is_months_days_and_ns
fits_kind kinds.Float16 = is_null
fits_kind kinds.Float32 = is_null
fits_kind kinds.Float64 = is_null
fits_kind kind = is_number_of kind

-- ---- how many bytes

number_size : (w : Width) (slot : Slot) → length (number_bytes w slot) ≡ byte_len w
number_size w (number kind n) = length-to_le_bytes w (cast_unsigned w n)
number_size w _ = length-replicate (byte_len w) 0

wide_size : (slot : Slot) → length (wide_bytes slot) ≡ 32
wide_size (number kind n) = refl
wide_size _ = refl

pair_size : (slot : Slot) → length (days_and_ms_bytes slot) ≡ 8
pair_size (pair kind days ms) = refl
pair_size _ = refl

triple_size : (slot : Slot) → length (months_days_and_ns_bytes slot) ≡ 16
triple_size (triple kind months days ns) = refl
triple_size _ = refl

pub kind_bytes_size : (kind : PrimitiveType) (slot : Slot) → length (kind_bytes kind slot) ≡ kind_size kind
kind_bytes_size kinds.Int8 slot = number_size w8 slot
kind_bytes_size kinds.Int16 slot = number_size w16 slot
kind_bytes_size kinds.Int32 slot = number_size w32 slot
kind_bytes_size kinds.Int64 slot = number_size w64 slot
kind_bytes_size kinds.Int128 slot = number_size w128 slot
kind_bytes_size kinds.Int256 slot = wide_size slot
kind_bytes_size kinds.UInt8 slot = number_size w8 slot
kind_bytes_size kinds.UInt16 slot = number_size w16 slot
kind_bytes_size kinds.UInt32 slot = number_size w32 slot
kind_bytes_size kinds.UInt64 slot = number_size w64 slot
kind_bytes_size kinds.Float16 slot = refl
kind_bytes_size kinds.Float32 slot = refl
kind_bytes_size kinds.Float64 slot = refl
kind_bytes_size kinds.DaysMs slot = pair_size slot
kind_bytes_size kinds.MonthDayNano slot = triple_size slot

-- ---- numbers

signed_fits : (w : Width) (width : ℕ) → width - 1 ≡ hbits w → (n : ℤ) → is_signed width n ≡ true → FitsSigned w n
signed_fits w width e (pos n) h = record { sfits = subst (λ (k : ℕ). n < 2 ^ k) e (ltb-true n (2 ^ (width - 1)) h) }
signed_fits w width e (negsuc n) h = record { sfits = subst (λ (k : ℕ). n < 2 ^ k) e (ltb-true n (2 ^ (width - 1)) h) }

unsigned_fits : (width : ℕ) (n : ℤ) → is_unsigned width n ≡ true → FitsUnsignedBits width n
unsigned_fits width (pos n) h = ltb-true n (2 ^ width) h
unsigned_fits width (negsuc n) h = absurd cc

wide_small : (n : ℤ) → wide_number n < 2 ^ 256
wide_small (pos n) = omega arith
wide_small (negsuc n) = omega arith

-- 256 bits in two's complement give the number back
signed_wide : (n : ℤ) → is_signed 256 n ≡ true → signed_256 (wide_number n) ≡ n
signed_wide (pos n) h =
    let small : n < 2 ^ 255 = ltb-true n (2 ^ 255) h in
    let same : n % 2 ^ 256 ≡ n = omega arith in
    let test : nat_lt n (2 ^ 255) ≡ true = h in
    rw (same, test) refl
signed_wide (negsuc n) h =
    let small : n < 2 ^ 255 = ltb-true n (2 ^ 255) h in
    let test : nat_lt (wide_number (negsuc n)) (2 ^ 255) ≡ false = le-ltb (wide_number (negsuc n)) (2 ^ 255) (omega arith) in
    let back : 2 ^ 256 - 1 - wide_number (negsuc n) ≡ n = omega arith in
    rw (test) (ap negsuc back)

-- where each number of a kind comes back, so does each slot of it
of_numbers : (kind : PrimitiveType) → ((n : ℤ) → in_kind kind n ≡ true → value_of kind true (kind_bytes kind (number kind n)) ≡ number kind n)
    → (slot : Slot) → is_number_of kind slot ≡ true → is_valid slot ≡ true → value_of kind true (kind_bytes kind slot) ≡ slot
of_numbers kind back (number own n) fits valid =
    let parts = and_parts (same_kind kind own) (in_kind own n) fits in
    let same : kind ≡ own = same_kind-implies kind own parts.0 in
    subst (λ (k : PrimitiveType). value_of kind true (kind_bytes kind (number k n)) ≡ number k n) same
    (back n (subst (λ (k : PrimitiveType). in_kind k n ≡ true) (sym same) parts.1))
of_numbers kind back _ fits valid = absurd cc

-- ---- every kind

-- no valid slot fits a float
none_valid : (slot : Slot) → is_null slot ≡ true → is_valid slot ≡ true → ⊥
none_valid slot fits valid = none (is_null slot) fits valid
  where
    none : (b : Bool) → b ≡ true → not b ≡ true → ⊥
    none true fits valid = absurd cc
    none false fits valid = absurd cc

pub value_back : (kind : PrimitiveType) (slot : Slot) → fits_kind kind slot ≡ true → is_valid slot ≡ true
    → value_of kind true (kind_bytes kind slot) ≡ slot
value_back kinds.Int8 = of_numbers kinds.Int8 (λ n h. ap (number kinds.Int8) (signed_in-number_bytes true w8 n (signed_fits w8 8 refl n h)))
value_back kinds.Int16 = of_numbers kinds.Int16 (λ n h. ap (number kinds.Int16) (signed_in-number_bytes true w16 n (signed_fits w16 16 refl n h)))
value_back kinds.Int32 = of_numbers kinds.Int32 (λ n h. ap (number kinds.Int32) (signed_in-number_bytes true w32 n (signed_fits w32 32 refl n h)))
value_back kinds.Int64 = of_numbers kinds.Int64 (λ n h. ap (number kinds.Int64) (signed_in-number_bytes true w64 n (signed_fits w64 64 refl n h)))
value_back kinds.Int128 =
    of_numbers kinds.Int128 (λ n h. ap (number kinds.Int128) (signed_in-number_bytes true w128 n (signed_fits w128 128 refl n h)))
value_back kinds.Int256 =
    of_numbers kinds.Int256 (λ n h. ap (number kinds.Int256)
    (ap signed_256 (wide_in-wide_bytes true (wide_number n) (wide_small n)) ∙ signed_wide n h))
value_back kinds.UInt8 = of_numbers kinds.UInt8 (λ n h. ap (number kinds.UInt8) (unsigned_in-number_bytes true w8 n (unsigned_fits 8 n h)))
value_back kinds.UInt16 = of_numbers kinds.UInt16 (λ n h. ap (number kinds.UInt16) (unsigned_in-number_bytes true w16 n (unsigned_fits 16 n h)))
value_back kinds.UInt32 = of_numbers kinds.UInt32 (λ n h. ap (number kinds.UInt32) (unsigned_in-number_bytes true w32 n (unsigned_fits 32 n h)))
value_back kinds.UInt64 = of_numbers kinds.UInt64 (λ n h. ap (number kinds.UInt64) (unsigned_in-number_bytes true w64 n (unsigned_fits 64 n h)))
value_back kinds.Float16 = λ slot fits valid. absurd (none_valid slot fits valid)
value_back kinds.Float32 = λ slot fits valid. absurd (none_valid slot fits valid)
value_back kinds.Float64 = λ slot fits valid. absurd (none_valid slot fits valid)
value_back kinds.DaysMs = pair_back
  where
    pair_back : (slot : Slot) → is_days_and_ms slot ≡ true → is_valid slot ≡ true → value_of kinds.DaysMs true (days_and_ms_bytes slot) ≡ slot
    pair_back (pair own days ms) fits valid =
        let parts = parts_of_3 (same_kind kinds.DaysMs own) (is_signed 32 days) (is_signed 32 ms) fits in
        let same : kinds.DaysMs ≡ own = same_kind-implies kinds.DaysMs own parts.0 in
        let day = signed_in-number_bytes true w32 days (signed_fits w32 32 refl days parts.1) in
        let millisecond = signed_in-number_bytes true w32 ms (signed_fits w32 32 refl ms parts.2) in
        λ i. pair (same i) (day i) (millisecond i)
    pair_back _ fits valid = absurd cc
value_back kinds.MonthDayNano = triple_back
  where
    triple_back : (slot : Slot) → is_months_days_and_ns slot ≡ true → is_valid slot ≡ true
        → value_of kinds.MonthDayNano true (months_days_and_ns_bytes slot) ≡ slot
    triple_back (triple own months days ns) fits valid =
        let parts = parts_of_4 (same_kind kinds.MonthDayNano own) (is_signed 32 months) (is_signed 32 days) (is_signed 64 ns) fits in
        let same : kinds.MonthDayNano ≡ own = same_kind-implies kinds.MonthDayNano own parts.0 in
        let month = signed_in-number_bytes true w32 months (signed_fits w32 32 refl months parts.1) in
        let day = signed_in-number_bytes true w32 days (signed_fits w32 32 refl days parts.2) in
        let nanosecond = signed_in-number_bytes true w64 ns (signed_fits w64 64 refl ns parts.3) in
        λ i. triple (same i) (month i) (day i) (nanosecond i)
    triple_back _ fits valid = absurd cc
