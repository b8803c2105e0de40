-- Values of a kind are in its range.
use Rattle.std.proofs.Common.{◌≡◌, ℕ, ◌-◌, ◌^◌, ◌<◌, ℤ, pos, negsuc, true, refl, sym, arith, subst}
use Rattle.std.specs.Prelude.{◌&&◌, ◌<ℤ◌, ◌≤ℤ◌, neg_ℤ, nat_le, FitsSigned}
use Rattle.std.specs.Int.{Width, w8, w16, w32, w64, w128, FitsUnsignedBits}
use Rattle.std.proofs.lemmas.Int.{ints}
use mir.Val.{hbits}
use Rattle.std.proofs.lemmas.Bool.{and_from, lt-ltb}
use Rattle.flat_arrays_core.specs.columnar_memory.declared.PrimitiveType.{PrimitiveType}
use Rattle.flat_arrays_core.specs.columnar_memory.declared.PrimitiveType.TheVariants as kinds
use Rattle.flat_arrays_core.specs.columnar_memory.Numbers.{Numbers, one, two, three, IsNative, FitsWide}
use Rattle.nested_arrays_columns.specs.Kinds.{is_signed, is_unsigned, numbers_of_kind}
use Rattle.nested_arrays_flat.specs.FlatColumns.{is_native}

in_signed : (w : Width) (width : ℕ) → width - 1 ≡ hbits w → (z : ℤ) → FitsSigned w z → is_signed width z ≡ true
in_signed w width e (pos n) fits = lt-ltb n (2 ^ (width - 1)) (subst (λ (k : ℕ). n < 2 ^ k) (sym e) fits.sfits)
in_signed w width e (negsuc n) fits = lt-ltb n (2 ^ (width - 1)) (subst (λ (k : ℕ). n < 2 ^ k) (sym e) fits.sfits)

in_unsigned : (width : ℕ) (z : ℤ) → FitsUnsignedBits width z → is_unsigned width z ≡ true
in_unsigned width (pos n) fits = lt-ltb n (2 ^ width) fits
in_unsigned width (negsuc n) fits = absurd fits

in_wide : (z : ℤ) → FitsWide z → is_signed 256 z ≡ true
in_wide (pos n) fits = let high : pos n <ℤ pos (2 ^ 255) = fits.1 in lt-ltb n (2 ^ 255) (omega (arith, ints, high))
in_wide (negsuc n) fits = let low : neg_ℤ (pos (2 ^ 255)) ≤ℤ negsuc n = fits.0 in lt-ltb n (2 ^ 255) (omega (arith, ints, low))

-- a value of a kind is in its range
pub native_in_range : (kind : PrimitiveType) (n : Numbers) → IsNative kind n → is_native kind n ≡ true
native_in_range kinds.Int8 (one z) h = in_signed w8 8 refl z h
native_in_range kinds.Int16 (one z) h = in_signed w16 16 refl z h
native_in_range kinds.Int32 (one z) h = in_signed w32 32 refl z h
native_in_range kinds.Int64 (one z) h = in_signed w64 64 refl z h
native_in_range kinds.Int128 (one z) h = in_signed w128 128 refl z h
native_in_range kinds.Int256 (one z) h = in_wide z h
native_in_range kinds.UInt8 (one z) h = in_unsigned 8 z h
native_in_range kinds.UInt16 (one z) h = in_unsigned 16 z h
native_in_range kinds.UInt32 (one z) h = in_unsigned 32 z h
native_in_range kinds.UInt64 (one z) h = in_unsigned 64 z h
native_in_range kinds.DaysMs (two days ms) h = and_from (is_signed 32 days) (is_signed 32 ms) (in_signed w32 32 refl days h.0)
    (in_signed w32 32 refl ms h.1)
native_in_range kinds.MonthDayNano (three months days ns) h =
    and_from (is_signed 32 months && is_signed 32 days) (is_signed 64 ns)
    (and_from (is_signed 32 months) (is_signed 32 days) (in_signed w32 32 refl months h.0) (in_signed w32 32 refl days h.1))
    (in_signed w64 64 refl ns h.2)
native_in_range _ _ h = absurd h

-- a kind of values has numbers
pub native_has_numbers : (kind : PrimitiveType) (n : Numbers) → IsNative kind n → nat_le 1 (numbers_of_kind kind) ≡ true
native_has_numbers kinds.Float16 n h = absurd h
native_has_numbers kinds.Float32 n h = absurd h
native_has_numbers kinds.Float64 n h = absurd h
native_has_numbers _ n h = refl
