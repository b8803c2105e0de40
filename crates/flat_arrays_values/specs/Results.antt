-- What the calls that check parts answer.
use Rattle.std.specs.Prelude.{◌≡◌, ◌<◌, ℕ, ℤ, pos, List, Result, MatchResult, All, Bool, Option, None, MatchOption, IsSomeAnd}
use Rattle.columnar_memory_core.specs.declared.Error.{Error}
use Rattle.columnar_memory_core.specs.declared.PhysicalType.{PhysicalType}
use Rattle.columnar_memory_core.specs.Error.{IsOutOfSpec}
use Rattle.columnar_memory_core.specs.declared.PrimitiveType.{PrimitiveType}
use Rattle.columnar_memory_core.specs.Numbers.{Numbers, zeros}
use Rattle.flat_arrays_values.specs.Flat.{Flat, IsFlat}

-- the array of these parts, if they are those of an array, or a refusal
abbrev pub IsChecked : {V : Type 0} → PhysicalType → Flat V → Result (Flat V) Error → Type 0
IsChecked layout parts r = MatchResult r (λ a. (a ≡ parts) × IsFlat layout parts) (λ e. IsOutOfSpec e × ¬ IsFlat layout parts)

-- an integer is a number below a length
abbrev pub IsPlaceBelow : ℕ → ℤ → Type 0
IsPlaceBelow n key = (k : ℕ) × (key ≡ pos k) × (k < n)

-- each key is a place below the length, or the keys are refused
abbrev pub AreChecked : {K : Type 0} → (K → ℤ) → List K → ℕ → Result (Unit {0}) Error → Type 0
AreChecked value keys n r =
    MatchResult r (λ _. All (λ key. IsPlaceBelow n (value key)) keys) (λ e. IsOutOfSpec e × ¬ All (λ key. IsPlaceBelow n (value key)) keys)

-- P of the value whose numbers are zeros
abbrev pub ForZero : {V : Type 0} → (V → Numbers) → PrimitiveType → (V → Type 0) → Type 0
ForZero {V} numbers kind P = (zero : V) × (numbers zero ≡ zeros kind) × P zero

-- a mask, if there was one, is what a call gives for it
abbrev pub AppliesTo : (List Bool → List Bool → Type 0) → Option (List Bool) → Option (List Bool) → Type 0
AppliesTo gives old new = MatchOption old (new ≡ None) (λ mask. IsSomeAnd new (gives mask))
