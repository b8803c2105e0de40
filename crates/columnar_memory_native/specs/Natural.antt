-- What conversions between integers and counts answer. `value` is the integer of a value, `greatest` the greatest of its type.
use Rattle.std.specs.Prelude.{◌≡◌, ◌<◌, ◌≤◌, ◌<ℤ◌, ℕ, ℤ, pos, Option, Some, None}

-- the value is this number, which its type has
abbrev pub IsNumber : {T : Type 0} → (T → ℤ) → ℕ → ℕ → T → Type 0
IsNumber value greatest n x = (value x ≡ pos n) × (n ≤ greatest)

-- the value of this number, or none where the number is past the greatest
abbrev pub IsValueOf : {T : Type 0} → (T → ℤ) → ℕ → ℕ → Option T → Type 0
IsValueOf value greatest n None = greatest < n
IsValueOf value greatest n (Some x) = IsNumber value greatest n x

-- the number that a value is, or none where the value is below zero
abbrev pub IsNumberOf : {T : Type 0} → (T → ℤ) → ℕ → T → Option ℕ → Type 0
IsNumberOf value greatest x None = value x <ℤ pos 0
IsNumberOf value greatest x (Some n) = IsNumber value greatest n x
