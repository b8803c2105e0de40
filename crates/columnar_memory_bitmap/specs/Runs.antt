-- The runs of true in some booleans.
use Rattle.std.specs.Prelude.{◌≡◌, ℕ, ◌+◌, ◌≤◌, ◌<◌, Bool, true, false, not, List, [], ◌∷◌, ◌⊎◌, Some, drop, length, slice_get, ◌==◌, if◌then◌else◌}
use Rattle.columnar_memory_bits.specs.Bits.{bit}

-- a place that is true, before the runs behind it: it begins the run that follows at once, or is a run of its own
abbrev pub joined : ℕ → List (ℕ × ℕ) → List (ℕ × ℕ)
joined place [] = (place, 1) ∷ []
joined place (run ∷ runs) = if run.0 == place + 1 then (place, run.1 + 1) ∷ runs else (place, 1) ∷ run ∷ runs

-- the maximal runs of true, each as the place of its first boolean and how many they are, where the first boolean has a place
abbrev pub runs_at : ℕ → List Bool → List (ℕ × ℕ)
runs_at place [] = []
runs_at place (false ∷ bits) = runs_at (place + 1) bits
runs_at place (true ∷ bits) = joined place (runs_at (place + 1) bits)

abbrev pub runs_of : List Bool → List (ℕ × ℕ)
runs_of bits = runs_at 0 bits

-- a word has n booleans from a place on in its lowest bits
pub record HoldsBits (bits : List Bool) (place word n : ℕ) : Type 0 where
  pub few : n ≤ 64
  pub within : place + n ≤ length bits
  pub same : (k : ℕ) → k < n → slice_get bits (place + k) ≡ Some (bit word k)

-- from a place to another stand booleans of one value, and where they end none of it
pub record Passes (bits : List Bool) (value : Bool) (from to : ℕ) : Type 0 where
  pub forward : from ≤ to
  pub same : (k : ℕ) → from + k < to → slice_get bits (from + k) ≡ Some value
  pub ends : to < length bits → slice_get bits to ≡ Some (not value)

-- a walk over the runs of some booleans that has come to a place
pub record Walk : Type 0 where
  pub bits : List Bool
  pub place : ℕ

-- the runs that a walk has before it
abbrev pub runs_left : Walk → List (ℕ × ℕ)
runs_left walk = runs_at walk.place (drop walk.place walk.bits)

-- a place is in a run
abbrev pub IsIn : ℕ → ℕ × ℕ → Type 0
IsIn k run = (run.0 ≤ k) × (k < run.0 + run.1)

abbrev pub IsInSome : ℕ → List (ℕ × ℕ) → Type 0
IsInSome k [] = ⊥
IsInSome k (run ∷ runs) = IsIn k run ⊎ IsInSome k runs

-- the first run begins no earlier than a place
abbrev pub BeginsFrom : ℕ → List (ℕ × ℕ) → Type 0
BeginsFrom place [] = Unit {0}
BeginsFrom place (run ∷ runs) = place ≤ run.0

-- none is empty, and between each and the next there is a place
abbrev pub AreApart : List (ℕ × ℕ) → Type 0
AreApart [] = Unit {0}
AreApart (run ∷ runs) = (0 < run.1) × BeginsFrom (run.0 + run.1 + 1) runs × AreApart runs

-- The maximal runs of true, in order: they are apart, and a place is in one of them exactly where the boolean there is true.
pub record AreRuns (bits : List Bool) (runs : List (ℕ × ℕ)) : Type 0 where
  pub apart : AreApart runs
  pub true_inside : (k : ℕ) → slice_get bits k ≡ Some true → IsInSome k runs
  pub inside_true : (k : ℕ) → IsInSome k runs → slice_get bits k ≡ Some true
