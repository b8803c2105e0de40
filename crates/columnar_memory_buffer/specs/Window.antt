-- Windows on lists.
use Rattle.std.specs.Prelude.{ℕ, List, take, drop}

-- the elements from an offset on, this many
abbrev pub window : {T : Type 0} → List T → ℕ → ℕ → List T
window xs offset count = take count (drop offset xs)
