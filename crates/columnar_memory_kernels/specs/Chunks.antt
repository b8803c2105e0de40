-- Chunks of booleans, and the booleans behind the last.
use Rattle.std.specs.Prelude.{◌≡◌, ℕ, Bool, List, Option}
use Rattle.std.specs.Iterator.{YieldsFirstBy}

-- a step gives the next word, and leaves the booleans behind the last as they are
abbrev pub YieldsWord : {T : Type 0} → (T → ℕ) → List ℕ × List Bool → Option T → List ℕ × List Bool → Type 0
YieldsWord value before result after = YieldsFirstBy value (λ (s : List ℕ × List Bool). s.0) before result after × (after.1 ≡ before.1)
