-- The values of a function at places one after another.
use Rattle.std.specs.Prelude.{ℕ, zero, suc, ◌+◌, List, [], ◌∷◌}

-- the values of a function at n places, from a first one on
abbrev pub window : {A : Type 0} → (ℕ → A) → ℕ → ℕ → List A
window f first zero = []
window f first (suc n) = f first ∷ window f (first + 1) n
