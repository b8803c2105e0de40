-- Which items of a list a test keeps, where each item is tested with its place.
use Rattle.std.specs.Prelude.{◌≡◌, ◌+◌, ℕ, Bool, List, [], ◌∷◌, if◌then◌else◌}

-- From place k on these items are kept: those at which the test gives true. `gives k x b` says that it gives b of x at place k.
abbrev pub KeptFrom : {A : Type 0} → (ℕ → A → Bool → Type 0) → ℕ → List A → List A → Type 0
KeptFrom gives k [] kept = kept ≡ []
KeptFrom {A} gives k (x ∷ xs) kept =
    (b : Bool) × (rest : List A) × gives k x b × (kept ≡ (if b then x ∷ rest else rest)) × KeptFrom gives (k + 1) xs rest
