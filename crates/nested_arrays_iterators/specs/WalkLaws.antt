-- What walks over the places of arrays give.
use Rattle.std.specs.Prelude.{◌≡◌, ◌-◌, ℕ, List, Option}
use Rattle.std.specs.Iterator.{YieldsFirstBy, YieldsLastBy}
use Rattle.nested_arrays_core.specs.flat_arrays.Places.{PlacesLeft, StepsFirst, StepsLast}
use Rattle.nested_arrays_core.specs.columns.Slots.{window}

-- what stands at the places that a walk has left
abbrev pub values_left : {A V : Type 0} → (A → ℕ → V) → PlacesLeft A → List V
values_left value walk = window (value walk.array) walk.first (walk.stop - walk.first)

-- A walk gives the first of what it has left, or the last, and then has the others left; it gives nothing only where nothing is left.
pub record GivesEach {A X V : Type 0} (is_item : A → ℕ → X → Type 0) (view : X → V) (value : A → ℕ → V) : Type 0 where
  pub first : (s : PlacesLeft A) (r : Option X) (t : PlacesLeft A) → StepsFirst is_item s r t → YieldsFirstBy view (values_left value) s r t
  pub last : (s : PlacesLeft A) (r : Option X) (t : PlacesLeft A) → StepsLast is_item s r t → YieldsLastBy view (values_left value) s r t

-- so does each walk whose items show what stands at their places
abbrev pub WalksGiveEach : Type 0 → Type 0 → Type 0 → Type 0
WalksGiveEach A X V = (view : X → V) (value : A → ℕ → V) → GivesEach (λ array i x. view x ≡ value array i) view value
