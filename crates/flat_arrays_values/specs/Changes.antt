-- What the calls on builders answer.
use Rattle.std.specs.Prelude.{◌≡◌, ◌-◌, List, [], ◌∷◌, ◌++◌, length, Option, None, unwrap_or, slice_get, Result, MatchResult}
use Rattle.std.specs.Iterator.{Yields}
use Rattle.std.specs.Iterator.Runs.{WholeRun}
use Rattle.columnar_memory_core.specs.declared.Error.{Error}
use Rattle.columnar_memory_core.specs.Error.{IsOutOfMemory}
use Rattle.flat_arrays_values.specs.Flat.{Flat, cut, slots_of}

-- it has become another; or there is no memory, and it is as it was
abbrev pub Changes : {A U : Type 0} → Result U Error → A → A → A → Type 0
Changes r old new changed = MatchResult r (λ _. new ≡ changed) (λ e. IsOutOfMemory e × (new ≡ old))

-- it is what it becomes of the items of an iterator; or there was no memory for an item, and it is what it becomes of those before that item
abbrev pub ChangesAlong : {S X A U : Type 0} → (S → Option X → S → Type 0) → (List X → A) → S → A → Result U Error → Type 0
ChangesAlong {S} {X} steps changed it new r =
    MatchResult r (λ _. WholeRun steps it (λ p. new ≡ changed p.items))
    (λ e. IsOutOfMemory e × ((xs : List X) × (x : X) × (rest : S) × Yields steps it (xs ++ x ∷ []) rest × (new ≡ changed xs)))

-- the last slot was taken off and given, a null as nothing; where there is no slot, nothing changed
abbrev pub Pops : {V : Type 0} → Flat V → Option V → Flat V → Type 0
Pops old r new = (new ≡ cut old 0 (length old.values - 1)) × (r ≡ unwrap_or (slice_get (slots_of old) (length old.values - 1)) None)
