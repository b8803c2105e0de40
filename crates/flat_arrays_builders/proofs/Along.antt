-- Lists that grow by the items of an iterator.
use Rattle.std.proofs.Common.{◌≡◌, List, [], ◌∷◌, ◌++◌, subst, ap, sym, ◌∙◌}
use Rattle.std.proofs.iter.Next.{Yields-more}
use Rattle.std.proofs.iter.runs.Made.{run_of_exit}
use Rattle.std.specs.Prelude.{Option, Some, None, Result}
use Rattle.std.specs.Iterator.{Yields}
use Rattle.std.specs.Iterator.Runs.{WholeRun}
use Rattle.flat_arrays_values.specs.columnar_memory.declared.Error.{Error}
use Rattle.flat_arrays_values.specs.columnar_memory.Error.{IsOutOfMemory}
use Rattle.flat_arrays_values.specs.Changes.{Changes}

-- a run that ended at an item for which there was no memory
pub stopped : {S X A : Type 0} (steps : S → Option X → S → Type 0) (changed : List X → A) (given it : S) (xs : List X) (here : S) (x : X) (rest : S)
    (now new : A) (e : Error) → it ≡ given → Yields steps it xs here → steps here (Some x) rest → now ≡ changed xs
    → IsOutOfMemory e × (new ≡ now)
    → IsOutOfMemory e × ((ys : List X) × (y : X) × (last : S) × Yields steps given (ys ++ y ∷ []) last × (new ≡ changed ys))
stopped steps changed given it xs here x rest now new e same ran step was refused = (
  refused.0,
  (xs, x, rest, subst (λ s. Yields steps s (xs ++ x ∷ []) rest) same (Yields-more steps it xs here x rest ran step), refused.1 ∙ was),
)

-- a run that went on to its end
pub ended : {S X A : Type 0} (steps : S → Option X → S → Type 0) (changed : List X → A) (given it : S) (xs : List X) (here rest : S) (now : A)
    → it ≡ given → Yields steps it xs here → steps here None rest → now ≡ changed xs → WholeRun steps given (λ p. now ≡ changed p.items)
ended steps changed given it xs here rest now same ran step was =
    let run = run_of_exit steps it xs here ran rest step in (run.0, run.1 ∙ same, run.2, was ∙ ap changed (sym run.3.0))

-- what a call changes a list to, named otherwise
pub changes_to : {A U : Type 0} (r : Result U Error) (old new made wanted : A) → made ≡ wanted → Changes r old new made → Changes r old new wanted
changes_to r old new made wanted same changes = subst (λ a. Changes r old new a) same changes
