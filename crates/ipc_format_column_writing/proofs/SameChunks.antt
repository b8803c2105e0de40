-- Lists of arrays that are compared one for one.
use Rattle.std.proofs.Common.{Bool, List, [], ◌∷◌, refl}
use Rattle.std.specs.Bool.{Decides}
use Rattle.std.specs.Cmp.Lexicographic.{pointwise}
use Rattle.std.proofs.lemmas.Bool.{and_parts, and_from}
use Rattle.nested_arrays_core.specs.StoredColumns.{Column}
use Rattle.ipc_format_column_writing.specs.Chunks.{AreSameEach, TellsSame}

-- where a test decides whether two arrays are the same, it decides so of lists, array by array
pub same_each : {A : Type 0} (test : A → A → Bool) (column : A → Column) → TellsSame column test → (xs ys : List A)
    → Decides (pointwise test xs ys) (AreSameEach column xs ys)
same_each test column decides [] [] = (λ h. tt, λ h. refl)
same_each test column decides [] (y ∷ ys) = (λ h. absurd cc, λ h. absurd h)
same_each test column decides (x ∷ xs) [] = (λ h. absurd cc, λ h. absurd h)
same_each test column decides (x ∷ xs) (y ∷ ys) =
    let first = decides x y in
    let rest = same_each test column decides xs ys in (
      λ h. let parts = and_parts (test x y) (pointwise test xs ys) h in (first.0 parts.0, rest.0 parts.1),
      λ h. and_from (test x y) (pointwise test xs ys) (first.1 h.0) (rest.1 h.1),
    )
