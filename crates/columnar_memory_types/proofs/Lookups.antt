-- A search for a key by its order finds what a search by its bytes finds.
use Rattle.std.proofs.Common.{◌≡◌, ℕ, List, [], ◌∷◌, refl, sym, cond}
use Rattle.std.specs.Prelude.{Some}
use Rattle.std.specs.Map.{lookup}
use Rattle.std.specs.Ordering.{nat_cmp, is_eq}
use Rattle.std.specs.Cmp.Lexicographic.{slice_cmp, texts_ties}
use Rattle.columnar_memory_types.specs.Pairs.{value_at}

pub lookup-by_order : (key : List ℕ) (pairs : List (List ℕ × List ℕ)) → lookup (λ name. is_eq (slice_cmp nat_cmp key name)) pairs ≡ value_at key pairs
lookup-by_order key [] = refl
lookup-by_order key (p ∷ ps) = λ i. cond (sym (texts_ties key p.0) i) (Some p.1) (lookup-by_order key ps i)
