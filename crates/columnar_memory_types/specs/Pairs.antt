-- Texts by their names, as pairs of bytes in the order of the keys.
use Rattle.std.specs.Prelude.{ℕ, List, Option, Bool, nat_eq, ◌&&◌}
use Rattle.std.specs.Map.{lookup}
use Rattle.std.specs.Ordering.{nat_cmp}
use Rattle.std.specs.BTreeMap.{insert_entry}
use Rattle.std.specs.Cmp.Lexicographic.{pointwise, slice_cmp}

-- the value of the pair with this key
abbrev pub value_at : List ℕ → List (List ℕ × List ℕ) → Option (List ℕ)
value_at key pairs = lookup (λ name. pointwise nat_eq key name) pairs

-- the pairs with this one in its place: in the order of the keys, or in place of the one of its key
abbrev pub with_pair : List (List ℕ × List ℕ) → List ℕ → List ℕ → List (List ℕ × List ℕ)
with_pair pairs key value = insert_entry (slice_cmp nat_cmp) pairs key value

-- whether two lists have the same pairs
abbrev pub pairs_eq : List (List ℕ × List ℕ) → List (List ℕ × List ℕ) → Bool
pairs_eq = pointwise (λ p q. pointwise nat_eq p.0 q.0 && pointwise nat_eq p.1 q.1)
