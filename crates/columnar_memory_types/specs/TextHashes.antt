-- Equal texts are hashed alike, and so are equal pairs of texts.
use Rattle.std.specs.Prelude.{ℕ, List, nat_eq, ◌++◌}
use Rattle.std.specs.Hash as fed
use Rattle.std.specs.Hash.{Alike, same_Alike, on_Alike, and-Alike, items_Alike}
use Rattle.std.specs.Cmp.Lexicographic.{pointwise}
use Rattle.std.proofs.lemmas.Slice.Eq.{bytes_eq-Decides}
use Rattle.columnar_memory_types.specs.Pairs.{pairs_eq}

texts_Alike : Alike (pointwise nat_eq) fed.str
texts_Alike = same_Alike fed.str bytes_eq-Decides

-- what `hash` feeds of pairs: their number, and then each key and value
abbrev pub pairs_hash_input : List (List ℕ × List ℕ) → fed.HashWrites
pairs_hash_input = fed.slice (λ p. fed.str p.0 ++ fed.str p.1)

pub pairs_Alike : Alike pairs_eq pairs_hash_input
pairs_Alike = items_Alike (and-Alike (on_Alike (λ p. p.0) texts_Alike) (on_Alike (λ p. p.1) texts_Alike))
