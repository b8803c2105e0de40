-- Pairs of custom metadata, one after another.
use Rattle.std.proofs.Common.{◌≡◌, ◌∙◌, ℕ, suc, ◌+◌, ◌-◌, ◌<◌, List, [], refl, ap, arith}
use Rattle.std.specs.Prelude.{Option, Some, None}
use Rattle.ipc_format_grammar.specs.flatbuffers.Reading.{◌>>=◌}
use Rattle.ipc_format_grammar.specs.flatbuffers.FlatBuffers.{TablePlace, Vector, element_at, string_field, vector_field}
use Rattle.ipc_format_grammar.specs.Schemas.{with_found, pairs_from, metadata_in}
use Rattle.ipc_format_metadata.specs.Parts.{pair_in}

abbrev pub Texts : Type 0
Texts = Option (List ℕ)

abbrev pub Metadata : Type 0
Metadata = List (List ℕ × List ℕ)

-- the definition reads a pair, and goes on with it
by_pair : (table : Option TablePlace) (key value : TablePlace → Option Texts) (rest : Texts → Texts → Option Metadata)
    → (table >>= (λ t. key t >>= (λ a. value t >>= (λ b. rest a b)))) ≡ ((table >>= (λ t. key t >>= (λ a. value t >>= (λ b. Some (a, b))))) >>=
    (λ (p : Texts × Texts). rest p.0 p.1))
by_pair None key value rest = refl
by_pair (Some t) key value rest = inner (key t) (value t)
  where
    inner : (a b : Option Texts) → (a >>= (λ a. b >>= (λ b. rest a b))) ≡ ((a >>= (λ a. b >>= (λ b. Some (a, b)))) >>=
        (λ (p : Texts × Texts). rest p.0 p.1))
    inner None b = refl
    inner (Some a) None = refl
    inner (Some a) (Some b) = refl

pairs_from-by : (bytes : List ℕ) (v : Vector) (m k : ℕ) (pairs : Metadata) → pairs_from bytes v (suc m) k pairs ≡
    (pair_in bytes v k >>= (λ (p : Texts × Texts). pairs_from bytes v m (k + 1) (with_found pairs p.0 p.1)))
pairs_from-by bytes v m k pairs = by_pair (element_at bytes v k) (λ t. string_field bytes t 0) (λ t. string_field bytes t 1)
    (λ a b. pairs_from bytes v m (k + 1) (with_found pairs a b))

-- what is given is what the tables from the k-th on give, behind the pairs before them
abbrev pub PairsLeft : List ℕ → Vector → Option Metadata → Metadata → ℕ → Type 0
PairsLeft bytes v given pairs k = (m : ℕ) → k + m ≡ v.count → given ≡ pairs_from bytes v m k pairs

pub pairs-init : (bytes : List ℕ) (table : TablePlace) (slot : ℕ) (v : Vector) → vector_field bytes table slot 4 ≡ Some (Some v) → PairsLeft bytes v
    (metadata_in bytes table slot) [] 0
unfolding metadata_in
pairs-init bytes table slot v e m all =
    let same : m ≡ v.count = omega arith in
    rw (e, same) refl

pub pairs-none : (bytes : List ℕ) (v : Vector) (given : Option Metadata) (pairs : Metadata) (k : ℕ) → k < v.count → pair_in bytes v k ≡ None →
    PairsLeft bytes v given pairs k → given ≡ None
pairs-none bytes v given pairs k lt e left =
    let m = v.count - k - 1 in
    let all : k + suc m ≡ v.count = omega arith in
    left (suc m) all ∙ pairs_from-by bytes v m k pairs ∙ ap (λ o. o >>= (λ (p : Texts × Texts). pairs_from bytes v m (k + 1)
    (with_found pairs p.0 p.1))) e

pub pairs-next : (bytes : List ℕ) (v : Vector) (given : Option Metadata) (pairs : Metadata) (a b : Texts) (k : ℕ) → pair_in bytes v k ≡ Some
    (a, b) → PairsLeft bytes v given pairs k
    → PairsLeft bytes v given (with_found pairs a b) (k + 1)
pairs-next bytes v given pairs a b k e left m all =
    let before : k + suc m ≡ v.count = omega arith in
    left (suc m) before ∙ pairs_from-by bytes v m k pairs ∙ ap (λ o. o >>=
    (λ (p : Texts × Texts). pairs_from bytes v m (k + 1) (with_found pairs p.0 p.1))) e

pub pairs-done : (bytes : List ℕ) (v : Vector) (given : Option Metadata) (pairs : Metadata) (k : ℕ) → k ≡ v.count → PairsLeft bytes v given pairs
    k → given ≡ Some pairs
pairs-done bytes v given pairs k done left = left 0 (omega arith)
