-- The pairs that are no part of an extension, where all stand in the order of their keys.
use Rattle.std.proofs.Common.{◌≡◌, ◌∙◌, ℕ, List, [], ◌∷◌, true, false, refl, sym, ap, subst, inl, inr}
use Rattle.std.specs.Prelude.{Bool, not, cond, ◌&&◌, filter, nat_eq}
use Rattle.std.specs.Map.{keys_of}
use Rattle.std.specs.List.{AllByRecursion}
use Rattle.std.specs.List.Sorted.{IsStrictlySortedBy}
use Rattle.std.specs.declared.cmp.Ordering.{Ordering}
use Rattle.std.specs.declared.cmp.Ordering.TheVariants.{Less}
use Rattle.std.specs.Ordering.{is_eq, nat_cmp}
use Rattle.std.specs.Cmp.Lexicographic.{pointwise, slice_cmp, texts_ties, bytes_decides}
use Rattle.std.proofs.lemmas.Bool.{cases_Bool}
use Rattle.std.proofs.lemmas.List.Kept.{IsStrictlySortedBy-filter}
use Rattle.ipc_format_messages.specs.grammar.Schemas.{extension_name_key, extension_metadata_key}
use Rattle.ipc_format_messages.specs.grammar.Writable.{without_key}
use Rattle.ipc_format_writing.specs.Pieces.{Pair, is_kept}

abbrev order : List ℕ → List ℕ → Ordering
order = slice_cmp nat_cmp

abbrev other_key : List ℕ → List ℕ → Bool
other_key key name = not (pointwise nat_eq key name)

abbrev has_other : List ℕ → Pair → Bool
has_other key pair = other_key key pair.0

less_apart : (key other : List ℕ) → order key other ≡ Less → pointwise nat_eq key other ≡ false
less_apart key other e = texts_ties key other ∙ ap is_eq e

filter_by : (test : Pair → Bool) (p : Pair) (pairs : List Pair) (b : Bool) → test p ≡ b → filter test (p ∷ pairs) ≡ cond b (p
    ∷ filter test pairs) (filter test pairs)
filter_by test p pairs b e = ap (λ b. cond b (p ∷ filter test pairs) (filter test pairs)) e

all_kept : (key : List ℕ) (pairs : List Pair) → AllByRecursion (λ name. order key name ≡ Less) (keys_of pairs) → filter (has_other key) pairs ≡ pairs
all_kept key [] h = refl
all_kept key (p ∷ pairs) h =
    filter_by (has_other key) p pairs true (ap not (less_apart key p.0 h.0)) ∙ ap (λ rest. p ∷ rest) (all_kept key pairs h.1)

one_out : (key : List ℕ) (pairs : List Pair) → IsStrictlySortedBy order (keys_of pairs) → without_key key pairs ≡ filter (has_other key) pairs
unfolding IsStrictlySortedBy
one_out key [] h = refl
one_out key (p ∷ pairs) h = elim (cases_Bool (pointwise nat_eq key p.0)) [
  | inl same ↦
      let is : key ≡ p.0 = (bytes_decides key p.0).0 same in
      let later : AllByRecursion (λ name. order key name ≡ Less) (keys_of pairs) = subst (λ (k : List ℕ). AllByRecursion (λ name. order k name
      ≡ Less) (keys_of pairs)) (sym is) h.0 in
      ap (λ b. cond b pairs (p ∷ without_key key pairs)) same ∙ sym (all_kept key pairs later)
      ∙ sym (filter_by (has_other key) p pairs false (ap not same))
  | inr other ↦
      ap (λ b. cond b pairs (p ∷ without_key key pairs)) other ∙ ap (λ rest. p ∷ rest) (one_out key pairs h.1)
      ∙ sym (filter_by (has_other key) p pairs true (ap not other))
]

keys_kept : (test : List ℕ → Bool) (pairs : List Pair) → keys_of (filter (λ (p : Pair). test p.0) pairs) ≡ filter test (keys_of pairs)
keys_kept test [] = refl
keys_kept test (p ∷ pairs) = go (test p.0) (keys_kept test pairs)
  where
    go : (b : Bool) → keys_of (filter (λ (p : Pair). test p.0) pairs) ≡ filter test (keys_of pairs)
        → keys_of (cond b (p ∷ filter (λ (p : Pair). test p.0) pairs) (filter (λ (p : Pair). test p.0) pairs)) ≡ cond b (p.0
        ∷ filter test (keys_of pairs)) (filter test (keys_of pairs))
    go true same = ap (λ rest. p.0 ∷ rest) same
    go false same = same

both_kept : (first second : Pair → Bool) (pairs : List Pair) → filter second (filter first pairs) ≡ filter (λ p. first p && second p) pairs
both_kept first second [] = refl
both_kept first second (p ∷ pairs) = go (first p) (both_kept first second pairs)
  where
    go : (b : Bool) → filter second (filter first pairs) ≡ filter (λ p. first p && second p) pairs
        → filter second (cond b (p ∷ filter first pairs) (filter first pairs))
        ≡ cond (b && second p) (p ∷ filter (λ p. first p && second p) pairs) (filter (λ p. first p && second p) pairs)
    go true same = ap (λ rest. cond (second p) (p ∷ rest) rest) same
    go false same = same

-- without the keys of an extension
pub kept_pairs : (pairs : List Pair) → IsStrictlySortedBy order (keys_of pairs)
    → without_key extension_metadata_key (without_key extension_name_key pairs) ≡ filter is_kept pairs
kept_pairs pairs h =
    let named : List Pair = filter (has_other extension_name_key) pairs in
    let sorted : IsStrictlySortedBy order (keys_of named) = subst (IsStrictlySortedBy order) (sym (keys_kept (other_key extension_name_key) pairs))
    (IsStrictlySortedBy-filter order (other_key extension_name_key) (keys_of pairs) h) in
    ap (without_key extension_metadata_key) (one_out extension_name_key pairs h)
    ∙ one_out extension_metadata_key named sorted
    ∙ both_kept (has_other extension_name_key) (has_other extension_metadata_key) pairs
