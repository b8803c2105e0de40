-- Pairs in the order of their keys, with one put in or taken out.
use Rattle.std.proofs.Common.{◌≡◌, ℕ, List, [], ◌∷◌, refl, sym, ap, ◌∙◌, Bool, true, false}
use Rattle.std.specs.Prelude.{not, cond, nat_eq}
use Rattle.std.specs.declared.cmp.Ordering.{Ordering}
use Rattle.std.specs.declared.cmp.Ordering.TheVariants.{Less, Equal, Greater}
use Rattle.std.specs.Ordering.{is_lt, is_eq, nat_cmp, match_ordering, ordering_reverse}
use Rattle.std.specs.Cmp.Lexicographic.{pointwise, slice_cmp, nat_list_cmp_total, texts_ties, bytes_decides}
use Rattle.std.specs.List.{list_all}
use Rattle.std.proofs.lemmas.Bool.{cases_Bool, and_parts, and_from, both_ways}
use mathlib.Core.Logic.{inl, inr}
use Rattle.ipc_format_grammar.specs.columnar_memory.Pairs.{with_pair}
use Rattle.ipc_format_grammar.specs.Writable.{without_key}
use Rattle.ipc_format_laws.specs.NormalForm.{are_sorted}

abbrev pub Pair : Type 0
Pair = List ℕ × List ℕ

abbrev pub order : List ℕ → List ℕ → Ordering
order = slice_cmp nat_cmp

abbrev pub same_key : List ℕ → List ℕ → Bool
same_key = pointwise nat_eq

abbrev pub before_all : List ℕ → List Pair → Bool
before_all key pairs = list_all (λ (other : Pair). is_lt (order key other.0)) pairs

-- no pair has the key
abbrev pub is_absent : List ℕ → List Pair → Bool
is_absent key pairs = list_all (λ (other : Pair). not (same_key key other.0)) pairs

key_itself : (key : List ℕ) → same_key key key ≡ true
key_itself key = (bytes_decides key key).1 refl

by_order : (key other : List ℕ) (r : Ordering) → order key other ≡ r → same_key key other ≡ is_eq r
by_order key other r e = texts_ties key other ∙ ap is_eq e

-- ---- taking out

step_out : (key : List ℕ) (p : Pair) (pairs : List Pair) (b : Bool) → same_key key p.0 ≡ b → without_key key (p ∷ pairs)
    ≡ cond b pairs (p ∷ without_key key pairs)
step_out key p pairs b e = ap (λ b. cond b pairs (p ∷ without_key key pairs)) e

-- what holds of all pairs holds of those that are left
all_without : (test : Pair → Bool) (key : List ℕ) (pairs : List Pair) → list_all test pairs ≡ true → list_all test (without_key key pairs) ≡ true
all_without test key [] h = h
all_without test key (p ∷ pairs) h =
    let parts = and_parts (test p) (list_all test pairs) h in elim (cases_Bool (same_key key p.0)) [
      | inl same ↦ ap (list_all test) (step_out key p pairs true same) ∙ parts.1
      | inr other ↦ ap (list_all test) (step_out key p pairs false other)
          ∙ and_from (test p) (list_all test (without_key key pairs)) parts.0 (all_without test key pairs parts.1)
    ]

pub sorted_without : (key : List ℕ) (pairs : List Pair) → are_sorted pairs ≡ true → are_sorted (without_key key pairs) ≡ true
sorted_without key [] h = h
sorted_without key (p ∷ pairs) h =
    let parts = and_parts (before_all p.0 pairs) (are_sorted pairs) h in elim (cases_Bool (same_key key p.0)) [
      | inl same ↦ ap are_sorted (step_out key p pairs true same) ∙ parts.1
      | inr other ↦ ap are_sorted (step_out key p pairs false other)
          ∙ and_from (before_all p.0 (without_key key pairs)) (are_sorted (without_key key pairs))
          (all_without (λ (other : Pair). is_lt (order p.0 other.0)) key pairs parts.0) (sorted_without key pairs parts.1)
    ]

-- a key before all others is none of them
lt_apart : (key other : List ℕ) (r : Ordering) → order key other ≡ r → is_lt r ≡ true → not (same_key key other) ≡ true
lt_apart key other Less e h = ap not (by_order key other Less e)
lt_apart key other Equal e h = absurd (both_ways false refl h)
lt_apart key other Greater e h = absurd (both_ways false refl h)

before_absent : (key : List ℕ) (pairs : List Pair) → before_all key pairs ≡ true → is_absent key pairs ≡ true
before_absent key [] h = h
before_absent key (p ∷ pairs) h =
    let parts = and_parts (is_lt (order key p.0)) (before_all key pairs) h in
    and_from (not (same_key key p.0)) (is_absent key pairs) (lt_apart key p.0 (order key p.0) refl parts.0) (before_absent key pairs parts.1)

-- among pairs in order no other has the key of one that was taken out
pub absent_without : (key : List ℕ) (pairs : List Pair) → are_sorted pairs ≡ true → is_absent key (without_key key pairs) ≡ true
absent_without key [] h = refl
absent_without key (p ∷ pairs) h =
    let parts = and_parts (before_all p.0 pairs) (are_sorted pairs) h in elim (cases_Bool (same_key key p.0)) [
      | inl same ↦ ap (is_absent key) (step_out key p pairs true same)
          ∙ before_absent key pairs (ap (λ k. before_all k pairs) ((bytes_decides key p.0).0 same) ∙ parts.0)
      | inr other ↦ ap (is_absent key) (step_out key p pairs false other) ∙ and_from (not (same_key key p.0)) (is_absent key (without_key key pairs))
          (ap not other) (absent_without key pairs parts.1)
    ]

pub still_absent : (key other : List ℕ) (pairs : List Pair) → is_absent key pairs ≡ true → is_absent key (without_key other pairs) ≡ true
still_absent key other pairs h = all_without (λ (p : Pair). not (same_key key p.0)) other pairs h

not_true : (b : Bool) → not b ≡ true → b ≡ false
not_true true h = absurd (both_ways false refl h)
not_true false h = refl

-- what is absent is not taken out
pub without_absent : (key : List ℕ) (pairs : List Pair) → is_absent key pairs ≡ true → without_key key pairs ≡ pairs
without_absent key [] h = refl
without_absent key (p ∷ pairs) h =
    let parts = and_parts (not (same_key key p.0)) (is_absent key pairs) h in
    step_out key p pairs false (not_true (same_key key p.0) parts.0) ∙ ap (λ rest. p ∷ rest) (without_absent key pairs parts.1)

-- it is the same which of two keys is taken out first
pub without_either : (key other : List ℕ) (pairs : List Pair) → same_key key other ≡ false → without_key key (without_key other pairs)
    ≡ without_key other (without_key key pairs)
without_either key other [] apart = refl
without_either key other (p ∷ pairs) apart = elim (cases_Bool (same_key key p.0)) [
  | inl here ↦ elim (cases_Bool (same_key other p.0)) [
    | inl there ↦ absurd (both_ways (same_key key other) apart
        (ap (same_key key) ((bytes_decides other p.0).0 there) ∙ here))
    | inr away ↦ ap (without_key key) (step_out other p pairs false away) ∙ step_out key p (without_key other pairs) true here
        ∙ ap (without_key other) (sym (step_out key p pairs true here))
  ]
  | inr away ↦ elim (cases_Bool (same_key other p.0)) [
    | inl there ↦ ap (without_key key) (step_out other p pairs true there) ∙ sym (step_out other p (without_key key pairs) true there)
        ∙ ap (without_key other) (sym (step_out key p pairs false away))
    | inr gone ↦ ap (without_key key) (step_out other p pairs false gone) ∙ step_out key p (without_key other pairs) false away
        ∙ ap (λ rest. p ∷ rest) (without_either key other pairs apart)
        ∙ sym (step_out other p (without_key key pairs) false gone) ∙ ap (without_key other) (sym (step_out key p pairs false away))
  ]
]

-- ---- putting in

step_in : (key value : List ℕ) (p : Pair) (pairs : List Pair) (r : Ordering) → order key p.0 ≡ r
    → with_pair (p ∷ pairs) key value ≡ match_ordering r ((key, value) ∷ p ∷ pairs) ((p.0, value) ∷ pairs) (p ∷ with_pair pairs key value)
step_in key value p pairs r e = ap (λ r. match_ordering r ((key, value) ∷ p ∷ pairs) ((p.0, value) ∷ pairs) (p ∷ with_pair pairs key value)) e

-- what holds of all pairs, and of the key whatever its value, holds with the new pair
all_with : (test : List ℕ → Bool) (key value : List ℕ) (pairs : List Pair) → test key ≡ true → list_all (λ (p : Pair). test p.0) pairs ≡ true
    → list_all (λ (p : Pair). test p.0) (with_pair pairs key value) ≡ true
all_with test key value [] here h = and_from (test key) true here refl
all_with test key value (p ∷ pairs) here h = by (λ rest. all_with test key value pairs here rest) (order key p.0) refl
  where
    parts : (test p.0 ≡ true) × (list_all (λ (p : Pair). test p.0) pairs ≡ true)
    parts = and_parts (test p.0) (list_all (λ (p : Pair). test p.0) pairs) h

    by : (list_all (λ (p : Pair). test p.0) pairs ≡ true → list_all (λ (p : Pair). test p.0) (with_pair pairs key value) ≡ true)
        → (r : Ordering) → order key p.0 ≡ r
        → list_all (λ (p : Pair). test p.0) (with_pair (p ∷ pairs) key value) ≡ true
    by later Less e = ap (list_all (λ (p : Pair). test p.0)) (step_in key value p pairs Less e)
        ∙ and_from (test key) (list_all (λ (p : Pair). test p.0) (p ∷ pairs)) here h
    by later Equal e = ap (list_all (λ (p : Pair). test p.0)) (step_in key value p pairs Equal e) ∙ h
    by later Greater e = ap (list_all (λ (p : Pair). test p.0)) (step_in key value p pairs Greater e)
        ∙ and_from (test p.0) (list_all (λ (p : Pair). test p.0) (with_pair pairs key value)) parts.0 (later parts.1)

pub absent_with : (key other value : List ℕ) (pairs : List Pair) → same_key key other ≡ false → is_absent key pairs ≡ true
    → is_absent key (with_pair pairs other value) ≡ true
absent_with key other value pairs apart h = all_with (λ name. not (same_key key name)) other value pairs (ap not apart) h

-- what was put in is taken out
pub without_with : (key value : List ℕ) (pairs : List Pair) → is_absent key pairs ≡ true → without_key key (with_pair pairs key value) ≡ pairs
without_with key value [] h = step_out key (key, value) [] true (key_itself key)
without_with key value (p ∷ pairs) h = by (λ rest. without_with key value pairs rest) (order key p.0) refl
  where
    parts : (not (same_key key p.0) ≡ true) × (is_absent key pairs ≡ true)
    parts = and_parts (not (same_key key p.0)) (is_absent key pairs) h

    apart : same_key key p.0 ≡ false
    apart = not_true (same_key key p.0) parts.0

    by : (is_absent key pairs ≡ true → without_key key (with_pair pairs key value) ≡ pairs) → (r : Ordering) → order key p.0 ≡ r
        → without_key key (with_pair (p ∷ pairs) key value) ≡ p ∷ pairs
    by later Less e = ap (without_key key) (step_in key value p pairs Less e) ∙ step_out key (key, value) (p ∷ pairs) true (key_itself key)
    by later Equal e = absurd (both_ways (same_key key p.0) apart (by_order key p.0 Equal e))
    by later Greater e = ap (without_key key) (step_in key value p pairs Greater e) ∙ step_out key p (with_pair pairs key value) false apart
        ∙ ap (λ rest. p ∷ rest) (later parts.1)

lt_from : (r : Ordering) → r ≡ Less → is_lt r ≡ true
lt_from r e = ap is_lt e

less_from : (r : Ordering) → is_lt r ≡ true → r ≡ Less
less_from Less h = refl
less_from Equal h = absurd (both_ways false refl h)
less_from Greater h = absurd (both_ways false refl h)

-- what stands before a key stands before the later ones
before_later : (key other : List ℕ) (pairs : List Pair) → order key other ≡ Less → before_all other pairs ≡ true → before_all key pairs ≡ true
before_later key other [] e h = refl
before_later key other (p ∷ pairs) e h =
    let parts = and_parts (is_lt (order other p.0)) (before_all other pairs) h in
    and_from (is_lt (order key p.0)) (before_all key pairs)
    (lt_from (order key p.0) (nat_list_cmp_total.trans key other p.0 e (less_from (order other p.0) parts.0)))
    (before_later key other pairs e parts.1)

pub sorted_with : (key value : List ℕ) (pairs : List Pair) → are_sorted pairs ≡ true → are_sorted (with_pair pairs key value) ≡ true
sorted_with key value [] h = refl
sorted_with key value (p ∷ pairs) h = by (λ rest. sorted_with key value pairs rest) (order key p.0) refl
  where
    parts : (before_all p.0 pairs ≡ true) × (are_sorted pairs ≡ true)
    parts = and_parts (before_all p.0 pairs) (are_sorted pairs) h

    by : (are_sorted pairs ≡ true → are_sorted (with_pair pairs key value) ≡ true) → (r : Ordering) → order key p.0 ≡ r
        → are_sorted (with_pair (p ∷ pairs) key value) ≡ true
    by later Less e = ap are_sorted (step_in key value p pairs Less e) ∙ and_from (before_all key (p ∷ pairs)) (are_sorted (p ∷ pairs))
        (and_from (is_lt (order key p.0)) (before_all key pairs) (lt_from (order key p.0) e) (before_later key p.0 pairs e parts.0)) h
    by later Equal e = ap are_sorted (step_in key value p pairs Equal e) ∙ h
    by later Greater e = ap are_sorted (step_in key value p pairs Greater e)
        ∙ and_from (before_all p.0 (with_pair pairs key value)) (are_sorted (with_pair pairs key value))
        (all_with (λ name. is_lt (order p.0 name)) key value pairs (lt_from (order p.0 key) (nat_list_cmp_total.antisymm p.0 key
        ∙ ap ordering_reverse e)) parts.0)
        (later parts.1)
