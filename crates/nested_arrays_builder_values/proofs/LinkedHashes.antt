-- Chains with one more hash, and with one fewer.
use Rattle.std.proofs.Common.{◌≡◌, ◌∙◌, ℕ, zero, suc, ◌+◌, ◌-◌, ◌<◌, ◌≤◌, List, [], ◌∷◌, ◌++◌, length, take, get_or, refl, sym, ap, subst, arith}
use Rattle.std.specs.Prelude.{◌⊎◌, ◌≢◌, ◌*◌, ◌/◌, ◌%◌, ◌^◌, ◌==◌, slice_set}
use Rattle.std.proofs.lemmas.Bool.{cases_Bool, eqb-true, eq-eqb, false≢true}
use Rattle.std.proofs.lemmas.List.{length-append, length-take-le, get_or-take, get_or-set_same, get_or-set_other, length-set}
use Rattle.std.proofs.lemmas.Nat.{and_le_r}
use mathlib.Core.Logic.{inl, inr}
use Rattle.nested_arrays_builder_values.specs.Newest.{IsLast, IsLinked, bucket_of}

-- a bucket is one of those that there are
pub bucket_within : (n hash : ℕ) → 0 < n → bucket_of n hash < n
bucket_within n hash some = omega (arith, some, and_le_r ((hash * 11400714819323198485) % 2 ^ 64 / 2 ^ 32) (n - 1))

-- ---- the same hashes

module _ (n q : ℕ) (hs other : List ℕ) (agree : (i : ℕ) → i < q → get_or other i 0 ≡ get_or hs i 0) where
  last_as : (p b m : ℕ) → p ≤ q → IsLast n hs p b m → IsLast n other p b m
  last_as p b m le l = record {
    within = l.within;
    here = λ some. ap (λ h. bucket_of n h) (agree (m - 1) (omega (arith, some, l.within, le))) ∙ l.here some;
    none = λ i behind lt is. l.none i behind lt (sym (ap (λ h. bucket_of n h) (agree i (omega (arith, lt, le)))) ∙ is);
  }

  pub linked_as : (heads before : List ℕ) → IsLinked n heads before hs q → IsLinked n heads before other q
  linked_as heads before k = record {
    wide = k.wide;
    long = k.long;
    first = λ b lt. last_as q b (get_or heads b 0) (omega arith) (k.first b lt);
    next = λ i lt. subst (λ h. IsLast n other i (bucket_of n h) (get_or before i 0)) (sym (agree i lt))
        (last_as i (bucket_of n (get_or hs i 0)) (get_or before i 0) (omega (arith, lt)) (k.next i lt));
  }

same_or_not : (a b : ℕ) → (a ≡ b) ⊎ (a ≢ b)
same_or_not a b = elim (cases_Bool (a == b)) [
  | inl same ↦ inl (eqb-true a b same)
  | inr other ↦ inr (λ e. false≢true (sym other ∙ eq-eqb a b e))
]

less : (q : ℕ) → (q + 1) - 1 ≡ q
less q = omega arith

below_end : (i q : ℕ) → i < q + 1 → i ≢ q → i < q
below_end i q lt other = omega (arith, lt, other)

-- ---- one more

pub at_end : (xs : List ℕ) (x d : ℕ) → get_or (xs ++ x ∷ []) (length xs) d ≡ x
at_end [] x d = refl
at_end (y ∷ xs) x d = at_end xs x d

pub before_end : (xs : List ℕ) (x d i : ℕ) → i < length xs → get_or (xs ++ x ∷ []) i d ≡ get_or xs i d
before_end [] x d i lt = absurd (omega arith)
before_end (y ∷ xs) x d zero lt = refl
before_end (y ∷ xs) x d (suc i) lt = before_end xs x d i (omega (arith, lt))

module _ (n : ℕ) (heads before hs : List ℕ) (q hash : ℕ) (is : get_or hs q 0 ≡ hash) (small : bucket_of n hash < n)
    (k : IsLinked n heads before hs q) where
  one_more_head : (b : ℕ) → b < n → IsLast n hs (q + 1) b (get_or (slice_set heads (bucket_of n hash) (q + 1)) b 0)
  one_more_head b lt = elim (same_or_not b (bucket_of n hash)) [
    | inl same ↦
        let here : bucket_of n (get_or hs q 0) ≡ b = ap (λ h. bucket_of n h) is ∙ sym same in
        let there : get_or (slice_set heads (bucket_of n hash) (q + 1)) b 0 ≡ q + 1 =
        ap (λ m. get_or (slice_set heads (bucket_of n hash) (q + 1)) m 0) same
        ∙ get_or-set_same heads (bucket_of n hash) (q + 1) 0 (omega (arith, small, k.wide)) in
        subst (IsLast n hs (q + 1) b) (sym there) (record {
          within = omega arith;
          here = λ some. ap (λ m. bucket_of n (get_or hs m 0)) (less q) ∙ here;
          none = λ i behind below. absurd (omega (arith, behind, below));
        })
    | inr other ↦
        let l = k.first b lt in
        let there : get_or (slice_set heads (bucket_of n hash) (q + 1)) b 0 ≡ get_or heads b 0 =
        get_or-set_other heads (bucket_of n hash) b (q + 1) 0 other in
        subst (IsLast n hs (q + 1) b) (sym there) (record {
          within = omega (arith, l.within);
          here = l.here;
          none = λ i behind below e. elim (same_or_not i q) [
            | inl last ↦ other (sym e ∙ ap (λ m. bucket_of n (get_or hs m 0)) last ∙ ap (λ h. bucket_of n h) is)
            | inr earlier ↦ l.none i behind (below_end i q below earlier) e
          ];
        })
  ]

  one_more_before : (i : ℕ) → i < q + 1
      → IsLast n hs i (bucket_of n (get_or hs i 0)) (get_or (before ++ get_or heads (bucket_of n hash) 0 ∷ []) i 0)
  one_more_before i lt = elim (same_or_not i q) [
    | inl last ↦
        let there : get_or (before ++ get_or heads (bucket_of n hash) 0 ∷ []) i 0 ≡ get_or heads (bucket_of n hash) 0 =
        ap (λ m. get_or (before ++ get_or heads (bucket_of n hash) 0 ∷ []) m 0) (last ∙ sym k.long)
        ∙ at_end before (get_or heads (bucket_of n hash) 0) 0 in
        let bucket : bucket_of n hash ≡ bucket_of n (get_or hs i 0) =
        ap (λ h. bucket_of n h) (sym is) ∙ ap (λ m. bucket_of n (get_or hs m 0)) (sym last) in
        subst (IsLast n hs i (bucket_of n (get_or hs i 0))) (sym there)
        (subst (λ b. IsLast n hs i b (get_or heads (bucket_of n hash) 0)) bucket
        (subst (λ m. IsLast n hs m (bucket_of n hash) (get_or heads (bucket_of n hash) 0)) (sym last) (k.first (bucket_of n hash) small)))
    | inr earlier ↦
        let below = below_end i q lt earlier in
        let there : get_or (before ++ get_or heads (bucket_of n hash) 0 ∷ []) i 0 ≡ get_or before i 0 =
        before_end before (get_or heads (bucket_of n hash) 0) 0 i (omega (arith, below, k.long)) in
        subst (IsLast n hs i (bucket_of n (get_or hs i 0))) (sym there) (k.next i below)
  ]

  pub linked_more : IsLinked n (slice_set heads (bucket_of n hash) (q + 1)) (before ++ get_or heads (bucket_of n hash) 0 ∷ []) hs (q + 1)
  linked_more = record {
    wide = length-set heads (bucket_of n hash) (q + 1) ∙ k.wide;
    long = omega (arith, length-append before (get_or heads (bucket_of n hash) 0 ∷ []), k.long);
    first = one_more_head;
    next = one_more_before;
  }

-- ---- one fewer

module _ (n : ℕ) (heads before hs : List ℕ) (q hash : ℕ) (is : get_or hs q 0 ≡ hash) (small : bucket_of n hash < n)
    (k : IsLinked n heads before hs (q + 1)) where
  last_before : IsLast n hs q (bucket_of n hash) (get_or before q 0)
  last_before = subst (λ h. IsLast n hs q (bucket_of n h) (get_or before q 0)) is (k.next q (omega arith))

  one_less_head : (b : ℕ) → b < n → IsLast n hs q b (get_or (slice_set heads (bucket_of n hash) (get_or before q 0)) b 0)
  one_less_head b lt = elim (same_or_not b (bucket_of n hash)) [
    | inl same ↦
        let there : get_or (slice_set heads (bucket_of n hash) (get_or before q 0)) b 0 ≡ get_or before q 0 =
        ap (λ m. get_or (slice_set heads (bucket_of n hash) (get_or before q 0)) m 0) same
        ∙ get_or-set_same heads (bucket_of n hash) (get_or before q 0) 0 (omega (arith, small, k.wide)) in
        subst (IsLast n hs q b) (sym there) (subst (λ b. IsLast n hs q b (get_or before q 0)) (sym same) last_before)
    | inr other ↦
        let l = k.first b lt in
        let there : get_or (slice_set heads (bucket_of n hash) (get_or before q 0)) b 0 ≡ get_or heads b 0 =
        get_or-set_other heads (bucket_of n hash) b (get_or before q 0) 0 other in
        subst (IsLast n hs q b) (sym there) (record {
          within = earlier (get_or heads b 0) l.within (λ last. other (sym (l.here (omega (arith, last)))
              ∙ ap (λ m. bucket_of n (get_or hs m 0)) (ap (λ p. p - 1) last ∙ less q) ∙ ap (λ h. bucket_of n h) is));
          here = l.here;
          none = λ i behind below. l.none i behind (omega (arith, below));
        })
  ]
    where
      earlier : (p : ℕ) → p ≤ q + 1 → p ≢ q + 1 → p ≤ q
      earlier p le other = omega (arith, le, other)

  pub linked_less : IsLinked n (slice_set heads (bucket_of n hash) (get_or before q 0)) (take q before) hs q
  linked_less = record {
    wide = length-set heads (bucket_of n hash) (get_or before q 0) ∙ k.wide;
    long = length-take-le q before (omega (arith, k.long));
    first = one_less_head;
    next = λ i lt. subst (IsLast n hs i (bucket_of n (get_or hs i 0))) (sym (get_or-take q before i 0 lt)) (k.next i (omega (arith, lt)));
  }
