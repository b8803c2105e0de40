-- Byte strings one after another, by their lengths and their bytes.
use Rattle.std.proofs.Common.{
  ◌≡◌,
  ◌∙◌,
  ℕ,
  zero,
  suc,
  ◌+◌,
  ◌-◌,
  ◌≤◌,
  ◌<◌,
  List,
  [],
  ◌∷◌,
  ◌++◌,
  length,
  map,
  take,
  drop,
  sum,
  refl,
  sym,
  ap,
  ap₂,
  arith,
}
use Rattle.std.proofs.Math.Seq.{take-append_seam, drop-append_seam}
use Rattle.std.proofs.lemmas.List.{
  append_assoc,
  append-nil,
  length-append,
  map-append,
  take-map,
  length-map,
  length-take-le,
  take_at,
  take-append-drop,
}
use Rattle.std.proofs.lemmas.List.Sums.{sum_by-cons}
use Rattle.std.specs.List.{concat}
use Rattle.std.proofs.Common.{subst, ◌⊎◌, inl, inr}
use Rattle.nested_arrays_core.specs.arrays.columnar_memory.declared.Error.{Error}
use Rattle.nested_arrays_core.specs.arrays.columnar_memory.declared.Error.TheVariants.{Overflow, OutOfMemory}
use Rattle.nested_arrays_core.specs.arrays.columnar_memory.Error.{IsOutOfMemory, IsOverflow}
use Rattle.nested_arrays_core.specs.arrays.columnar_memory.Growth.{IsGrowthFault}
use Rattle.nested_arrays_core.specs.arrays.columnar_memory.Spans.{Spans, extended, first_spans, last_of, shortened}
use Rattle.nested_arrays_core.specs.arrays.flat_arrays.ByteStrings.{cut_by, packed}
use Rattle.nested_arrays_builder_parts.specs.Strings.{ArePacked}

-- byte strings are cut out of their bytes by their lengths
pub strings_back : (ss : List (List ℕ)) → cut_by (map length ss) (concat ss) ≡ ss
strings_back [] = refl
strings_back (s ∷ ss) =
    ap₂ (λ x rest. x ∷ rest) (take-append_seam s (concat ss))
    (ap (cut_by (map length ss)) (drop-append_seam s (concat ss)) ∙ strings_back ss)

module _ (ss : List (List ℕ)) (offsets : Spans) (bytes : List ℕ) (spans : offsets ≡ packed ss) (joined : bytes ≡ concat ss) where
  pub packed_view : cut_by offsets.lengths bytes ≡ ss
  packed_view = ap₂ (λ (o : Spans) b. cut_by o.lengths b) spans joined ∙ strings_back ss

  pub packed_kept : ArePacked (cut_by offsets.lengths bytes) offsets bytes
  packed_kept = record { spans = spans ∙ ap packed (sym packed_view); joined = joined ∙ ap concat (sym packed_view) }

sum-cons : (l : ℕ) (ls : List ℕ) → sum (l ∷ ls) ≡ l + sum ls
sum-cons l ls = sum_by-cons (λ x. x) l ls

total : (ss : List (List ℕ)) → sum (map length ss) ≡ length (concat ss)
total [] = refl
total (s ∷ ss) = sum-cons (length s) (map length ss) ∙ ap (λ n. length s + n) (total ss) ∙ sym (length-append s (concat ss))

-- the last ends where the bytes do
pub last_packed : (ss : List (List ℕ)) → last_of (packed ss) ≡ length (concat ss)
last_packed ss = omega (arith, total ss)

pub concat_one_more : (ss : List (List ℕ)) (s : List ℕ) → concat (ss ++ s ∷ []) ≡ concat ss ++ s
concat_one_more [] s = append-nil s
concat_one_more (x ∷ ss) s = ap (λ rest. x ++ rest) (concat_one_more ss s) ∙ sym (append_assoc x (concat ss) s)

pub packed_one_more : (ss : List (List ℕ)) (s : List ℕ) → packed (ss ++ s ∷ []) ≡ extended (packed ss) (length s ∷ [])
packed_one_more ss s = ap (λ ls. record { start = 0; lengths = ls }) (map-append length ss (s ∷ []))

pub packed_first : (n : ℕ) (ss : List (List ℕ)) → packed (take n ss) ≡ first_spans (packed ss) n
packed_first n ss = ap (λ ls. record { start = 0; lengths = ls }) (sym (take-map length n ss))

concat_splits : (n : ℕ) (ss : List (List ℕ)) → concat ss ≡ concat (take n ss) ++ concat (drop n ss)
concat_splits zero ss = refl
concat_splits (suc n) [] = refl
concat_splits (suc n) (s ∷ ss) = ap (λ rest. s ++ rest) (concat_splits n ss) ∙ sym (append_assoc s (concat (take n ss)) (concat (drop n ss)))

-- the bytes of the first ones come first
pub concat_first : (n : ℕ) (ss : List (List ℕ)) → concat (take n ss) ≡ take (last_of (packed (take n ss))) (concat ss)
concat_first n ss =
    let first = concat (take n ss) in
    sym (ap (λ k. take k (concat ss)) (last_packed (take n ss)) ∙ ap (take (length first)) (concat_splits n ss)
    ∙ take-append_seam first (concat (drop n ss)))

-- spans of which the last ones go, one by one
pub first_again : (s : Spans) (m n : ℕ) → n ≤ m → m ≤ length s.lengths → first_spans (first_spans s m) n ≡ first_spans s n
first_again s m n le within = ap (λ ls. record { start = s.start; lengths = ls }) (take_take m n s.lengths le)
  where
    take_take : (m n : ℕ) (xs : List ℕ) → n ≤ m → take n (take m xs) ≡ take n xs
    take_take m zero xs le = refl
    take_take zero (suc n) xs le = absurd (omega arith)
    take_take (suc m) (suc n) [] le = refl
    take_take (suc m) (suc n) (x ∷ xs) le = ap (λ rest. x ∷ rest) (take_take m n xs (omega arith))

-- ---- one more, and the first ones

-- why offsets did not grow
pub fault : (limit n m : ℕ) (e : Error) → n ≡ m → IsGrowthFault limit n e → IsOutOfMemory e ⊎ (IsOverflow e × (limit < m))
fault limit n m Overflow same past = inr (tt, subst (λ (k : ℕ). limit < k) same past)
fault limit n m OutOfMemory same within = inl tt
fault limit n m _ same h = absurd h

-- where one more would end
pub one_more_end : (ss : List (List ℕ)) (s : Spans) (l : ℕ) → s ≡ packed ss → last_of s + sum (l ∷ []) ≡ length (concat ss) + l
one_more_end ss s l is = let e = ap last_of is in omega (arith, e, last_packed ss, sum-cons l [])

module _ (ss : List (List ℕ)) (old : Spans) (held : List ℕ) (was : ArePacked ss old held) where
  module _ (value : List ℕ) (offsets : Spans) (bytes : List ℕ) (grown : offsets ≡ extended old (length value ∷ [])) (joined : bytes ≡ held ++
      value) where
    more_spans : offsets ≡ packed (ss ++ value ∷ [])
    more_spans = grown ∙ ap (λ (o : Spans). extended o (length value ∷ [])) was.spans ∙ sym (packed_one_more ss value)

    more_joined : bytes ≡ concat (ss ++ value ∷ [])
    more_joined = joined ∙ ap (λ b. b ++ value) was.joined ∙ sym (concat_one_more ss value)

    pub more_kept : ArePacked (cut_by offsets.lengths bytes) offsets bytes
    more_kept = packed_kept (ss ++ value ∷ []) offsets bytes more_spans more_joined

    pub more_view : cut_by offsets.lengths bytes ≡ ss ++ value ∷ []
    more_view = packed_view (ss ++ value ∷ []) offsets bytes more_spans more_joined

  module _ (n : ℕ) (offsets : Spans) (bytes : List ℕ) (kept : offsets ≡ first_spans old n) (cut : bytes ≡ take (last_of offsets) held) where
    first_packed : offsets ≡ packed (take n ss)
    first_packed = kept ∙ ap (λ (o : Spans). first_spans o n) was.spans ∙ sym (packed_first n ss)

    first_joined : bytes ≡ concat (take n ss)
    first_joined = cut ∙ ap₂ (λ (o : Spans) b. take (last_of o) b) first_packed was.joined ∙ sym (concat_first n ss)

    pub first_kept : ArePacked (cut_by offsets.lengths bytes) offsets bytes
    first_kept = packed_kept (take n ss) offsets bytes first_packed first_joined

    pub first_view : cut_by offsets.lengths bytes ≡ take n ss
    first_view = packed_view (take n ss) offsets bytes first_packed first_joined
