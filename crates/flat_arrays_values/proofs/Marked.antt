-- Marks of lists that grow and change.
use Rattle.std.proofs.Common.{◌≡◌, ◌∙◌, ℕ, zero, suc, ◌+◌, ◌<◌, ◌⊎◌, inl, inr, Bool, true, false, not, List, [], ◌∷◌, ◌++◌, length, map}
use Rattle.std.proofs.Common.{replicate, refl, ap, ap₂, sym, subst, arith}
use Rattle.std.proofs.lemmas.List.{length-append, length-replicate, length-map, length-set}
use Rattle.std.proofs.lemmas.List.{map-append, append_assoc, append-nil, replicate-append-replicate}
use Rattle.std.proofs.lemmas.List.Sums.{sum_by-cons}
use Rattle.std.proofs.Math.Dec.{eqb-suc-zero}
use Rattle.std.proofs.Math.Seq.{take-append_seam}
use Rattle.std.specs.Prelude.{Option, Some, None, is_some, unwrap_or, cond, ◌==◌, if◌then◌else◌, slice_set}
use Rattle.columnar_memory_core.specs.Bits.{unset_count}
use Rattle.columnar_memory_core.proofs.bits_lemmas.Counts.{unset_count_append}
use Rattle.flat_arrays_values.proofs.MarkPlaces.{all_set}
use Rattle.flat_arrays_values.specs.Flat.{Flat, flat, needed_mask, IsMaskOf}
use Rattle.flat_arrays_values.specs.Growth.{grown, with_mark, with_marks, with_slots, with_values}
use mathlib.Core.Bool.{true≢false}

no-mask : (n : ℕ) → IsMaskOf n None
no-mask n mask some = absurd (true≢false (sym (ap is_some some)))

a-mask : (n : ℕ) (mask : List Bool) → length mask ≡ n → IsMaskOf n (Some mask)
a-mask n mask long other some = ap length (sym (ap (λ o. unwrap_or o mask) some)) ∙ long

-- a mask that has grown has a mark for each value
with_marks-masked : (n m : ℕ) (validity : Option (List Bool)) (bits : List Bool) → IsMaskOf n validity → length bits ≡ m
    → IsMaskOf (n + m) (with_marks n validity bits)
with_marks-masked n m (Some mask) bits is long =
    a-mask (n + m) (mask ++ bits) (length-append mask bits ∙ ap₂ (λ (i j : ℕ). i + j) (is mask refl) long)
with_marks-masked n m None bits is long =
    elim (unset_count bits == 0) as (λ b. IsMaskOf (n + m) (if b then None else Some (replicate n true ++ bits))) [
      | true ↦ no-mask (n + m)
      | false ↦ a-mask (n + m) (replicate n true ++ bits)
          (length-append (replicate n true) bits ∙ ap₂ (λ (i j : ℕ). i + j) (length-replicate n true) long)
    ]

pub grown_masked : {V : Type 0} (values more : List V) (validity : Option (List Bool)) (bits : List Bool) → IsMaskOf (length values) validity
    → length bits ≡ length more → IsMaskOf (length (values ++ more)) (with_marks (length values) validity bits)
grown_masked values more validity bits is long =
    let P : ℕ → Type 0 = λ n. IsMaskOf n (with_marks (length values) validity bits) in
    subst P (sym (length-append values more)) (with_marks-masked (length values) (length more) validity bits is long)

pub with_mark_masked : (n i : ℕ) (validity : Option (List Bool)) (b : Bool) → IsMaskOf n validity → IsMaskOf n (with_mark n validity i b)
with_mark_masked n i (Some mask) b is = a-mask n (slice_set mask i b) (length-set mask i b ∙ is mask refl)
with_mark_masked n i None true is = no-mask n
with_mark_masked n i None false is =
    a-mask n (slice_set (replicate n true) i false) (length-set (replicate n true) i false ∙ length-replicate n true)

positive : (k : ℕ) → 0 < k → (k == 0) ≡ false
positive zero some = absurd (omega arith)
positive (suc k) some = eqb-suc-zero k

pub none_or_some : (k : ℕ) → (k ≡ 0) ⊎ (0 < k)
none_or_some zero = inl refl
none_or_some (suc k) = inr (omega arith)

needed-masked : (n : ℕ) (validity : Option (List Bool)) → IsMaskOf n validity → IsMaskOf n (needed_mask validity)
needed-masked n None is = is
needed-masked n (Some mask) is =
    elim (unset_count mask == 0) as (λ b. IsMaskOf n (if b then None else Some mask)) [
      | true ↦ no-mask n
      | false ↦ is
    ]

-- a mask that was let go where no slot is null has a mark for each value
pub needed_masked : (n : ℕ) (validity mask : Option (List Bool)) → mask ≡ needed_mask validity → IsMaskOf n validity → IsMaskOf n mask
needed_masked n validity mask same is = subst (IsMaskOf n) (sym same) (needed-masked n validity is)

-- a false mark makes a mask, where there was none
pub made : (n : ℕ) (bits : List Bool) → 0 < unset_count bits → with_marks n None bits ≡ Some (replicate n true ++ bits)
made n bits some = ap (λ b. if b then None else Some (replicate n true ++ bits)) (positive (unset_count bits) some)

-- true marks make none
pub unmade : (n : ℕ) (bits : List Bool) → unset_count bits ≡ 0 → with_marks n None bits ≡ None
unmade n bits none = ap (λ k. if k == 0 then None else Some (replicate n true ++ bits)) none

unset-first : (bits : List Bool) → unset_count (false ∷ bits) ≡ 1 + unset_count bits
unset-first bits = sum_by-cons (λ b. cond (not b) 1 0) false bits

pub none_set : (n : ℕ) → unset_count (replicate n false) ≡ n
none_set zero = refl
none_set (suc n) = unset-first (replicate n false) ∙ ap (λ k. 1 + k) (none_set n) ∙ omega arith

pub all-true : (bits : List Bool) → unset_count bits ≡ 0 → bits ≡ replicate (length bits) true
all-true [] none = refl
all-true (true ∷ bits) none = ap (λ rest. true ∷ rest) (all-true bits none)
all-true (false ∷ bits) none = absurd (let count = unset-first bits in omega (arith, count, none))

-- marks that grow twice
marks-join : (n m : ℕ) (validity : Option (List Bool)) (bits more : List Bool) → length bits ≡ m
    → with_marks (n + m) (with_marks n validity bits) more ≡ with_marks n validity (bits ++ more)
marks-join n m (Some mask) bits more long = ap Some (append_assoc mask bits more)
marks-join n m None bits more long = by_count (none_or_some (unset_count bits))
  where
    whole : unset_count bits ≡ 0 → replicate (n + m) true ++ more ≡ replicate n true ++ (bits ++ more)
    whole none =
        let ones : replicate m true ≡ bits = ap (λ k. replicate k true) (sym long) ∙ sym (all-true bits none) in
        ap (λ xs. xs ++ more) (sym (replicate-append-replicate n m true) ∙ ap (λ xs. replicate n true ++ xs) ones)
        ∙ append_assoc (replicate n true) bits more

    by_count : (unset_count bits ≡ 0) ⊎ (0 < unset_count bits) → with_marks (n + m) (with_marks n None bits) more ≡ with_marks n None (bits ++ more)
    by_count (inl none) =
        let same : unset_count more ≡ unset_count (bits ++ more) = let sum = unset_count_append bits more in omega (arith, sum, none) in
        ap (λ v. with_marks (n + m) v more) (unmade n bits none)
        ∙ ap₂ (λ (k : ℕ) (xs : List Bool). if k == 0 then None else Some xs) same (whole none)
    by_count (inr some) =
        let more_unset : 0 < unset_count (bits ++ more) = let sum = unset_count_append bits more in omega (arith, sum, some) in
        ap (λ v. with_marks (n + m) v more) (made n bits some) ∙ ap Some (append_assoc (replicate n true) bits more)
        ∙ sym (made n (bits ++ more) more_unset)

-- a list that grows twice
pub grown_twice : {V : Type 0} (a : Flat V) (values more : List V) (bits marks : List Bool) → length bits ≡ length values
    → grown (grown a values bits) more marks ≡ grown a (values ++ more) (bits ++ marks)
grown_twice a values more bits marks long =
    ap₂ (λ vs validity. flat a.data_type vs validity) (append_assoc a.values values more)
    (ap (λ n. with_marks n (with_marks (length a.values) a.validity bits) marks) (length-append a.values values)
    ∙ marks-join (length a.values) (length values) a.validity bits marks long)

pub grown_nothing : {V : Type 0} (a : Flat V) → a ≡ grown a [] []
grown_nothing a = sym (ap₂ (λ vs validity. flat a.data_type vs validity) (append-nil a.values) (nothing a.validity))
  where
    nothing : (validity : Option (List Bool)) → with_marks (length a.values) validity [] ≡ validity
    nothing None = refl
    nothing (Some mask) = ap Some (append-nil mask)

-- one more slot
slots-more : {V : Type 0} (blank : V) (a : Flat V) (slots : List (Option V)) (slot : Option V)
    → grown (with_slots blank a slots) (unwrap_or slot blank ∷ []) (is_some slot ∷ []) ≡ with_slots blank a (slots ++ slot ∷ [])
slots-more {V} blank a slots slot =
    let stored : Option V → V = λ s. unwrap_or s blank in
    grown_twice a (map stored slots) (stored slot ∷ []) (map is_some slots) (is_some slot ∷ [])
    (length-map slots is_some ∙ sym (length-map slots stored))
    ∙ ap₂ (λ vs bs. grown a vs bs) (sym (map-append stored slots (slot ∷ []))) (sym (map-append is_some slots (slot ∷ [])))

pub slot_added : {V : Type 0} (blank : V) (a now new : Flat V) (slots : List (Option V)) (slot : Option V) (value : V) (mark : Bool)
    → now ≡ with_slots blank a slots → value ≡ unwrap_or slot blank → mark ≡ is_some slot → new ≡ grown now (value ∷ []) (mark ∷ [])
    → new ≡ with_slots blank a (slots ++ slot ∷ [])
slot_added blank a now new slots slot value mark was is_value is_mark added =
    added ∙ ap (λ b. grown b (value ∷ []) (mark ∷ [])) was
    ∙ ap₂ (λ v m. grown (with_slots blank a slots) (v ∷ []) (m ∷ [])) is_value is_mark ∙ slots-more blank a slots slot

-- one more value
values-more : {V : Type 0} (a : Flat V) (values : List V) (value : V)
    → grown (with_values a values) (value ∷ []) (true ∷ []) ≡ with_values a (values ++ value ∷ [])
values-more a values value =
    let ones : replicate (length values) true ++ true ∷ [] ≡ replicate (length (values ++ value ∷ [])) true =
    replicate-append-replicate (length values) 1 true ∙ ap (λ n. replicate n true) (sym (length-append values (value ∷ []))) in
    grown_twice a values (value ∷ []) (replicate (length values) true) (true ∷ []) (length-replicate (length values) true)
    ∙ ap (λ bs. grown a (values ++ value ∷ []) bs) ones

pub value_added : {V : Type 0} (a now new : Flat V) (values : List V) (value : V)
    → now ≡ with_values a values → new ≡ grown now (value ∷ []) (true ∷ []) → new ≡ with_values a (values ++ value ∷ [])
value_added a now new values value was added =
    added ∙ ap (λ b. grown b (value ∷ []) (true ∷ [])) was ∙ values-more a values value

-- equal slots
map-replicate : {A B : Type 0} (f : A → B) (n : ℕ) (x : A) → map f (replicate n x) ≡ replicate n (f x)
map-replicate f zero x = refl
map-replicate f (suc n) x = ap (λ rest. f x ∷ rest) (map-replicate f n x)

pub equal_slots : {V : Type 0} (blank : V) (a : Flat V) (n : ℕ) (slot : Option V) (value : V) (mark : Bool)
    → value ≡ unwrap_or slot blank → mark ≡ is_some slot
    → grown a (replicate n value) (replicate n mark) ≡ with_slots blank a (replicate n slot)
equal_slots {V} blank a n slot value mark is_value is_mark =
    let stored : Option V → V = λ s. unwrap_or s blank in
    ap₂ (λ v m. grown a (replicate n v) (replicate n m)) is_value is_mark
    ∙ ap₂ (λ vs ms. grown a vs ms) (sym (map-replicate stored n slot)) (sym (map-replicate is_some n slot))

pub ruleset masked = (grown_masked, with_mark_masked)

pub ruleset counted = (made, unmade, none_set, all_set)

pub ruleset cut_back = (take-append_seam)
