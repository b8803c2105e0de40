-- Slots of lists that grow.
use Rattle.std.proofs.Common.{◌≡◌, ◌∙◌, ℕ, ◌+◌, ◌<◌, ◌⊎◌, inl, inr, Bool, true, List, [], ◌∷◌, ◌++◌, length, map, replicate, refl, ap, sym, arith}
use Rattle.std.proofs.lemmas.List.{length-append, length-replicate, length-map, map-append, replicate-append-replicate}
use Rattle.std.specs.List.{zip}
use Rattle.std.specs.Prelude.{Option, Some, None, is_some, unwrap_or}
use Rattle.columnar_memory_core.specs.Bits.{unset_count}
use Rattle.flat_arrays_values.specs.Flat.{Flat, marks, slot_of, slots_of, IsMaskOf}
use Rattle.flat_arrays_values.specs.Growth.{grown, with_marks, with_slots}
use Rattle.flat_arrays_values.proofs.Marked.{all-true, made, none_or_some, unmade}

marks-grow : (n m : ℕ) (validity : Option (List Bool)) (bits : List Bool) → length bits ≡ m
    → marks (n + m) (with_marks n validity bits) ≡ marks n validity ++ bits
marks-grow n m (Some mask) bits long = refl
marks-grow n m None bits long = by_count (none_or_some (unset_count bits))
  where
    by_count : (unset_count bits ≡ 0) ⊎ (0 < unset_count bits) → marks (n + m) (with_marks n None bits) ≡ replicate n true ++ bits
    by_count (inl none) =
        let ones : replicate m true ≡ bits = ap (λ k. replicate k true) (sym long) ∙ sym (all-true bits none) in
        ap (λ v. marks (n + m) v) (unmade n bits none) ∙ sym (replicate-append-replicate n m true) ∙ ap (λ xs. replicate n true ++ xs) ones
    by_count (inr some) = ap (λ v. marks (n + m) v) (made n bits some)

length-marks : (n : ℕ) (validity : Option (List Bool)) → IsMaskOf n validity → length (marks n validity) ≡ n
length-marks n None is = length-replicate n true
length-marks n (Some mask) is = is mask refl

zip-append : {A B : Type 0} (xs ys : List A) (bs ds : List B) → length bs ≡ length xs → zip (xs ++ ys) (bs ++ ds) ≡ zip xs bs ++ zip ys ds
zip-append [] ys [] ds same = refl
zip-append [] ys (b ∷ bs) ds same = absurd (omega arith)
zip-append (x ∷ xs) ys [] ds same = absurd (omega arith)
zip-append (x ∷ xs) ys (b ∷ bs) ds same = ap (λ rest. (x, b) ∷ rest) (zip-append xs ys bs ds (omega arith))

pub grown_slots : {V : Type 0} (a : Flat V) (values : List V) (bits : List Bool) → IsMaskOf (length a.values) a.validity
    → length bits ≡ length values → slots_of (grown a values bits) ≡ slots_of a ++ map slot_of (zip values bits)
grown_slots a values bits is long =
    let held = marks (length a.values) a.validity in
    let grow =
    ap (λ n. marks n (with_marks (length a.values) a.validity bits)) (length-append a.values values)
    ∙ marks-grow (length a.values) (length values) a.validity bits long in
    ap (λ ms. map slot_of (zip (a.values ++ values) ms)) grow
    ∙ ap (λ ps. map slot_of ps) (zip-append a.values values held bits (length-marks (length a.values) a.validity is))
    ∙ map-append slot_of (zip a.values held) (zip values bits)

slots-stored : {V : Type 0} (blank : V) (slots : List (Option V)) → map slot_of (zip (map (λ s. unwrap_or s blank) slots) (map is_some slots)) ≡ slots
slots-stored blank [] = refl
slots-stored blank (Some value ∷ slots) = ap (λ rest. Some value ∷ rest) (slots-stored blank slots)
slots-stored blank (None ∷ slots) = ap (λ rest. None ∷ rest) (slots-stored blank slots)

pub added_slots : {V : Type 0} (blank : V) (a : Flat V) (slots : List (Option V)) → IsMaskOf (length a.values) a.validity
    → slots_of (with_slots blank a slots) ≡ slots_of a ++ slots
added_slots {V} blank a slots is =
    let stored : Option V → V = λ s. unwrap_or s blank in
    grown_slots a (map stored slots) (map is_some slots) is (length-map slots is_some ∙ sym (length-map slots stored))
    ∙ ap (λ xs. slots_of a ++ xs) (slots-stored blank slots)
