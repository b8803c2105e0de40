-- What slots need of the values of their dictionary: the first slots, and one more.
use Rattle.std.proofs.Common.{◌≡◌, ◌∙◌, ℕ, zero, suc, ◌≤◌, List, [], ◌∷◌, ◌++◌, length, take, Bool, refl, sym, ap, arith}
use Rattle.std.specs.Prelude.{max}
use Rattle.std.proofs.lemmas.List.{length-map}
use Rattle.std.proofs.Math.Seq.{take-length}
use Rattle.nested_arrays_builder_parts.specs.arrays.columns.Children.{dictionary_values}
use Rattle.nested_arrays_builder_parts.specs.arrays.columns.FreshColumns.{is_valid, key_among}
use Rattle.nested_arrays_builder_parts.specs.arrays.columns.Slots.{Slot}
use Rattle.nested_arrays_builder_parts.specs.columns.OpenParts.{grown_values, keys_among, marks_of, used_by, values_used}
use Rattle.nested_arrays_builder_parts.proofs.columns_lemmas.Masks.{marks_cut, marks_one_more}
use Rattle.nested_arrays_builder_parts.proofs.columns_lemmas.Values.{keys_first, keys_one_more, used_by_first, values_cut, values_grow}
use Rattle.nested_arrays_builder_values.specs.Uses.{greatest, use_among, uses_among}

-- ---- uses by marks and keys

abbrev zipped : List Bool → List ℕ → List ℕ
zipped [] keys = []
zipped (mark ∷ marks) [] = []
zipped (mark ∷ marks) (key ∷ keys) = used_by mark key ∷ zipped marks keys

uses_zipped : (values xs : List Slot) → uses_among values xs ≡ zipped (marks_of xs) (keys_among values xs)
uses_zipped values [] = refl
uses_zipped values (x ∷ xs) = ap (λ rest. use_among values x ∷ rest) (uses_zipped values xs)

take_zipped : (n : ℕ) (marks : List Bool) (keys : List ℕ) → take n (zipped marks keys) ≡ zipped (take n marks) (take n keys)
take_zipped zero marks keys = refl
take_zipped (suc n) [] keys = refl
take_zipped (suc n) (mark ∷ marks) [] = refl
take_zipped (suc n) (mark ∷ marks) (key ∷ keys) = ap (λ rest. used_by mark key ∷ rest) (take_zipped n marks keys)

zipped_more : (marks : List Bool) (keys : List ℕ) (mark : Bool) (key : ℕ) → length marks ≡ length keys
    → zipped (marks ++ mark ∷ []) (keys ++ key ∷ []) ≡ zipped marks keys ++ used_by mark key ∷ []
zipped_more [] [] mark key e = refl
zipped_more [] (k ∷ keys) mark key e = absurd (omega (arith, e))
zipped_more (m ∷ marks) [] mark key e = absurd (omega (arith, e))
zipped_more (m ∷ marks) (k ∷ keys) mark key e = ap (λ rest. used_by m k ∷ rest) (zipped_more marks keys mark key (omega (arith, e)))

greatest_zipped : (marks : List Bool) (keys : List ℕ) → values_used marks keys ≡ greatest (zipped marks keys)
greatest_zipped [] keys = refl
greatest_zipped (mark ∷ marks) [] = refl
greatest_zipped (mark ∷ marks) (key ∷ keys) = ap (max (used_by mark key)) (greatest_zipped marks keys)

-- ---- the first slots

module _ (n : ℕ) (xs : List Slot) where
  first_zipped : take n (uses_among (dictionary_values xs) xs) ≡ zipped (take n (marks_of xs)) (take n (keys_among (dictionary_values xs) xs))
  first_zipped = ap (take n) (uses_zipped (dictionary_values xs) xs) ∙ take_zipped n (marks_of xs) (keys_among (dictionary_values xs) xs)

  pub uses_first : uses_among (dictionary_values (take n xs)) (take n xs) ≡ take n (uses_among (dictionary_values xs) xs)
  uses_first = uses_zipped (dictionary_values (take n xs)) (take n xs) ∙ (λ j. zipped (marks_cut n xs j) (keys_first n xs j)) ∙ sym first_zipped

  first_used : values_used (take n (marks_of xs)) (take n (keys_among (dictionary_values xs) xs))
      ≡ greatest (take n (uses_among (dictionary_values xs) xs))
  first_used = greatest_zipped (take n (marks_of xs)) (take n (keys_among (dictionary_values xs) xs)) ∙ ap greatest (sym first_zipped)

  -- the values of the first slots are as many of the first values as these need
  pub values_first_used : n ≤ length xs
      → dictionary_values (take n xs) ≡ take (greatest (take n (uses_among (dictionary_values xs) xs))) (dictionary_values xs)
  values_first_used le = values_cut n xs le ∙ ap (λ m. take m (dictionary_values xs)) first_used

  pub many_first_used : n ≤ length xs → greatest (take n (uses_among (dictionary_values xs) xs)) ≡ length (dictionary_values (take n xs))
  many_first_used le = sym (used_by_first xs n le ∙ first_used)

-- all slots need all values
pub all_used : (xs : List Slot) → greatest (uses_among (dictionary_values xs) xs) ≡ length (dictionary_values xs)
all_used xs =
    let uses = uses_among (dictionary_values xs) xs in
    let whole : take (length xs) uses ≡ uses = ap (λ m. take m uses) (sym (length-map xs (use_among (dictionary_values xs)))) ∙ take-length uses in
    sym (ap greatest whole) ∙ many_first_used (length xs) xs (omega arith)
    ∙ ap (λ ys. length (dictionary_values ys)) (take-length xs)

-- ---- one more

pub uses_one_more : (xs : List Slot) (s : Slot) → uses_among (dictionary_values (xs ++ s ∷ [])) (xs ++ s ∷ [])
    ≡ uses_among (dictionary_values xs) xs ++ use_among (grown_values (dictionary_values xs) s) s ∷ []
uses_one_more xs s =
    let values = dictionary_values xs in
    let then = dictionary_values (xs ++ s ∷ []) in
    uses_zipped then (xs ++ s ∷ [])
    ∙ (λ j. zipped (marks_one_more xs s j) (keys_one_more xs s j))
    ∙ zipped_more (marks_of xs) (keys_among values xs) (is_valid s) (key_among then s)
    (length-map xs is_valid ∙ sym (length-map xs (key_among values)))
    ∙ (λ j. sym (uses_zipped values xs) j ++ use_among (values_grow xs s j) s ∷ [])
