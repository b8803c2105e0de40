-- A range of a list without its first element, without its last, and its length; and texts without the last.
use Rattle.std.proofs.Common.{◌≡◌, ◌∙◌, ℕ, suc, ◌+◌, ◌-◌, ◌≤◌, ◌<◌, List, [], ◌∷◌, ◌++◌, length, take, drop, get_or, ap, arith, length-drop}
use Rattle.std.specs.Prelude.{Some, slice_get, slice_range}
use Rattle.std.proofs.lemmas.List.{drop_more, take_all, take_more, length-take, get_or-drop}
use Rattle.std.proofs.lemmas.Option.{get_or_from_slice_get}
use Rattle.std.specs.Str.{IsUtf8}
use Rattle.flat_arrays_bytes.specs.Texts.{AllTexts}

pub range_first : {X : Type 0} (xs : List X) (from end : ℕ) (x : X) → from < end → end ≤ length xs → slice_get xs from ≡ Some x
    → slice_range xs from end ≡ x ∷ slice_range xs (from + 1) end
range_first xs from end x some within is =
    let width : end - from ≡ suc (end - (from + 1)) = omega arith in
    ap (λ n. take n (drop from xs)) width ∙ ap (λ ys. take (suc (end - (from + 1))) ys) (drop_more xs from x (omega arith))
    ∙ ap (λ y. y ∷ slice_range xs (from + 1) end) (get_or_from_slice_get xs from x x is)

pub range_last : {X : Type 0} (xs : List X) (from end : ℕ) (x : X) → from < end → end ≤ length xs → slice_get xs (end - 1) ≡ Some x
    → slice_range xs from end ≡ slice_range xs from (end - 1) ++ x ∷ []
range_last xs from end x some within is =
    let count : ℕ = end - 1 - from in
    let width : end - from ≡ count + 1 = omega arith in
    let place : from + count ≡ end - 1 = omega arith in
    let inside : count < length (drop from xs) = omega (arith, length-drop from xs) in
    ap (λ n. take n (drop from xs)) width ∙ take_more (drop from xs) count x inside
    ∙ ap (λ y. take count (drop from xs) ++ y ∷ [])
    (get_or-drop from xs count x ∙ ap (λ k. get_or xs k x) place ∙ get_or_from_slice_get xs (end - 1) x x is)

pub range_len : {X : Type 0} (xs : List X) (from end : ℕ) → end ≤ length xs → length (slice_range xs from end) ≡ end - from
range_len xs from end within = omega (arith, length-take (end - from) (drop from xs), length-drop from xs)

pub range_all : {X : Type 0} (xs : List X) (n : ℕ) → n ≡ length xs → slice_range xs 0 n ≡ xs
range_all xs n e =
    let count : n - 0 ≡ n = omega arith in
    let le : length xs ≤ n = omega (arith, e) in
    ap (λ k. take k xs) count ∙ take_all n xs le

-- of some texts the last is a text
pub text_last : (xs : List (List ℕ)) (x : List ℕ) → AllTexts (xs ++ x ∷ []) → IsUtf8 x
text_last [] x h = h.0
text_last (y ∷ ys) x h = text_last ys x h.1

-- and so are those before it
pub texts_before : (xs : List (List ℕ)) (x : List ℕ) → AllTexts (xs ++ x ∷ []) → AllTexts xs
texts_before [] x h = tt
texts_before (y ∷ ys) x h = (h.0, texts_before ys x h.1)
