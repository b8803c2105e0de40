-- Parts of lists, and values of a function at places.
use Rattle.std.proofs.Common.{◌≡◌, ℕ, zero, suc, ◌+◌, ◌-◌, ◌≤◌, ◌<◌, List, ◌∷◌, length, get_or, take, drop, refl, sym, ap, ◌∙◌, arith, length-drop}
use Rattle.std.proofs.lemmas.List.{get_or-take, get_or-drop, length-take-le, drop-drop, drop-take, take-take}
use Rattle.nested_arrays_columns.specs.Slots.{window}
use Rattle.nested_arrays_columns.specs.StoredColumns.{cut_list}

-- what stands at a place of a part
pub get_or-cut_list : {A : Type 0} (xs : List A) (o n i : ℕ) (d : A) → i < n → get_or (cut_list xs o n) i d ≡ get_or xs (o + i) d
get_or-cut_list xs o n i d h = get_or-take (o + n - o) (drop o xs) i d (omega arith) ∙ get_or-drop o xs i d

-- a part within a list is as long as it was asked for
pub length-cut_list : {A : Type 0} (xs : List A) (o n : ℕ) → o + n ≤ length xs → length (cut_list xs o n) ≡ n
length-cut_list xs o n h = length-take-le (o + n - o) (drop o xs) (omega (arith, length-drop o xs)) ∙ omega arith

-- a part of a part is one part
pub cut_list-cut_list : {A : Type 0} (xs : List A) (o n p q : ℕ) → p + q ≤ n → cut_list (cut_list xs o n) p q ≡ cut_list xs (o + p) q
cut_list-cut_list xs o n p q h =
    let one : o + n - o ≡ p + (n - p) = omega arith in
    let two : p + q - p ≡ q = omega arith in
    let three : o + p + q - (o + p) ≡ q = omega arith in
    let inner : drop p (take (o + n - o) (drop o xs)) ≡ take (n - p) (drop (o + p) xs) =
    ap (λ k. drop p (take k (drop o xs))) one ∙ drop-take p (n - p) (drop o xs) ∙ ap (take (n - p)) (drop-drop p o xs) in
    ap (λ k. take k (drop p (take (o + n - o) (drop o xs)))) two ∙ ap (take q) inner ∙ take-take q (n - p) (drop (o + p) xs) (omega arith)
    ∙ ap (λ k. take k (drop (o + p) xs)) (sym three)

-- two functions that agree at n places have the same values there
pub window_same : {A : Type 0} (f g : ℕ → A) (a b n : ℕ) → ((i : ℕ) → i < n → f (a + i) ≡ g (b + i)) → window f a n ≡ window g b n
window_same f g a b zero same = refl
window_same f g a b (suc n) same =
    let first : f a ≡ g b = ap f (omega arith) ∙ same 0 (omega arith) ∙ ap g (omega arith) in
    let rest = window_same f g (a + 1) (b + 1) n (λ i h. ap f (omega arith) ∙ same (i + 1) (omega arith) ∙ ap g (omega arith)) in
    λ i. first i ∷ rest i

pub length-window : {A : Type 0} (f : ℕ → A) (a n : ℕ) → length (window f a n) ≡ n
length-window f a zero = refl
length-window f a (suc n) = ap suc (length-window f (a + 1) n)

drop-window : {A : Type 0} (f : ℕ → A) (a m o : ℕ) → drop o (window f a m) ≡ window f (a + o) (m - o)
drop-window f a m zero =
    let at : a ≡ a + 0 = omega arith in
    let size : m ≡ m - 0 = omega arith in
    λ i. window f (at i) (size i)
drop-window f a zero (suc o) =
    let none : 0 ≡ 0 - suc o = omega arith in
    ap (window f (a + suc o)) none
drop-window f a (suc m) (suc o) =
    let at : a + 1 + o ≡ a + suc o = omega arith in
    let size : m - o ≡ suc m - suc o = omega arith in
    drop-window f (a + 1) m o ∙ (λ i. window f (at i) (size i))

take-window : {A : Type 0} (f : ℕ → A) (a m n : ℕ) → n ≤ m → take n (window f a m) ≡ window f a n
take-window f a m zero h = refl
take-window f a zero (suc n) h = absurd (omega arith)
take-window f a (suc m) (suc n) h = ap (λ xs. f a ∷ xs) (take-window f (a + 1) m n (omega arith))

-- a part of a function's values are its values from there on
pub cut_list-window : {A : Type 0} (f : ℕ → A) (m o n : ℕ) → o + n ≤ m → cut_list (window f 0 m) o n ≡ window f o n
cut_list-window f m o n h =
    let size : o + n - o ≡ n = omega arith in
    ap (λ k. take k (drop o (window f 0 m))) size ∙ ap (take n) (drop-window f 0 m o) ∙ take-window f (0 + o) (m - o) n (omega arith)
    ∙ ap (λ k. window f k n) (omega arith)
