-- Parts of lists that are joined, what is chosen of lists, and tests of each element.
use Rattle.std.proofs.Common.{◌≡◌, ◌∙◌, ℕ, zero, suc, ◌+◌, ◌-◌, ◌<◌, min, true, Bool, List, [], ◌∷◌, ◌++◌, length, map, take, drop}
use Rattle.std.proofs.Common.{inl, inr, refl, sym, ap, ap₂, arith, length-drop}
use Rattle.std.specs.Prelude.{Option, Some, None, slice_get, option_map}
use Rattle.std.specs.List.{list_all, cons_option}
use Rattle.std.proofs.Math.Nat.{min-eq_left, min-eq_right}
use Rattle.std.proofs.lemmas.Bool.{and_parts, and_from, cases_lt}
use Rattle.std.proofs.lemmas.List.{take_min}
use Rattle.ipc_format.specs.columns.Slots.{window}
use Rattle.ipc_format.specs.columns.StoredColumns.{cut_list}
use Rattle.ipc_format.specs.columns.Tables.{chosen}

-- ---- parts of joined lists

drop_append : {A : Type 0} (o : ℕ) (xs ys : List A) → drop o (xs ++ ys) ≡ drop o xs ++ drop (o - length xs) ys
drop_append zero xs ys =
    let none : 0 ≡ 0 - length xs = omega arith in
    ap (λ k. xs ++ drop k ys) none
drop_append (suc o) [] ys =
    let whole : suc o ≡ suc o - 0 = omega arith in
    ap (λ k. drop k ys) whole
drop_append (suc o) (x ∷ xs) ys =
    let less : o - length xs ≡ suc o - suc (length xs) = omega arith in
    drop_append o xs ys ∙ ap (λ k. drop o xs ++ drop k ys) less

take_append : {A : Type 0} (n : ℕ) (xs ys : List A) → take n (xs ++ ys) ≡ take n xs ++ take (n - length xs) ys
take_append zero xs ys =
    let none : 0 ≡ 0 - length xs = omega arith in
    ap (λ k. take k ys) none
take_append (suc n) [] ys =
    let whole : suc n ≡ suc n - 0 = omega arith in
    ap (λ k. take k ys) whole
take_append (suc n) (x ∷ xs) ys =
    let less : n - length xs ≡ suc n - suc (length xs) = omega arith in
    ap (λ zs. x ∷ zs) (take_append n xs ys ∙ ap (λ k. take n xs ++ take k ys) less)

-- what a minimum leaves
pub left_of_least : (n m : ℕ) → n - min n m ≡ n - m
left_of_least n m = elim (cases_lt n m) [
  | inl few ↦ let e : min n m ≡ n = min-eq_left (omega arith) in omega (arith, e)
  | inr many ↦ let e : min n m ≡ m = min-eq_right many in omega (arith, e)
]

-- a part of two lists is a part of the first, and then one of the second
pub cut_append : {A : Type 0} (xs ys : List A) (m o n : ℕ) → length xs ≡ m
    → cut_list xs o (min n (m - o)) ++ cut_list ys (o - m) (n - min n (m - o)) ≡ cut_list (xs ++ ys) o n
cut_append xs ys m o n size =
    let size_is : m ≡ length xs = sym size in
    let here : length (drop o xs) ≡ m - o = omega (arith, length-drop o xs, size) in
    let one : o + min n (m - o) - o ≡ min n (length (drop o xs)) = omega arith ∙ ap (min n) (sym here) in
    let two : o - m + (n - min n (m - o)) - (o - m) ≡ n - length (drop o xs) = omega (arith, left_of_least n (m - o), here) in
    let all : n ≡ o + n - o = omega arith in
    ap₂ (λ (a b : ℕ). take a (drop o xs) ++ take b (drop (o - m) ys)) one two
    ∙ ap₂ (λ zs (k : ℕ). zs ++ take (n - length (drop o xs)) (drop (o - k) ys)) (take_min n (drop o xs)) size_is
    ∙ sym (take_append n (drop o xs) (drop (o - length xs) ys))
    ∙ ap (take n) (sym (drop_append o xs ys))
    ∙ ap (λ k. take k (drop o (xs ++ ys))) all

-- of an empty list every part is empty
pub cut_none : {A : Type 0} (o n : ℕ) → cut_list {A = A} [] o n ≡ []
cut_none {A} o n = ap (take (o + n - o)) (dropped o) ∙ taken (o + n - o)
  where
    dropped : (o : ℕ) → drop {A = A} o [] ≡ []
    dropped zero = refl
    dropped (suc o) = refl

    taken : (n : ℕ) → take {A = A} n [] ≡ []
    taken zero = refl
    taken (suc n) = refl

-- ---- what is chosen

slice_get-map : {A B : Type 0} (f : A → B) (xs : List A) (k : ℕ) → slice_get (map f xs) k ≡ option_map f (slice_get xs k)
slice_get-map f [] k = refl
slice_get-map f (x ∷ xs) zero = refl
slice_get-map f (x ∷ xs) (suc k) = slice_get-map f xs k

map-cons_option : {A B : Type 0} (f : A → B) (found : Option A) (xs : List A)
    → cons_option (option_map f found) (map f xs) ≡ map f (cons_option found xs)
map-cons_option f None xs = refl
map-cons_option f (Some x) xs = refl

-- what is chosen of what a function gives is what it gives of the chosen
pub chosen-map : {A B : Type 0} (f : A → B) (ks : List ℕ) (xs : List A) → chosen ks (map f xs) ≡ map f (chosen ks xs)
chosen-map f [] xs = refl
chosen-map f (k ∷ ks) xs =
    ap₂ cons_option (slice_get-map f xs k) (chosen-map f ks xs) ∙ map-cons_option f (slice_get xs k) (chosen ks xs)

-- an element at a place within a list
pub found_at : {A : Type 0} (xs : List A) (k : ℕ) → k < length xs → (x : A) × (slice_get xs k ≡ Some x)
found_at [] k inside = absurd (omega arith)
found_at (x ∷ xs) zero inside = (x, refl)
found_at (x ∷ xs) (suc k) inside = found_at xs k (omega arith)

-- ---- tests of each element

pub list_all-append : {A : Type 0} (test : A → Bool) (xs ys : List A) → list_all test xs ≡ true → list_all test ys ≡ true
    → list_all test (xs ++ ys) ≡ true
list_all-append test [] ys first second = second
list_all-append test (x ∷ xs) ys first second =
    let parts = and_parts (test x) (list_all test xs) first in
    and_from (test x) (list_all test (xs ++ ys)) parts.0 (list_all-append test xs ys parts.1 second)

-- what holds of each element holds of one that is found
pub list_all-found : {A : Type 0} (test : A → Bool) (xs : List A) (k : ℕ) (x : A) → list_all test xs ≡ true → slice_get xs k ≡ Some x
    → test x ≡ true
list_all-found test [] k x each found = absurd cc
list_all-found {A} test (first ∷ xs) zero x each found =
    ap test (sym (same found)) ∙ (and_parts (test first) (list_all test xs) each).0
  where
    or_else : Option A → A
    or_else None = first
    or_else (Some x) = x

    same : Some first ≡ Some x → first ≡ x
    same e = ap or_else e
list_all-found test (first ∷ xs) (suc k) x each found =
    list_all-found test xs k x (and_parts (test first) (list_all test xs) each).1 found

-- ---- values of a function at places

pub window-map : {A B : Type 0} (g : A → B) (f : ℕ → A) (first n : ℕ) → map g (window f first n) ≡ window (λ i. g (f i)) first n
window-map g f first zero = refl
window-map g f first (suc n) = ap (λ xs. g (f first) ∷ xs) (window-map g f (first + 1) n)

pub list_all-window : {A : Type 0} (test : A → Bool) (f : ℕ → A) (first n : ℕ) → ((i : ℕ) → test (f i) ≡ true)
    → list_all test (window f first n) ≡ true
list_all-window test f first zero each = refl
list_all-window test f first (suc n) each =
    and_from (test (f first)) (list_all test (window f (first + 1) n)) (each first) (list_all-window test f (first + 1) n each)
