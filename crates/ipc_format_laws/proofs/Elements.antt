-- Parts of lists, and elements of one size.
use Rattle.std.proofs.Common.{◌≡◌, ◌∙◌, ℕ, zero, suc, ◌+◌, ◌*◌, ◌<◌, Bool, true, List, [], ◌∷◌, ◌++◌, length, get_or, take, drop, refl, sym, ap, ap₂}
use Rattle.std.proofs.Common.{arith, add-zero, add_comm, mul-zero, mul-suc, suc-mul, append_assoc, length-append}
use Rattle.std.proofs.Math.Seq.{take-append_seam, drop-append-add}
use Rattle.std.proofs.lemmas.Bool.{and_parts, and_from}
use Rattle.std.proofs.lemmas.List.Sums.{AllPass-from_list_all}
use Rattle.std.specs.List.{flat_map, list_all, slice_get}
use Rattle.std.specs.Prelude.{Some}
use Rattle.ipc_format_grammar.specs.columns.Slots.{window}
use Rattle.ipc_format_laws.specs.Columns.{StandsAt}

-- ---- parts

-- the front of a part
pub part_front : {A : Type 0} {all : List A} {k : ℕ} (a b : List A) → StandsAt all k (a ++ b) → StandsAt all k a
part_front a b s = record {
  before = s.before;
  after = b ++ s.after;
  whole = s.whole ∙ ap (λ xs. s.before ++ xs) (append_assoc a b s.after);
  at = s.at;
}

-- the back of a part
pub part_back : {A : Type 0} {all : List A} {k : ℕ} (a b : List A) (next : ℕ) → next ≡ k + length a → StandsAt all k (a ++ b)
    → StandsAt all next b
part_back a b next e s = record {
  before = s.before ++ a;
  after = s.after;
  whole = s.whole ∙ ap (λ xs. s.before ++ xs) (append_assoc a b s.after) ∙ sym (append_assoc s.before a (b ++ s.after));
  at = length-append s.before a ∙ ap (λ (j : ℕ). j + length a) s.at ∙ sym e;
}

-- what stands behind the first of a part
pub part_next : {A : Type 0} {all : List A} {k : ℕ} (x : A) (xs : List A) → StandsAt all k (x ∷ xs) → StandsAt all (k + 1) xs
part_next {A} {all} {k} x xs s = part_back (x ∷ []) xs (k + 1) refl s

slice_get_behind : {A : Type 0} (before : List A) (x : A) (after : List A) → slice_get (before ++ (x ∷ after)) (length before) ≡ Some x
slice_get_behind [] x after = refl
slice_get_behind (y ∷ before) x after = slice_get_behind before x after

-- the first of a part, where it stands
pub part_first : {A : Type 0} {all : List A} {k : ℕ} (x : A) (xs : List A) → StandsAt all k (x ∷ xs) → slice_get all k ≡ Some x
part_first x xs s =
    ap₂ (λ list place. slice_get list place) s.whole (sym s.at) ∙ slice_get_behind s.before x (xs ++ s.after)

-- ---- elements of one size

-- what passes each test passes it at each place
pub passes_at : {A : Type 0} (test : A → Bool) (xs : List A) (i : ℕ) (d : A) → list_all test xs ≡ true → i < length xs
    → test (get_or xs i d) ≡ true
passes_at test xs i d all inside = AllPass-from_list_all test xs all i d inside

-- element i of values of one size is value i
pub element_back : {A B : Type 0} (value : A → List B) (size : ℕ) (test : A → Bool) → ((x : A) → test x ≡ true → length (value x) ≡ size)
    → (xs : List A) (i : ℕ) (d : A) → list_all test xs ≡ true → i < length xs
    → take size (drop (size * i) (flat_map value xs)) ≡ value (get_or xs i d)
element_back value size test sized [] i d all inside = absurd (omega arith)
element_back value size test sized (x ∷ xs) zero d all inside =
    let here : length (value x) ≡ size = sized x (and_parts (test x) (list_all test xs) all).0 in
    ap (λ k. take size (drop k (flat_map value (x ∷ xs)))) (mul-zero size)
    ∙ ap (λ k. take k (value x ++ flat_map value xs)) (sym here) ∙ take-append_seam (value x) (flat_map value xs)
element_back value size test sized (x ∷ xs) (suc i) d all inside =
    let parts = and_parts (test x) (list_all test xs) all in
    let past : size * suc i ≡ length (value x) + size * i =
    mul-suc size i ∙ add_comm (size * i) size ∙ ap (λ k. k + size * i) (sym (sized x parts.0)) in
    ap (λ k. take size (drop k (flat_map value (x ∷ xs)))) past
    ∙ ap (take size) (drop-append-add (value x) (flat_map value xs) (size * i))
    ∙ element_back value size test sized xs i d parts.1 (omega arith)

-- values of one size take so many bytes together
pub elements_size : {A B : Type 0} (value : A → List B) (size : ℕ) (test : A → Bool) → ((x : A) → test x ≡ true → length (value x) ≡ size)
    → (xs : List A) → list_all test xs ≡ true → length xs * size ≡ length (flat_map value xs)
elements_size value size test sized [] all = suc-mul-none size
  where
    suc-mul-none : (n : ℕ) → 0 * n ≡ 0
    suc-mul-none n = omega arith
elements_size value size test sized (x ∷ xs) all =
    let parts = and_parts (test x) (list_all test xs) all in
    suc-mul (length xs) size ∙ add_comm (length xs * size) size
    ∙ ap₂ (λ m n. m + n) (sym (sized x parts.0)) (elements_size value size test sized xs parts.1)
    ∙ sym (length-append (value x) (flat_map value xs))

-- ---- values at places

place_after : (a i : ℕ) → a + 1 + i ≡ a + suc i
place_after a i = omega arith

-- the values of a function that gives each slot at its place
pub window_is : {A : Type 0} (d : A) (f : ℕ → A) (a : ℕ) (xs : List A) → ((i : ℕ) → i < length xs → f (a + i) ≡ get_or xs i d)
    → window f a (length xs) ≡ xs
window_is d f a [] each = refl
window_is d f a (x ∷ xs) each =
    let first : f a ≡ x = ap f (sym (add-zero a)) ∙ each 0 (omega arith) in
    let others : window f (a + 1) (length xs) ≡ xs =
    window_is d f (a + 1) xs (λ (i : ℕ) (inside : i < length xs). ap f (place_after a i) ∙ each (suc i) (omega arith)) in
    ap₂ (λ y ys. y ∷ ys) first others

-- what holds of a function's values at places holds of them all
pub window_passes : {A : Type 0} (test : A → Bool) (f : ℕ → A) (a n : ℕ) → ((i : ℕ) → i < n → test (f (a + i)) ≡ true)
    → list_all test (window f a n) ≡ true
window_passes test f a zero each = refl
window_passes test f a (suc n) each =
    let first : test (f a) ≡ true = ap (λ j. test (f j)) (sym (add-zero a)) ∙ each 0 (omega arith) in
    let others : list_all test (window f (a + 1) n) ≡ true =
    window_passes test f (a + 1) n (λ (i : ℕ) (inside : i < n). ap (λ j. test (f j)) (place_after a i) ∙ each (suc i) (omega arith)) in
    and_from (test (f a)) (list_all test (window f (a + 1) n)) first others
