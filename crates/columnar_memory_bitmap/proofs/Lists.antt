-- Windows of a function's values.
use Rattle.std.proofs.Common.{◌≡◌, ◌∙◌, ℕ, zero, suc, ◌+◌, ◌-◌, ◌≤◌, ◌<◌, Bool, not, cond, List, [], ◌∷◌, ◌++◌, length, take, drop, get_or, refl}
use Rattle.std.proofs.Common.{ap, ap₂, sym, arith, add-zero, zero-add}
use Rattle.std.specs.Prelude.{Some, None, slice_get, slice_range}
use Rattle.std.proofs.lemmas.List.{take_at, drop_at, drop_more, take_more, length-drop, length-take, get_or-drop}
use Rattle.std.proofs.lemmas.List.Sums.{sum_by-append, count_by-le-length}
use Rattle.std.proofs.lemmas.Option.{slice_get-get_or, slice_get_past, get_or_from_slice_get}
use Rattle.columnar_memory_bits.specs.Windows.{window}
use Rattle.columnar_memory_bits.specs.Bits.{unset_count}

pub length-window : {A : Type 0} (f : ℕ → A) (first n : ℕ) → length (window f first n) ≡ n
length-window f first zero = refl
length-window f first (suc n) = ap suc (length-window f (first + 1) n)

pub get_or-window : {A : Type 0} (f : ℕ → A) (first n k : ℕ) (d : A) → k < n → get_or (window f first n) k d ≡ f (first + k)
get_or-window f first zero k d inside = absurd (omega arith)
get_or-window f first (suc n) zero d inside = ap f (sym (add-zero first))
get_or-window f first (suc n) (suc k) d inside =
    let place : first + 1 + k ≡ first + suc k = omega arith in
    get_or-window f (first + 1) n k d (omega arith) ∙ ap f place

-- two windows of values that agree
pub window_same : {A : Type 0} (f g : ℕ → A) (a b n : ℕ) → ((k : ℕ) → k < n → f (a + k) ≡ g (b + k)) → window f a n ≡ window g b n
window_same f g a b zero same = refl
window_same {A} f g a b (suc n) same =
    let here : f a ≡ g b = ap f (sym (add-zero a)) ∙ same 0 (omega arith) ∙ ap g (add-zero b) in
    let later : (k : ℕ) → k < n → f (a + 1 + k) ≡ g (b + 1 + k) = λ (k : ℕ) (inside : k < n).
    let left : a + 1 + k ≡ a + suc k = omega arith in
    let right : b + suc k ≡ b + 1 + k = omega arith in
    ap f left ∙ same (suc k) (omega arith) ∙ ap g right in
    ap₂ (λ (x : A) xs. x ∷ xs) here (window_same f g (a + 1) (b + 1) n later)

-- two neighbouring windows
pub window-add : {A : Type 0} (f : ℕ → A) (first m n : ℕ) → window f first (m + n) ≡ window f first m ++ window f (first + m) n
window-add f first zero n = ap (λ k. window f first k) (zero-add n) ∙ ap (λ k. window f k n) (sym (add-zero first))
window-add f first (suc m) n =
    let count : suc m + n ≡ suc (m + n) = omega arith in
    let place : first + 1 + m ≡ first + suc m = omega arith in
    ap (λ k. window f first k) count ∙ ap (λ xs. f first ∷ xs) (window-add f (first + 1) m n ∙ ap (λ k. window f (first + 1) m ++ window f k n) place)

pub take-window : {A : Type 0} (f : ℕ → A) (first n k : ℕ) → k ≤ n → take k (window f first n) ≡ window f first k
take-window f first n k within =
    let count : n ≡ k + (n - k) = omega arith in
    ap (λ j. take k (window f first j)) count ∙ ap (λ xs. take k xs) (window-add f first k (n - k))
    ∙ take_at (window f first k) (window f (first + k) (n - k)) k (length-window f first k)

pub drop-window : {A : Type 0} (f : ℕ → A) (first n k : ℕ) → k ≤ n → drop k (window f first n) ≡ window f (first + k) (n - k)
drop-window f first n k within =
    let count : n ≡ k + (n - k) = omega arith in
    ap (λ j. drop k (window f first j)) count ∙ ap (λ xs. drop k xs) (window-add f first k (n - k))
    ∙ drop_at (window f first k) (window f (first + k) (n - k)) k (length-window f first k)

pub slice_range-window : {A : Type 0} (f : ℕ → A) (first n i count : ℕ) → i + count ≤ n →
    slice_range (window f first n) i (i + count) ≡ window f (first + i) count
slice_range-window f first n i count within =
    let width : i + count - i ≡ count = omega arith in
    ap (λ k. take k (drop i (window f first n))) width ∙ ap (λ xs. take count xs) (drop-window f first n i (omega arith))
    ∙ take-window f (first + i) (n - i) count (omega arith)

pub slice_get-window : {A : Type 0} (f : ℕ → A) (first n k : ℕ) → k < n → slice_get (window f first n) k ≡ Some (f (first + k))
slice_get-window f first n k inside =
    let inside_list : k < length (window f first n) = rw length-window inside in
    slice_get-get_or (window f first n) k (f first) inside_list ∙ ap Some (get_or-window f first n k (f first) inside)

pub slice_get-window_past : {A : Type 0} (f : ℕ → A) (first n k : ℕ) → n ≤ k → slice_get (window f first n) k ≡ None
slice_get-window_past f first n k past = slice_get_past (window f first n) k (rw length-window past)

pub window_next : {A : Type 0} (f : ℕ → A) (first n : ℕ) → window f first (n + 1) ≡ window f first n ++ f (first + n) ∷ []
window_next f first n = window-add f first n 1

-- the falses of a window's parts
pub unset_count-window-add : (f : ℕ → Bool) (first m n : ℕ) →
    unset_count (window f first (m + n)) ≡ unset_count (window f first m) + unset_count (window f (first + m) n)
unset_count-window-add f first m n =
    ap unset_count (window-add f first m n) ∙ sum_by-append (λ b. cond (not b) 1 0) (window f first m) (window f (first + m) n)

pub unset_count-window-le : (f : ℕ → Bool) (first n : ℕ) → unset_count (window f first n) ≤ n
unset_count-window-le f first n = omega (arith, count_by-le-length not (window f first n), length-window f first n)

-- a range without its first element, and without its last
pub range_first : (xs : List Bool) (from end : ℕ) (x : Bool) → from < end → end ≤ length xs → slice_get xs from ≡ Some x →
    slice_range xs from end ≡ x ∷ slice_range xs (from + 1) end
range_first xs from end x some within is =
    let width : end - from ≡ suc (end - (from + 1)) = omega arith in
    ap (λ n. take n (drop from xs)) width ∙ ap (λ ys. take (suc (end - (from + 1))) ys) (drop_more xs from x (omega arith))
    ∙ ap (λ y. y ∷ slice_range xs (from + 1) end) (get_or_from_slice_get xs from x x is)

pub range_last : (xs : List Bool) (from end : ℕ) (x : Bool) → from < end → end ≤ length xs → slice_get xs (end - 1) ≡ Some x →
    slice_range xs from end ≡ slice_range xs from (end - 1) ++ x ∷ []
range_last xs from end x some within is =
    let count : ℕ = end - 1 - from in
    let width : end - from ≡ count + 1 = omega arith in
    let place : from + count ≡ end - 1 = omega arith in
    let inside : count < length (drop from xs) = omega (arith, length-drop from xs) in
    ap (λ n. take n (drop from xs)) width ∙ take_more (drop from xs) count x inside
    ∙ ap (λ y. take count (drop from xs) ++ y ∷ [])
    (get_or-drop from xs count x ∙ ap (λ k. get_or xs k x) place ∙ get_or_from_slice_get xs (end - 1) x x is)

pub ruleset windows = (length-window, slice_range-window, slice_get-window, slice_get-window_past)

-- the falses of a window of a window, by those around it
pub unset_count-middle : (f : ℕ → Bool) (first n a b : ℕ) → a + b ≤ n →
    unset_count (window f first n)
    ≡ unset_count (window f first a) + unset_count (window f (first + a) b) + unset_count (window f (first + (a + b)) (n - (a + b)))
unset_count-middle f first n a b within =
    let count : n ≡ a + b + (n - (a + b)) = omega arith in
    ap (λ k. unset_count (window f first k)) count ∙ unset_count-window-add f first (a + b) (n - (a + b))
    ∙ ap (λ k. k + unset_count (window f (first + (a + b)) (n - (a + b)))) (unset_count-window-add f first a b)

pub ruleset parts = (length-window, slice_range-window, unset_count-middle)

-- how many elements a range has
pub length-slice_range : (xs : List Bool) (from end : ℕ) → end ≤ length xs → length (slice_range xs from end) ≡ end - from
length-slice_range xs from end within =
    omega (arith, length-take (end - from) (drop from xs), length-drop from xs)

pub ruleset ranges = (length-slice_range)
