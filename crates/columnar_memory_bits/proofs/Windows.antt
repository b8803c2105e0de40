-- Lemmas on the values of a function at places one after another.
use Rattle.std.proofs.Common.{◌≡◌, ◌∙◌, refl, sym, ap, ap₂}
use Rattle.std.proofs.Common.{ℕ, zero, suc, ◌+◌, ◌-◌, ◌≤◌, ◌<◌, arith, add-zero, add-one, zero-add}
use Rattle.std.proofs.Common.{List, [], ◌∷◌, ◌++◌, length, map, take, drop, get_or, slice_get}
use Rattle.std.specs.Prelude.{Some}
use Rattle.columnar_memory_bits.specs.Windows.{window}

module _ {A : Type 0} where
  -- a window has as many values as it says
  pub length_window : (f : ℕ → A) (first n : ℕ) → length (window f first n) ≡ n
  length_window f first zero = refl
  length_window f first (suc n) = ap suc (length_window f (first + 1) n)

  -- one more place: the value there comes last
  pub window_more : (f : ℕ → A) (first n : ℕ) → window f first (suc n) ≡ window f first n ++ f (first + n) ∷ []
  window_more f first zero = rw add-zero refl
  window_more f first (suc n) =
      let place : first + 1 + n ≡ first + suc n = omega arith in
      ap (λ rest. f first ∷ rest) (window_more f (first + 1) n ∙ ap (λ k. window f (first + 1) n ++ f k ∷ []) place)

  -- the first place, and the last
  pub window_first : (f : ℕ → A) (first n more : ℕ) → n ≡ suc more → window f first n ≡ f first ∷ window f (first + 1) more
  window_first f first n more e = rw e refl

  pub window_last : (f : ℕ → A) (first n more last : ℕ) → n ≡ suc more → first + more ≡ last → window f first n ≡ window f first more ++ f last ∷ []
  window_last f first n more last e place = rw (e, ← place) (window_more f first more)

  pub window_none : (f : ℕ → A) (first n : ℕ) → n ≡ 0 → window f first n ≡ []
  window_none f first n e = rw e refl

  -- the same from place 0 on
  pub window_next : (f : ℕ → A) (i : ℕ) → window f 0 (i + 1) ≡ window f 0 i ++ f i ∷ []
  window_next f i = rw add-one (window_more f 0 i ∙ ap (λ k. window f 0 i ++ f k ∷ []) (zero-add i))

  -- two functions that have the same values at n places have the same window there
  pub window_same : (f g : ℕ → A) (first second n : ℕ) →
      ((i : ℕ) → i < n → f (first + i) ≡ g (second + i)) → window f first n ≡ window g second n
  window_same f g first second zero same = refl
  window_same f g first second (suc n) same =
      let here : f first ≡ g second = ap f (omega arith) ∙ same 0 (omega arith) ∙ ap g (omega arith) in
      let next = λ (i : ℕ) (h : i < n). ap f (omega arith) ∙ same (suc i) (omega arith) ∙ ap g (omega arith) in
      ap₂ (λ x xs. x ∷ xs) here (window_same f g (first + 1) (second + 1) n next)

  -- windows one behind the other are one window
  pub window_append : (f : ℕ → A) (first m n : ℕ) → window f first (m + n) ≡ window f first m ++ window f (first + m) n
  window_append f first zero n = ap₂ (window f) (omega arith) (zero-add n)
  window_append f first (suc m) n =
      let count : suc m + n ≡ suc (m + n) = omega arith in
      let place : first + 1 + m ≡ first + suc m = omega arith in
      ap (window f first) count ∙ ap (λ rest. f first ∷ rest) (window_append f (first + 1) m n
      ∙ ap (λ k. window f (first + 1) m ++ window f k n) place)

  -- a window without its first places is the window from there on
  pub drop_window : (f : ℕ → A) (first skipped left n : ℕ) → n ≡ skipped + left →
      drop skipped (window f first n) ≡ window f (first + skipped) left
  drop_window f first zero left n e = ap₂ (window f) (omega arith) (omega arith)
  drop_window f first (suc skipped) left zero e = absurd (omega arith)
  drop_window f first (suc skipped) left (suc n) e =
      drop_window f (first + 1) skipped left n (omega arith) ∙ ap (λ place. window f place left) (omega arith)

  -- the first places of a window are the window of so many
  pub take_window : (f : ℕ → A) (first taken n : ℕ) → taken ≤ n → take taken (window f first n) ≡ window f first taken
  take_window f first zero n h = refl
  take_window f first (suc taken) zero h = absurd (omega arith)
  take_window f first (suc taken) (suc n) h = ap (λ rest. f first ∷ rest) (take_window f (first + 1) taken n (omega arith))

  -- a part of a window is a window
  pub part_of_window : (f : ℕ → A) (first begin count n : ℕ) → begin + count ≤ n →
      take count (drop begin (window f first n)) ≡ window f (first + begin) count
  part_of_window f first begin count n h =
      ap (take count) (drop_window f first begin (n - begin) n (omega arith)) ∙ take_window f (first + begin) count (n - begin) (omega arith)

  -- what a window has at a place
  pub get_or_window : (f : ℕ → A) (first n i : ℕ) (d : A) → i < n → get_or (window f first n) i d ≡ f (first + i)
  get_or_window f first zero i d h = absurd (omega arith)
  get_or_window f first (suc n) zero d h = ap f (omega arith)
  get_or_window f first (suc n) (suc i) d h = get_or_window f (first + 1) n i d (omega arith) ∙ ap f (omega arith)

  pub slice_get_window : (f : ℕ → A) (first n i : ℕ) → i < n → slice_get (window f first n) i ≡ Some (f (first + i))
  slice_get_window f first zero i h = absurd (omega arith)
  slice_get_window f first (suc n) zero h = ap (λ place. Some (f place)) (omega arith)
  slice_get_window f first (suc n) (suc i) h = slice_get_window f (first + 1) n i (omega arith) ∙ ap (λ place. Some (f place)) (omega arith)

  -- a list is the window of its elements
  pub window_of_list : (xs : List A) (d : A) → window (λ i. get_or xs i d) 0 (length xs) ≡ xs
  window_of_list [] d = refl
  window_of_list (x ∷ xs) d =
      let all : ℕ → A = λ i. get_or (x ∷ xs) i d in
      let rest : ℕ → A = λ i. get_or xs i d in
      let next = λ (i : ℕ) (h : i < length xs). let place : 1 + i ≡ suc i = omega arith in let same : i ≡ 0 + i = omega arith in ap all place
      ∙ ap rest same in
      ap (λ others. x ∷ others) (window_same all rest 1 0 (length xs) next ∙ window_of_list xs d)

  -- a list that has a function's values at its places is their window
  pub window_is : (f : ℕ → A) (first : ℕ) (xs : List A) (d : A) → ((i : ℕ) → i < length xs → get_or xs i d ≡ f (first + i)) →
      xs ≡ window f first (length xs)
  window_is f first xs d same =
      let here : ℕ → A = λ i. get_or xs i d in
      let each = λ (i : ℕ) (h : i < length xs). let place : 0 + i ≡ i = omega arith in ap here place ∙ same i h in
      sym (window_of_list xs d) ∙ window_same here f 0 first (length xs) each

-- a function of each value of a window
pub map_window : {A B : Type 0} (g : A → B) (f : ℕ → A) (first n : ℕ) → map g (window f first n) ≡ window (λ i. g (f i)) first n
map_window g f first zero = refl
map_window g f first (suc n) = ap (λ rest. g (f first) ∷ rest) (map_window g f (first + 1) n)
