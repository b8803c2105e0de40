-- Runs of true in windows.
use Rattle.std.proofs.Common.{◌≡◌, ◌∙◌, ℕ, zero, suc, ◌+◌, ◌-◌, ◌≤◌, ◌<◌, Bool, true, false, List, [], ◌∷◌, length, drop, get_or, refl, ap, ap₂}
use Rattle.std.proofs.Common.{sym, arith, add-zero, zero-add}
use Rattle.std.proofs.lemmas.Bool.{false≢true}
use Rattle.std.specs.Prelude.{Some, slice_get}
use Rattle.std.proofs.lemmas.List.{length-drop, get_or-drop, get_or_default, same_lists}
use Rattle.std.proofs.lemmas.Option.{get_or_from_slice_get, same_Some}
use Rattle.columnar_memory_bitmap.proofs.Lists.{length-window, get_or-window}
use Rattle.columnar_memory_bits.specs.Windows.{window}
use Rattle.columnar_memory_bitmap.specs.Runs.{joined, runs_at, BeginsFrom, Passes}
use Rattle.columnar_memory_bitmap.proofs.RunLaws.{joined_next, joined_far, runs_begin}

-- a place before runs that begin further on
joined_apart : (place : ℕ) (runs : List (ℕ × ℕ)) → BeginsFrom (place + 2) runs → joined place runs ≡ (place, 1) ∷ runs
joined_apart place [] apart = refl
joined_apart place (run ∷ runs) apart = joined_far place run runs (omega arith)

-- falses in front have no run
pub runs_at-falses : (f : ℕ → Bool) (place a m n : ℕ) → ((k : ℕ) → k < m → f (a + k) ≡ false) →
    runs_at place (window f a (m + n)) ≡ runs_at (place + m) (window f (a + m) n)
runs_at-falses f place a zero n falses =
    ap (λ k. runs_at place (window f a k)) (zero-add n) ∙ ap₂ (λ p k. runs_at p (window f k n)) (sym (add-zero place)) (sym (add-zero a))
runs_at-falses f place a (suc m) n falses =
    let count : suc m + n ≡ suc (m + n) = omega arith in
    let here : f a ≡ false = ap f (sym (add-zero a)) ∙ falses 0 (omega arith) in
    let later : (k : ℕ) → k < m → f (a + 1 + k) ≡ false = λ (k : ℕ) (inside : k < m).
    let place : a + 1 + k ≡ a + suc k = omega arith in
    ap f place ∙ falses (suc k) (omega arith) in
    let from : place + 1 + m ≡ place + suc m = omega arith in
    let at : a + 1 + m ≡ a + suc m = omega arith in
    ap (λ k. runs_at place (window f a k)) count ∙ ap (λ b. runs_at place (b ∷ window f (a + 1) (m + n))) here
    ∙ runs_at-falses f (place + 1) (a + 1) m n later ∙ ap₂ (λ p k. runs_at p (window f k n)) from at

-- behind a run nothing, or a false
first_apart : (f : ℕ → Bool) (place a n : ℕ) → (0 < n → f a ≡ false) → BeginsFrom (place + 1) (runs_at place (window f a n))
first_apart f place a zero ends = tt
first_apart f place a (suc n) ends =
    let at_false : runs_at place (window f a (suc n)) ≡ runs_at (place + 1) (window f (a + 1) n) =
    ap (λ b. runs_at place (b ∷ window f (a + 1) n)) (ends (omega arith)) in
    rw at_false (runs_begin (place + 1) (window f (a + 1) n))

-- trues in front are a run, up to the first false
pub runs_at-trues : (f : ℕ → Bool) (place a m n : ℕ) → ((k : ℕ) → k < suc m → f (a + k) ≡ true) → (0 < n → f (a + suc m) ≡ false) →
    runs_at place (window f a (suc m + n)) ≡ (place, suc m) ∷ runs_at (place + suc m) (window f (a + suc m) n)
runs_at-trues f place a zero n trues ends =
    let count : suc zero + n ≡ suc n = omega arith in
    let here : f a ≡ true = ap f (sym (add-zero a)) ∙ trues 0 (omega arith) in
    let two : place + 1 + 1 ≡ place + 2 = omega arith in
    let apart : BeginsFrom (place + 1 + 1) (runs_at (place + 1) (window f (a + 1) n)) = first_apart f (place + 1) (a + 1) n ends in
    ap (λ k. runs_at place (window f a k)) count ∙ ap (λ b. runs_at place (b ∷ window f (a + 1) n)) here
    ∙ joined_apart place (runs_at (place + 1) (window f (a + 1) n)) (rw two at apart)
runs_at-trues f place a (suc m) n trues ends =
    let count : suc (suc m) + n ≡ suc (suc m + n) = omega arith in
    let here : f a ≡ true = ap f (sym (add-zero a)) ∙ trues 0 (omega arith) in
    let at : a + 1 + suc m ≡ a + suc (suc m) = omega arith in
    let from : place + 1 + suc m ≡ place + suc (suc m) = omega arith in
    let more : suc m + 1 ≡ suc (suc m) = omega arith in
    let later : (k : ℕ) → k < suc m → f (a + 1 + k) ≡ true = λ (k : ℕ) (inside : k < suc m).
    let place : a + 1 + k ≡ a + suc k = omega arith in
    ap f place ∙ trues (suc k) (omega arith) in
    let rest = runs_at (place + 1 + suc m) (window f (a + 1 + suc m) n) in
    ap (λ k. runs_at place (window f a k)) count ∙ ap (λ b. runs_at place (b ∷ window f (a + 1) (suc m + n))) here
    ∙ ap (λ runs. joined place runs) (runs_at-trues f (place + 1) (a + 1) m n later (λ (some : 0 < n). ap f at ∙ ends some))
    ∙ joined_next place (place + 1, suc m) rest refl
    ∙ ap₂ (λ (k : ℕ) (runs : List (ℕ × ℕ)). (place, k) ∷ runs) more (ap₂ (λ p k. runs_at p (window f k n)) from at)

-- a list from a place on, as a window
list_window : (bits : List Bool) (from : ℕ) → drop from bits ≡ window (λ k. get_or bits k false) from (length bits - from)
list_window bits from =
    let read : ℕ → Bool = λ (k : ℕ). get_or bits k false in
    let long : length (drop from bits) ≡ length (window read from (length bits - from)) =
    length-drop from bits ∙ sym (length-window read from (length bits - from)) in
    same_lists (drop from bits) (window read from (length bits - from)) long (λ (k : ℕ) (d : Bool) (inside : k < length (drop from bits)).
    let below : k < length bits - from = omega (arith, length-drop from bits) in
    get_or-drop from bits k d ∙ get_or_default bits (from + k) d false (omega arith)
    ∙ sym (get_or-window read from (length bits - from) k d below))

read_at : (bits : List Bool) (k : ℕ) (b : Bool) → slice_get bits k ≡ Some b → get_or bits k false ≡ b
read_at bits k b is = get_or_from_slice_get bits k b false is

-- falses up to the end
pub no_run : (bits : List Bool) (place end : ℕ) → Passes bits false place end → end ≡ length bits → runs_at place (drop place bits) ≡ []
no_run bits place end falses all =
    let count : ℕ = end - place in
    let width : length bits - place ≡ count + 0 = omega (arith, falses.forward) in
    ap (λ xs. runs_at place xs) (list_window bits place) ∙ ap (λ n. runs_at place (window (λ k. get_or bits k false) place n)) width
    ∙ runs_at-falses (λ k. get_or bits k false) place place count 0
    (λ (k : ℕ) (inside : k < count). read_at bits (place + k) false (falses.same k (omega arith)))

-- nothing behind the end
pub no_run_behind : (bits : List Bool) (place : ℕ) → place ≡ length bits → runs_at place (drop place bits) ≡ []
no_run_behind bits place all =
    no_run bits place place
    (record {
      forward = omega arith;
      same = λ (k : ℕ) (inside : place + k < place). absurd (omega arith);
      ends = λ (inside : place < length bits). absurd (omega arith);
    }) all

-- falses, and then trues up to the end or a false
next_counted : (bits : List Bool) (place count run : ℕ) → place + count + run ≤ length bits →
    ((k : ℕ) → k < count → slice_get bits (place + k) ≡ Some false) → 0 < run →
    ((k : ℕ) → k < run → slice_get bits (place + count + k) ≡ Some true) →
    (place + count + run < length bits → slice_get bits (place + count + run) ≡ Some false) →
    runs_at place (drop place bits) ≡ (place + count, run) ∷ runs_at (place + count + run) (drop (place + count + run) bits)
next_counted bits place count zero within falses some trues ends = absurd (omega arith)
next_counted bits place count (suc run) within falses some trues ends =
    let read : ℕ → Bool = λ (k : ℕ). get_or bits k false in
    let rest : ℕ = length bits - (place + count + suc run) in
    let width : length bits - place ≡ count + (suc run + rest) = omega arith in
    ap (λ xs. runs_at place xs) (list_window bits place) ∙ ap (λ n. runs_at place (window read place n)) width
    ∙ runs_at-falses read place place count (suc run + rest)
    (λ (k : ℕ) (inside : k < count). read_at bits (place + k) false (falses k inside))
    ∙ runs_at-trues read (place + count) (place + count) run rest
    (λ (k : ℕ) (inside : k < suc run). read_at bits (place + count + k) true (trues k inside))
    (λ (more : 0 < rest). read_at bits (place + count + suc run) false (ends (omega arith)))
    ∙ ap (λ xs. (place + count, suc run) ∷ runs_at (place + count + suc run) xs) (sym (list_window bits (place + count + suc run)))

-- a run that begins with a true has one
run_is_some : (bits : List Bool) (first run : ℕ) → first < length bits → slice_get bits first ≡ Some true →
    (first + run < length bits → slice_get bits (first + run) ≡ Some false) → 0 < run
run_is_some bits first zero inside begins ends =
    let here : slice_get bits first ≡ Some false = ap (λ k. slice_get bits k) (sym (add-zero first)) ∙ ends (omega arith) in
    absurd (false≢true (same_Some false true (sym here ∙ begins)))
run_is_some bits first (suc run) inside begins ends = omega arith

-- a run between its first place and the place behind it
pub next_run : (bits : List Bool) (place begin end : ℕ) → Passes bits false place begin → Passes bits true begin end → begin < length bits →
    end ≤ length bits → runs_at place (drop place bits) ≡ (begin, end - begin) ∷ runs_at end (drop end bits)
next_run bits place begin end falses trues inside within =
    let count : ℕ = begin - place in
    let run : ℕ = end - begin in
    let first : place + count ≡ begin = omega (arith, falses.forward) in
    let last : place + count + run ≡ end = omega (arith, falses.forward, trues.forward) in
    let behind : begin + run ≡ end = omega (arith, trues.forward) in
    let some : 0 < run = run_is_some bits begin run inside (falses.ends inside)
    (λ (more : begin + run < length bits). ap (λ k. slice_get bits k) behind ∙ trues.ends (omega arith)) in
    next_counted bits place count run (omega arith) (λ (k : ℕ) (near : k < count). falses.same k (omega arith)) some
    (λ (k : ℕ) (near : k < run). ap (λ b. slice_get bits (b + k)) first ∙ trues.same k (omega arith))
    (λ (more : place + count + run < length bits). ap (λ k. slice_get bits k) last ∙ trues.ends (omega arith))
    ∙ ap₂ (λ (b e : ℕ). (b, run) ∷ runs_at e (drop e bits)) first last
