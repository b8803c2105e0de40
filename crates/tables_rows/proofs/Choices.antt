-- What is chosen of lists, one place after another.
use Rattle.std.proofs.Common.{◌≡◌, ◌∙◌, ℕ, zero, suc, Bool, true, false, ◌&&◌, nat_eq, nat_lt, List, [], ◌∷◌, length, refl, sym, ap, inl, inr}
use Rattle.std.specs.Prelude.{Option, Some, None, slice_get}
use Rattle.std.specs.List.{list_all, list_any, cons_option}
use Rattle.std.proofs.lemmas.Bool.{and_parts, and_from, eqb-true, ltb-true, or_cases}
use Rattle.tables_chunks.specs.Choices.{are_below}
use Rattle.tables_chunks.specs.ipc_format.BatchReads.{rise_below}
use Rattle.tables_chunks.specs.ipc_format.Reading.{◌>>=◌}
use Rattle.tables_chunks.specs.ipc_format.columns.Tables.{chosen}
use Rattle.tables_chunks.proofs.Lists.{found_at, list_all-found}
use Rattle.tables_chunks.proofs.ipc_format_lemmas.Binding.{came_of, same_some}

-- what a function gives of numbers, where it gives something of each
abbrev pub each : {A : Type 0} → (ℕ → Option A) → List ℕ → Option (List A)
each f [] = Some []
each f (k ∷ ks) = f k >>= (λ x. each f ks >>= (λ xs. Some (x ∷ xs)))

-- what it gives of the first, and of the others
each_parts : {A : Type 0} (f : ℕ → Option A) (k : ℕ) (ks : List ℕ) (xs : List A) → each f (k ∷ ks) ≡ Some xs
    → (x : A) × (ys : List A) × (f k ≡ Some x) × (each f ks ≡ Some ys) × (x ∷ ys ≡ xs)
each_parts {A} f k ks xs e =
    let a = came_of {A = A} (f k) (λ x. each f ks >>= (λ ys. Some (x ∷ ys))) xs e in
    let b = came_of {A = List A} (each f ks) (λ ys. Some (a.0 ∷ ys)) xs a.2 in
    (a.0, b.0, a.1, b.1, same_some (a.0 ∷ b.0) xs b.2)

each_more : {A : Type 0} (f : ℕ → Option A) (k : ℕ) (ks : List ℕ) (x : A) (ys : List A) → f k ≡ Some x → each f ks ≡ Some ys
    → each f (k ∷ ks) ≡ Some (x ∷ ys)
each_more f k ks x ys here others = rw (here, others) refl

pub each_length : {A : Type 0} (f : ℕ → Option A) (ks : List ℕ) (xs : List A) → each f ks ≡ Some xs → length xs ≡ length ks
each_length f [] xs e = ap length (sym (same_some [] xs e))
each_length f (k ∷ ks) xs e =
    let parts = each_parts f k ks xs e in
    ap length (sym parts.4) ∙ ap suc (each_length f ks parts.1 parts.3)

each_at : {A : Type 0} (f : ℕ → Option A) (ks : List ℕ) (xs : List A) (place k : ℕ) → each f ks ≡ Some xs → slice_get ks place ≡ Some k
    → (x : A) × (slice_get xs place ≡ Some x) × (f k ≡ Some x)
each_at f [] xs place k e there = absurd cc
each_at f (first ∷ ks) xs zero k e there =
    let parts = each_parts f first ks xs e in
    (parts.0, ap (λ ys. slice_get ys 0) (sym parts.4), ap f (sym (same_some first k there)) ∙ parts.2)
each_at f (first ∷ ks) xs (suc place) k e there =
    let parts = each_parts f first ks xs e in
    let below = each_at f ks parts.1 place k parts.3 there in
    (below.0, ap (λ ys. slice_get ys (suc place)) (sym parts.4) ∙ below.1, below.2)

-- what it gives of the numbers at some places is what stands at these places of what it gives
pub each_chosen : {A : Type 0} (f : ℕ → Option A) (ks : List ℕ) (xs : List A) (places : List ℕ) → each f ks ≡ Some xs
    → are_below (length ks) places ≡ true → each f (chosen places ks) ≡ Some (chosen places xs)
each_chosen f ks xs [] e below = refl
each_chosen f ks xs (place ∷ places) e below =
    let parts = and_parts (nat_lt place (length ks)) (are_below (length ks) places) below in
    let key = found_at ks place (ltb-true place (length ks) parts.0) in
    let at = each_at f ks xs place key.0 e key.1 in
    ap (λ (option : Option ℕ). each f (cons_option option (chosen places ks))) key.1
    ∙ each_more f key.0 (chosen places ks) at.0 (chosen places xs) at.2 (each_chosen f ks xs places e parts.1)
    ∙ ap (λ (option : Option _). Some (cons_option option (chosen places xs))) (sym at.1)

-- ---- tests of what it gives

-- there is something, and it passes a test
abbrev pub passes : {A : Type 0} → (A → Bool) → Option A → Bool
passes test None = false
passes test (Some x) = test x

there : {A : Type 0} (test : A → Bool) (found : Option A) → passes test found ≡ true → (x : A) × (found ≡ Some x) × (test x ≡ true)
there test None is = absurd cc
there test (Some x) is = (x, refl, is)

pub each_pass : {A : Type 0} (f : ℕ → Option A) (test : A → Bool) (ks : List ℕ) (xs : List A) → each f ks ≡ Some xs → list_all test xs ≡ true
    → list_all (λ k. passes test (f k)) ks ≡ true
each_pass f test [] xs e all = refl
each_pass f test (k ∷ ks) xs e all =
    let parts = each_parts f k ks xs e in
    let both = and_parts (test parts.0) (list_all test parts.1) (ap (list_all test) parts.4 ∙ all) in
    and_from (passes test (f k)) (list_all (λ k. passes test (f k)) ks) (ap (passes test) parts.2 ∙ both.0)
    (each_pass f test ks parts.1 parts.3 both.1)

pub each_from : {A : Type 0} (f : ℕ → Option A) (test : A → Bool) (ks : List ℕ) → list_all (λ k. passes test (f k)) ks ≡ true
    → (xs : List A) × (each f ks ≡ Some xs) × (list_all test xs ≡ true)
each_from f test [] all = ([], refl, refl)
each_from f test (k ∷ ks) all =
    let parts = and_parts (passes test (f k)) (list_all (λ k. passes test (f k)) ks) all in
    let first = there test (f k) parts.0 in
    let rest = each_from f test ks parts.1 in
    (first.0 ∷ rest.0, each_more f k ks first.0 rest.0 first.1 rest.1, and_from (test first.0) (list_all test rest.0) first.2 rest.2)

-- ---- tests of each number

pub chosen_pass : {A : Type 0} (test : A → Bool) (xs : List A) (ks : List ℕ) → list_all test xs ≡ true → list_all test (chosen ks xs) ≡ true
chosen_pass test xs [] all = refl
chosen_pass {A} test xs (k ∷ ks) all = by_place (slice_get xs k) refl (chosen_pass test xs ks all)
  where
    by_place : (found : Option A) → slice_get xs k ≡ found → list_all test (chosen ks xs) ≡ true
        → list_all test (cons_option found (chosen ks xs)) ≡ true
    by_place None is others = others
    by_place (Some x) is others = and_from (test x) (list_all test (chosen ks xs)) (list_all-found test xs k x all is) others

one_wanted : (test : ℕ → Bool) (asked : List ℕ) (k : ℕ) → list_any (λ other. nat_eq other k) asked ≡ true → list_all test asked ≡ true
    → test k ≡ true
one_wanted test [] k is all = absurd cc
one_wanted test (other ∷ asked) k is all =
    let parts = and_parts (test other) (list_all test asked) all in
    elim (or_cases (nat_eq other k) (list_any (λ other. nat_eq other k) asked) is) [
      | inl same ↦ ap test (sym (eqb-true other k same)) ∙ parts.0
      | inr later ↦ one_wanted test asked k later parts.1
    ]

-- where each of some numbers is one of those that are asked for, a test that all of these pass is passed by all of them
pub wanted_pass : (test : ℕ → Bool) (asked ks : List ℕ) → list_all (λ k. list_any (λ other. nat_eq other k) asked) ks ≡ true
    → list_all test asked ≡ true → list_all test ks ≡ true
wanted_pass test asked [] wanted all = refl
wanted_pass test asked (k ∷ ks) wanted all =
    let parts = and_parts (list_any (λ other. nat_eq other k) asked) (list_all (λ k. list_any (λ other. nat_eq other k) asked) ks) wanted in
    and_from (test k) (list_all test ks) (one_wanted test asked k parts.0 all) (wanted_pass test asked ks parts.1 all)

-- numbers that rise below a width are below it
pub risen_below : (width : ℕ) (ks : List ℕ) → rise_below width ks ≡ true → are_below width ks ≡ true
risen_below width [] rise = refl
risen_below width (k ∷ ks) rise =
    let both = and_parts (nat_lt k width && list_all (λ other. nat_lt k other) ks) (rise_below width ks) rise in
    let first = and_parts (nat_lt k width) (list_all (λ other. nat_lt k other) ks) both.0 in
    and_from (nat_lt k width) (are_below width ks) first.0 (risen_below width ks both.1)

-- ---- a choice of a choice

pub each_found : {A : Type 0} (xs : List A) (ks : List ℕ) → are_below (length xs) ks ≡ true → each (slice_get xs) ks ≡ Some (chosen ks xs)
each_found xs [] below = refl
each_found xs (k ∷ ks) below =
    let parts = and_parts (nat_lt k (length xs)) (are_below (length xs) ks) below in
    let at = found_at xs k (ltb-true k (length xs) parts.0) in
    each_more (slice_get xs) k ks at.0 (chosen ks xs) at.1 (each_found xs ks parts.1)
    ∙ ap (λ (option : Option _). Some (cons_option option (chosen ks xs))) (sym at.1)

pub chosen_chosen : {A : Type 0} (xs : List A) (ks places : List ℕ) → are_below (length xs) ks ≡ true → are_below (length ks) places ≡ true
    → chosen (chosen places ks) xs ≡ chosen places (chosen ks xs)
chosen_chosen xs ks places below inside =
    same_some (chosen (chosen places ks) xs) (chosen places (chosen ks xs))
    (sym (each_found xs (chosen places ks) (chosen_pass (λ k. nat_lt k (length xs)) ks places below))
    ∙ each_chosen (slice_get xs) ks (chosen ks xs) places (each_found xs ks below) inside)

pub chosen_length : {A : Type 0} (xs : List A) (ks : List ℕ) → are_below (length xs) ks ≡ true → length (chosen ks xs) ≡ length ks
chosen_length xs ks below = each_length (slice_get xs) ks (chosen ks xs) (each_found xs ks below)
