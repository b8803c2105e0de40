-- The runs of true are the maximal ones, and have as many places as there are trues.
use Rattle.std.proofs.Common.{◌≡◌, ◌≢◌, ◌∙◌, ℕ, zero, suc, ◌+◌, ◌-◌, ◌≤◌, Bool, true, false, not, cond, List, [], ◌∷◌, length, refl, ap, sym, subst}
use Rattle.std.proofs.Common.{arith, zero-add, inl, inr, ◌⊎◌, ⊎_elim, ◌==◌, eq-eqb, if◌then◌else◌}
use Rattle.std.specs.Prelude.{Some, slice_get}
use Rattle.std.specs.List.{sum_by, count_by}
use Rattle.std.proofs.lemmas.List.Sums.{sum_by-cons}
use Rattle.std.proofs.lemmas.Bool.{ne_eqb, cases_eq, false≢true}
use Rattle.std.proofs.lemmas.Option.{same_Some, none-some}
use Rattle.columnar_memory_bitmap.specs.Runs.{joined, runs_at, runs_of, IsIn, BeginsFrom, AreApart, IsInSome, AreRuns}

later : (near far : ℕ) (runs : List (ℕ × ℕ)) → near ≤ far → BeginsFrom far runs → BeginsFrom near runs
later near far [] before begins = tt
later near far (run ∷ runs) before begins = omega arith

joined_begins : (place : ℕ) (runs : List (ℕ × ℕ)) → BeginsFrom place (joined place runs)
joined_begins place [] = omega arith
joined_begins place (run ∷ runs) = by (run.0 == place + 1)
  where
    by : (t : Bool) → BeginsFrom place (if t then (place, run.1 + 1) ∷ runs else (place, 1) ∷ run ∷ runs)
    by true = omega arith
    by false = omega arith

pub runs_begin : (place : ℕ) (bits : List Bool) → BeginsFrom place (runs_at place bits)
runs_begin place [] = tt
runs_begin place (false ∷ bits) = later place (place + 1) (runs_at (place + 1) bits) (omega arith) (runs_begin (place + 1) bits)
runs_begin place (true ∷ bits) = joined_begins place (runs_at (place + 1) bits)

-- the two forms that a joined place takes
pub joined_next : (place : ℕ) (run : ℕ × ℕ) (runs : List (ℕ × ℕ)) → run.0 ≡ place + 1 → joined place (run ∷ runs) ≡ (place, run.1 + 1) ∷ runs
joined_next place run runs next = ap (λ t. if t then (place, run.1 + 1) ∷ runs else (place, 1) ∷ run ∷ runs) (eq-eqb run.0 (place + 1) next)

pub joined_far : (place : ℕ) (run : ℕ × ℕ) (runs : List (ℕ × ℕ)) → run.0 ≢ place + 1 → joined place (run ∷ runs) ≡ (place, 1) ∷ run ∷ runs
joined_far place run runs far = ap (λ t. if t then (place, run.1 + 1) ∷ runs else (place, 1) ∷ run ∷ runs) (ne_eqb run.0 (place + 1) far)

joined_apart : (place : ℕ) (runs : List (ℕ × ℕ)) → BeginsFrom (place + 1) runs → AreApart runs → AreApart (joined place runs)
joined_apart place [] begins apart = (omega arith, tt, tt)
joined_apart place (run ∷ runs) begins apart =
    ⊎_elim (λ (next : run.0 ≡ place + 1).
    let end : run.0 + run.1 + 1 ≡ place + (run.1 + 1) + 1 = omega arith in
    let behind : BeginsFrom (place + (run.1 + 1) + 1) runs = subst (λ (k : ℕ). BeginsFrom k runs) end apart.1 in
    subst AreApart (sym (joined_next place run runs next)) (omega arith, behind, apart.2))
    (λ (far : run.0 ≢ place + 1).
    subst AreApart (sym (joined_far place run runs far)) (omega arith, omega arith, apart))
    (cases_eq run.0 (place + 1))

pub apart : (place : ℕ) (bits : List Bool) → AreApart (runs_at place bits)
apart place [] = tt
apart place (false ∷ bits) = apart (place + 1) bits
apart place (true ∷ bits) = joined_apart place (runs_at (place + 1) bits) (runs_begin (place + 1) bits) (apart (place + 1) bits)

-- what is in the runs with one more place
in_joined : (place k : ℕ) (runs : List (ℕ × ℕ)) → (k ≡ place) ⊎ IsInSome k runs → IsInSome k (joined place runs)
in_joined place k [] (inl here) = inl (omega arith, omega arith)
in_joined place k [] (inr there) = absurd there
in_joined place k (run ∷ runs) place_or_run =
    ⊎_elim (λ (next : run.0 ≡ place + 1).
    subst (IsInSome k) (sym (joined_next place run runs next))
    (⊎_elim {C = IsIn k (place, run.1 + 1) ⊎ IsInSome k runs} (λ (here : k ≡ place). inl (omega arith, omega arith))
    (λ (there : IsIn k run ⊎ IsInSome k runs). ⊎_elim (λ (first : IsIn k run). inl (omega arith, omega arith)) (λ rest. inr rest) there)
    place_or_run))
    (λ (far : run.0 ≢ place + 1).
    subst (IsInSome k) (sym (joined_far place run runs far))
    (⊎_elim (λ (here : k ≡ place). inl (omega arith, omega arith)) (λ there. inr there) place_or_run))
    (cases_eq run.0 (place + 1))

-- and nothing else is
in_joined_only : (place k : ℕ) (runs : List (ℕ × ℕ)) → IsInSome k (joined place runs) → (k ≡ place) ⊎ IsInSome k runs
in_joined_only place k [] (inl (low, high)) = inl (omega arith)
in_joined_only place k [] (inr there) = absurd there
in_joined_only place k (run ∷ runs) covered =
    ⊎_elim (λ (next : run.0 ≡ place + 1).
    ⊎_elim (λ (first : IsIn k (place, run.1 + 1)).
    ⊎_elim (λ (here : k ≡ place). inl here) (λ (behind : k ≢ place). inr (inl (omega arith, omega arith))) (cases_eq k place))
    (λ (rest : IsInSome k runs). inr (inr rest))
    (subst (IsInSome k) (joined_next place run runs next) covered))
    (λ (far : run.0 ≢ place + 1).
    ⊎_elim (λ (first : IsIn k (place, 1)). inl (omega arith)) (λ (rest : IsIn k run ⊎ IsInSome k runs). inr rest)
    (subst (IsInSome k) (joined_far place run runs far) covered))
    (cases_eq run.0 (place + 1))

-- each true is in a run
true_in_run : (place k : ℕ) (bits : List Bool) → slice_get bits k ≡ Some true → IsInSome (place + k) (runs_at place bits)
true_in_run place k [] is = absurd (none-some true is)
true_in_run place zero (false ∷ bits) is = absurd (false≢true (same_Some false true is))
true_in_run place zero (true ∷ bits) is = in_joined place (place + 0) (runs_at (place + 1) bits) (inl (omega arith))
true_in_run place (suc k) (false ∷ bits) is =
    let at : place + 1 + k ≡ place + suc k = omega arith in
    subst (λ (i : ℕ). IsInSome i (runs_at (place + 1) bits)) at (true_in_run (place + 1) k bits is)
true_in_run place (suc k) (true ∷ bits) is =
    let at : place + 1 + k ≡ place + suc k = omega arith in
    let there = subst (λ (i : ℕ). IsInSome i (runs_at (place + 1) bits)) at (true_in_run (place + 1) k bits is) in
    in_joined place (place + suc k) (runs_at (place + 1) bits) (inr there)

-- what is in runs that begin from a place is no earlier
not_before : (place k : ℕ) (runs : List (ℕ × ℕ)) → BeginsFrom place runs → AreApart runs → IsInSome k runs → place ≤ k
not_before place k [] begins apart covered = absurd covered
not_before place k (run ∷ runs) begins apart (inl (low, high)) = omega arith
not_before place k (run ∷ runs) begins apart (inr rest) = omega (arith, not_before (run.0 + run.1 + 1) k runs apart.1 apart.2 rest)

-- each place in a run is true
run_is_true : (place k : ℕ) (bits : List Bool) → IsInSome (place + k) (runs_at place bits) → slice_get bits k ≡ Some true
run_is_true place k [] covered = absurd covered
run_is_true place zero (false ∷ bits) covered =
    let runs = runs_at (place + 1) bits in
    absurd (omega (arith, not_before (place + 1) (place + 0) runs (runs_begin (place + 1) bits) (apart (place + 1) bits) covered))
run_is_true place zero (true ∷ bits) covered = refl
run_is_true place (suc k) (false ∷ bits) covered =
    let at : place + suc k ≡ place + 1 + k = omega arith in
    run_is_true (place + 1) k bits (subst (λ (i : ℕ). IsInSome i (runs_at (place + 1) bits)) at covered)
run_is_true place (suc k) (true ∷ bits) covered =
    let at : place + suc k ≡ place + 1 + k = omega arith in
    ⊎_elim (λ (here : place + suc k ≡ place). absurd (omega arith))
    (λ (there : IsInSome (place + suc k) (runs_at (place + 1) bits)).
    run_is_true (place + 1) k bits (subst (λ (i : ℕ). IsInSome i (runs_at (place + 1) bits)) at there))
    (in_joined_only place (place + suc k) (runs_at (place + 1) bits) covered)

true_covered : (bits : List Bool) (k : ℕ) → slice_get bits k ≡ Some true → IsInSome k (runs_of bits)
true_covered bits k is = subst (λ (i : ℕ). IsInSome i (runs_of bits)) (zero-add k) (true_in_run 0 k bits is)

covered_true : (bits : List Bool) (k : ℕ) → IsInSome k (runs_of bits) → slice_get bits k ≡ Some true
covered_true bits k covered = run_is_true 0 k bits (subst (λ (i : ℕ). IsInSome i (runs_of bits)) (sym (zero-add k)) covered)

pub are_runs : (bits : List Bool) → AreRuns bits (runs_of bits)
are_runs bits = record { apart = apart 0 bits; true_inside = true_covered bits; inside_true = covered_true bits }

-- a joined place is one more
sum_joined : (place : ℕ) (runs : List (ℕ × ℕ)) → sum_by (λ run. run.1) (joined place runs) ≡ 1 + sum_by (λ run. run.1) runs
sum_joined place [] = refl
sum_joined place (run ∷ runs) =
    ⊎_elim (λ (next : run.0 ≡ place + 1).
    ap (λ rs. sum_by (λ r. r.1) rs) (joined_next place run runs next) ∙ sum_by-cons (λ r. r.1) (place, run.1 + 1) runs
    ∙ omega (arith, sum_by-cons {X = ℕ × ℕ} (λ r. r.1) run runs))
    (λ (far : run.0 ≢ place + 1).
    ap (λ rs. sum_by (λ r. r.1) rs) (joined_far place run runs far) ∙ sum_by-cons (λ r. r.1) (place, 1) (run ∷ runs))
    (cases_eq run.0 (place + 1))

sum_runs : (place : ℕ) (bits : List Bool) → sum_by (λ run. run.1) (runs_at place bits) + count_by not bits ≡ length bits
sum_runs place [] = refl
sum_runs place (false ∷ bits) = omega (arith, sum_runs (place + 1) bits, sum_by-cons {X = Bool} (λ b. cond (not b) 1 0) false bits)
sum_runs place (true ∷ bits) =
    omega (arith, sum_runs (place + 1) bits, sum_by-cons {X = Bool} (λ b. cond (not b) 1 0) true bits, sum_joined place (runs_at (place + 1) bits))

pub slots_of_runs : (bits : List Bool) → length bits - count_by not bits ≡ sum_by (λ run. run.1) (runs_of bits)
slots_of_runs bits = omega (arith, sum_runs 0 bits)

pub ruleset run_laws = (are_runs, slots_of_runs)
