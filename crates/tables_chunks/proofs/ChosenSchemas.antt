-- The schema of chosen fields is written, and in its one form, where the whole schema is.
use Rattle.std.proofs.Common.{◌≡◌, ◌∙◌, ℕ, zero, suc, ◌+◌, ◌≤◌, max, Bool, true, false, not, ◌&&◌, List, [], ◌∷◌, length, map, sum}
use Rattle.std.proofs.Common.{refl, sym, ap, ap₂, subst, arith}
use Rattle.std.proofs.Math.ListN.{set}
use Rattle.std.specs.Prelude.{Option, Some, None, slice_get, option_map, sum_by, nat_eq, nat_le}
use Rattle.std.specs.List.{list_all, list_any, cons_option}
use Rattle.std.proofs.lemmas.Bool.{and_parts, and_from, or_parts, not-true, eqb-false, leb-true, le-leb}
use Rattle.std.proofs.lemmas.List.Sums.{sum_by-cons, sum-map}
use Rattle.ipc_format.specs.columnar_memory.declared.Field.{Field}
use Rattle.ipc_format.specs.columnar_memory.declared.Schema.{Schema}
use Rattle.ipc_format.specs.columns.Tables.{chosen}
use Rattle.ipc_format.specs.grammar.Limits.{most_levels, most_dictionaries}
use Rattle.ipc_format.specs.Writable.{Report, plain, deepest, over_all, report_of, reports_of, is_writable, normalised_field}
use Rattle.ipc_format.specs.Writable.{normalised}
use Rattle.tables_chunks.specs.Choices.{are_distinct, are_below}

-- ---- what a function gives of the chosen

slice_get-map : {A B : Type 0} (f : A → B) (xs : List A) (k : ℕ) → slice_get (map f xs) k ≡ option_map f (slice_get xs k)
slice_get-map f [] k = refl
slice_get-map f (x ∷ xs) zero = refl
slice_get-map f (x ∷ xs) (suc k) = slice_get-map f xs k

map-cons_option : {A B : Type 0} (f : A → B) (found : Option A) (xs : List A)
    → cons_option (option_map f found) (map f xs) ≡ map f (cons_option found xs)
map-cons_option f None xs = refl
map-cons_option f (Some x) xs = refl

-- what is chosen of what a function gives is what it gives of the chosen
pub chosen-map : {A B : Type 0} (f : A → B) (ks : List ℕ) (xs : List A) → chosen ks (map f xs) ≡ map f (chosen ks xs)
chosen-map f [] xs = refl
chosen-map f (k ∷ ks) xs =
    ap₂ cons_option (slice_get-map f xs k) (chosen-map f ks xs) ∙ map-cons_option f (slice_get xs k) (chosen ks xs)

-- ---- a sum over distinct places

-- a number at a place, and the others
one_taken : (ws : List ℕ) (k : ℕ) (xs : List ℕ) → sum (cons_option (slice_get ws k) xs) + sum (set ws k 0) ≡ sum xs + sum ws
one_taken [] k xs = refl
one_taken (w ∷ ws) zero xs = omega (arith, sum_by-cons (λ x. x) w xs, sum_by-cons (λ x. x) 0 ws, sum_by-cons (λ x. x) w ws)
one_taken (w ∷ ws) (suc k) xs = omega (arith, one_taken ws k xs, sum_by-cons (λ x. x) w (set ws k 0), sum_by-cons (λ x. x) w ws)

other_kept : (ws : List ℕ) (j k : ℕ) → (j ≡ k → ⊥) → slice_get (set ws k 0) j ≡ slice_get ws j
other_kept [] j k apart = refl
other_kept (w ∷ ws) zero zero apart = absurd (apart refl)
other_kept (w ∷ ws) zero (suc k) apart = refl
other_kept (w ∷ ws) (suc j) zero apart = refl
other_kept (w ∷ ws) (suc j) (suc k) apart = other_kept ws j k (λ e. apart (ap suc e))

others_kept : (ws : List ℕ) (k : ℕ) (ks : List ℕ) → list_any (λ other. nat_eq other k) ks ≡ false → chosen ks (set ws k 0) ≡ chosen ks ws
others_kept ws k [] apart = refl
others_kept ws k (j ∷ ks) apart =
    let parts = or_parts (nat_eq j k) (list_any (λ other. nat_eq other k) ks) apart in
    ap₂ cons_option (other_kept ws j k (eqb-false j k parts.0)) (others_kept ws k ks parts.1)

-- the numbers at distinct places come to at most all
chosen_sum : (ks ws : List ℕ) → are_distinct ks ≡ true → sum (chosen ks ws) ≤ sum ws
chosen_sum [] ws distinct = omega arith
chosen_sum (k ∷ ks) ws distinct =
    let parts = and_parts (not (list_any (λ other. nat_eq other k) ks)) (are_distinct ks) distinct in
    let kept = others_kept ws k ks (not-true (list_any (λ other. nat_eq other k) ks) parts.0) in
    omega (arith, one_taken ws k (chosen ks ws), ap sum kept, chosen_sum ks (set ws k 0) parts.1)

-- ---- what each of a list passes

found_pass : {A : Type 0} (test : A → Bool) (xs : List A) (k : ℕ) (others : List A) → list_all test xs ≡ true → list_all test others ≡ true
    → list_all test (cons_option (slice_get xs k) others) ≡ true
found_pass test [] k others all rest = rest
found_pass test (x ∷ xs) zero others all rest =
    and_from (test x) (list_all test others) (and_parts (test x) (list_all test xs) all).0 rest
found_pass test (x ∷ xs) (suc k) others all rest = found_pass test xs k others (and_parts (test x) (list_all test xs) all).1 rest

chosen_pass : {A : Type 0} (test : A → Bool) (ks : List ℕ) (xs : List A) → list_all test xs ≡ true → list_all test (chosen ks xs) ≡ true
chosen_pass test [] xs all = refl
chosen_pass test (k ∷ ks) xs all = found_pass test xs k (chosen ks xs) all (chosen_pass test ks xs all)

-- ---- reports

found_deep : (reports : List Report) (k : ℕ) (others : List Report)
    → deepest (cons_option (slice_get reports k) others) ≤ max (deepest reports) (deepest others)
found_deep [] k others = omega arith
found_deep (report ∷ reports) zero others = omega arith
found_deep (report ∷ reports) (suc k) others = omega (arith, found_deep reports k others)

chosen_deep : (ks : List ℕ) (reports : List Report) → deepest (chosen ks reports) ≤ deepest reports
chosen_deep [] reports = omega arith
chosen_deep (k ∷ ks) reports = omega (arith, found_deep reports k (chosen ks reports), chosen_deep ks reports)

-- how many dictionaries the types of some reports have
abbrev dictionaries_of : List Report → ℕ
dictionaries_of reports = sum_by (λ (report : Report). report.dictionaries) reports

chosen_dictionaries : (ks : List ℕ) (reports : List Report) → are_distinct ks ≡ true
    → dictionaries_of (chosen ks reports) ≤ dictionaries_of reports
chosen_dictionaries ks reports distinct =
    let count : Report → ℕ = λ report. report.dictionaries in
    let picked : sum (map count (chosen ks reports)) ≡ sum (chosen ks (map count reports)) = ap sum (sym (chosen-map count ks reports)) in
    omega (arith, picked, sum-map count (chosen ks reports), sum-map count reports, chosen_sum ks (map count reports) distinct)

-- what is asked of the fields of a schema that is written, by their reports
abbrev may_be_written : List Report → Bool
may_be_written reports = let all = over_all true plain reports in
    all.is_allowed && nat_le all.levels most_levels && nat_le all.dictionaries most_dictionaries

chosen_reports : (ks : List ℕ) (reports : List Report) → may_be_written reports ≡ true → are_distinct ks ≡ true
    → may_be_written (chosen ks reports) ≡ true
chosen_reports ks reports may distinct =
    let picked : List Report = chosen ks reports in
    let allowed : List Report → Bool = λ some. list_all (λ (report : Report). report.is_allowed) some in
    let parts = and_parts (allowed reports && nat_le (deepest reports) most_levels)
    (nat_le (dictionaries_of reports) most_dictionaries) may in
    let first = and_parts (allowed reports) (nat_le (deepest reports) most_levels) parts.0 in
    let deep = leb-true (deepest reports) most_levels first.1 in
    let many = leb-true (dictionaries_of reports) most_dictionaries parts.1 in
    and_from (allowed picked && nat_le (deepest picked) most_levels) (nat_le (dictionaries_of picked) most_dictionaries)
    (and_from (allowed picked) (nat_le (deepest picked) most_levels) (chosen_pass (λ (report : Report). report.is_allowed) ks reports first.0)
    (le-leb (deepest picked) most_levels (omega (arith, deep, chosen_deep ks reports))))
    (le-leb (dictionaries_of picked) most_dictionaries (omega (arith, many, chosen_dictionaries ks reports distinct)))

-- ---- schemas

-- The fields at distinct places of a schema that is written and in its one form make a schema that is written and in its one form.
pub chosen_schemas_are_written : (schema : Schema) (columns : List ℕ) → is_writable schema ≡ true → normalised schema ≡ schema
    → are_distinct columns ≡ true → are_below (length schema.fields) columns ≡ true
    → let picked = record schema { fields = chosen columns schema.fields } in (is_writable picked ≡ true) × (normalised picked ≡ picked)
unfolding is_writable normalised
chosen_schemas_are_written schema columns written normal distinct below =
    let reports : chosen columns (reports_of schema.fields) ≡ reports_of (chosen columns schema.fields) =
    chosen-map (λ (field : Field). report_of field.data_type) columns schema.fields in
    let fields : map normalised_field (chosen columns schema.fields) ≡ chosen columns schema.fields =
    sym (chosen-map normalised_field columns schema.fields) ∙ ap (λ (whole : Schema). chosen columns whole.fields) normal in (
      subst (λ some. may_be_written some ≡ true) reports (chosen_reports columns (reports_of schema.fields) written distinct),
      ap (λ some. record schema { fields = some }) fields,
    )
