-- Columns are chosen one by one.
use Rattle.std.proofs.Common.{◌≡◌, ◌∙◌, ℕ, zero, suc, ◌+◌, ◌≤◌, ◌<◌, true, List, [], ◌∷◌, ◌++◌, length, take, get_or, refl, sym, ap, arith}
use Rattle.std.proofs.Common.{nat_lt, ◌&&◌, ◌==◌}
use Rattle.std.specs.Prelude.{Option, Some, None, slice_get}
use Rattle.std.specs.List.{list_all, cons_option}
use Rattle.std.proofs.lemmas.Bool.{and_parts, and_from, ltb-true, eq-eqb}
use Rattle.std.proofs.lemmas.List.{take_all, take_more}
use Rattle.ipc_format.specs.columns.StoredColumns.{Column}
use Rattle.ipc_format.specs.columns.Tables.{chosen}
use Rattle.tables_chunks.specs.Batches.{AreBatches, is_batch}
use Rattle.tables_chunks.proofs.ChosenBatches.{choices_have_columns}
use Rattle.tables_chunks.proofs.CutBatches.{are_parts}
use Rattle.tables_chunks.specs.Choices.{are_below}

append_option : {A : Type 0} (found : Option A) (xs ys : List A) → cons_option found (xs ++ ys) ≡ cons_option found xs ++ ys
append_option None xs ys = refl
append_option (Some x) xs ys = refl

chosen-append : {A : Type 0} (xs : List A) (ks js : List ℕ) → chosen (ks ++ js) xs ≡ chosen ks xs ++ chosen js xs
chosen-append xs [] js = refl
chosen-append xs (k ∷ ks) js =
    ap (cons_option (slice_get xs k)) (chosen-append xs ks js) ∙ append_option (slice_get xs k) (chosen ks xs) (chosen js xs)

found : {A : Type 0} (xs : List A) (k : ℕ) (x : A) → k < length xs → x ≡ get_or xs k x → slice_get xs k ≡ Some x
found [] k x inside is = absurd (omega arith)
found (first ∷ xs) zero x inside is = ap Some (sym is)
found (first ∷ xs) (suc k) x inside is = found xs k x (omega arith) is

-- one place more has what stands there more
pub chosen_more : {A : Type 0} (xs : List A) (ks : List ℕ) (i : ℕ) (x : A) → i < length ks → get_or ks i 0 < length xs
    → x ≡ get_or xs (get_or ks i 0) x → chosen (take (i + 1) ks) xs ≡ chosen (take i ks) xs ++ x ∷ []
chosen_more xs ks i x inside below is =
    let k : ℕ = get_or ks i 0 in
    ap (λ (js : List ℕ). chosen js xs) (take_more ks i 0 inside)
    ∙ chosen-append xs (take i ks) (k ∷ [])
    ∙ ap (λ (option : Option _). chosen (take i ks) xs ++ cons_option option []) (found xs k x below is)

-- each place is below the width
pub below_at : (width : ℕ) (ks : List ℕ) (i : ℕ) → are_below width ks ≡ true → i < length ks → get_or ks i 0 < width
below_at width [] i below inside = absurd (omega arith)
below_at width (first ∷ ks) zero below inside = ltb-true first width (and_parts (nat_lt first width) (are_below width ks) below).0
below_at width (first ∷ ks) (suc i) below inside =
    below_at width ks i (and_parts (nat_lt first width) (are_below width ks) below).1 (omega arith)

-- places below a width are below the number of columns of each batch of that width
pub below_each : (width : ℕ) (ks : List ℕ) (batches : List (List Column)) → are_below width ks ≡ true → AreBatches width batches
    → list_all (λ (batch : List Column). are_below (length batch) ks) batches ≡ true
below_each width ks [] below are = refl
below_each width ks (batch ∷ batches) below are =
    let parts = are_parts width batch batches are in
    and_from (are_below (length batch) ks) (list_all (λ (batch : List Column). are_below (length batch) ks) batches)
    (ap (λ (n : ℕ). are_below n ks) parts.1 ∙ below) (below_each width ks batches below parts.2)

-- where an array was chosen at each place, they are a batch
pub choice_is_batch : (batch all arrays : List Column) (ks : List ℕ) (i : ℕ) → all ≡ batch → is_batch batch ≡ true
    → are_below (length batch) ks ≡ true → length ks ≤ i → arrays ≡ chosen (take i ks) all → is_batch arrays ≡ true
choice_is_batch batch all arrays ks i are long below past made =
    ap is_batch (made ∙ ap (λ (js : List ℕ). chosen js all) (take_all i ks past) ∙ ap (chosen ks) are) ∙ chosen_batch ks below
  where
    chosen_batch : (ks : List ℕ) → are_below (length batch) ks ≡ true → is_batch (chosen ks batch) ≡ true
    chosen_batch [] below = refl
    chosen_batch (k ∷ ks) below =
        let alone : AreBatches (length batch) (batch ∷ []) =
        and_from (is_batch batch && (length batch == length batch)) true
        (and_from (is_batch batch) (length batch == length batch) long (eq-eqb (length batch) (length batch) refl)) refl in
        (are_parts (suc (length ks)) (chosen (k ∷ ks) batch) [] (choices_have_columns (length batch) k ks (batch ∷ []) alone below).1).0
