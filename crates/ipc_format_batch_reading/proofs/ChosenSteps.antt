-- What stands at places is chosen, place by place.
use Rattle.std.proofs.Common.{◌≡◌, ◌∙◌, ℕ, zero, suc, ◌+◌, ◌<◌, true, List, [], ◌∷◌, ◌++◌, length, take, get_or, refl, ap, arith}
use Rattle.std.specs.Prelude.{Option, Some, None, nat_lt, slice_get}
use Rattle.std.specs.List.{cons_option}
use Rattle.std.proofs.lemmas.Bool.{and_parts, ltb-true}
use Rattle.std.proofs.lemmas.List.{take_more}
use Rattle.std.proofs.lemmas.Option.{slice_get_read}
use Rattle.ipc_format_reading.specs.columns.Tables.{chosen}
use Rattle.ipc_format_batch_reading.specs.Projections.{are_below, are_distinct, is_choice}

append_option : {A : Type 0} (found : Option A) (xs ys : List A) → cons_option found (xs ++ ys) ≡ cons_option found xs ++ ys
append_option None xs ys = refl
append_option (Some x) xs ys = refl

chosen-append : {A : Type 0} (xs : List A) (ks js : List ℕ) → chosen (ks ++ js) xs ≡ chosen ks xs ++ chosen js xs
chosen-append xs [] js = refl
chosen-append xs (k ∷ ks) js =
    ap (cons_option (slice_get xs k)) (chosen-append xs ks js) ∙ append_option (slice_get xs k) (chosen ks xs) (chosen js xs)

-- one place more has what stands there more
pub chosen_more : {A : Type 0} (xs : List A) (ks : List ℕ) (i : ℕ) (x : A) → i < length ks → get_or ks i 0 < length xs
    → x ≡ get_or xs (get_or ks i 0) x → chosen (take (i + 1) ks) xs ≡ chosen (take i ks) xs ++ x ∷ []
chosen_more xs ks i x inside below is =
    let k : ℕ = get_or ks i 0 in
    ap (λ (js : List ℕ). chosen js xs) (take_more ks i 0 inside)
    ∙ chosen-append xs (take i ks) (k ∷ [])
    ∙ ap (λ (option : Option _). chosen (take i ks) xs ++ cons_option option []) (slice_get_read xs (length xs) k x refl below is)

-- each place is below the width
pub below_at : (width : ℕ) (ks : List ℕ) (i : ℕ) → are_below width ks ≡ true → i < length ks → get_or ks i 0 < width
below_at width [] i below inside = absurd (omega arith)
below_at width (first ∷ ks) zero below inside = ltb-true first width (and_parts (nat_lt first width) (are_below width ks) below).0
below_at width (first ∷ ks) (suc i) below inside =
    below_at width ks i (and_parts (nat_lt first width) (are_below width ks) below).1 (omega arith)

-- a choice names none twice, and each below the width
pub choice_parts : (width : ℕ) (columns : List ℕ) → is_choice width columns ≡ true
    → (are_distinct columns ≡ true) × (are_below width columns ≡ true)
choice_parts width columns choice = and_parts (are_distinct columns) (are_below width columns) choice
