-- Columns that are passed over one after another.
use Rattle.std.proofs.Common.{◌≡◌, ◌∙◌, ◌+◌, ◌-◌, ◌<◌, ◌≤◌, ℕ, List, [], ◌∷◌, ◌++◌, length, take, drop, map, get_or, sym, ap, subst, arith, inl, inr}
use Rattle.std.proofs.Common.{length-drop}
use Rattle.std.specs.Prelude.{Result, Ok, Err, ◌⊎◌}
use Rattle.std.proofs.lemmas.List.{drop-drop, map-append, take-append-drop, take_more}
use Rattle.std.proofs.lemmas.List.Sums.{sum_by-append}
use Rattle.ipc_format_column_bytes.specs.streams.columnar_memory.declared.Error.{Error}
use Rattle.ipc_format_column_bytes.specs.streams.grammar.Layouts.{total}
use Rattle.ipc_format_column_reading.specs.Queues.{IsEnd, Skips}

-- an end of an end is an end
pub end_behind : {A : Type 0} (xs ys zs : List A) (n : ℕ) → ys ≡ drop n xs → IsEnd ys zs → IsEnd xs zs
end_behind xs ys zs n first later = (n + later.0, later.1 ∙ ap (drop later.0) first ∙ drop-drop later.0 n xs)

-- what is passed over behind others
pub skips_behind : {A B X : Type 0} (n b m c : ℕ) (xs ys zs : List A) (us vs ws : List B) (r : Result X Error)
    → (n ≤ length xs) × (ys ≡ drop n xs) × (b ≤ length us) × (vs ≡ drop b us)
    → Skips m c ys zs vs ws r → Skips (n + m) (b + c) xs zs us ws r
skips_behind n b m c xs ys zs us vs ws (Ok done) first later =
    let nodes_left : length ys ≡ length xs - n = ap length first.1 ∙ length-drop n xs in
    let buffers_left : length vs ≡ length us - b = ap length first.3 ∙ length-drop b us in
    (omega arith, later.1 ∙ ap (drop m) first.1 ∙ drop-drop m n xs, omega arith, later.3 ∙ ap (drop c) first.3 ∙ drop-drop c b us)
skips_behind n b m c xs ys zs us vs ws (Err error) first later =
    let nodes_left : length ys ≡ length xs - n = ap length first.1 ∙ length-drop n xs in
    let buffers_left : length vs ≡ length us - b = ap length first.3 ∙ length-drop b us in
    let short : (length xs < n + m) ⊎ (length us < b + c) =
    elim later.1 [ inl few ↦ inl (omega arith) | inr few ↦ inr (omega arith) ] in
    (later.0, short, end_behind xs ys zs n first.1 later.2, end_behind us vs ws b first.3 later.3)

-- where there are too few, there are too few of more
pub skips_more : {A B : Type 0} (X Y : Type 0) (n b m c : ℕ) (xs ys : List A) (us vs : List B) (error : Error) → n ≤ m → b ≤ c
    → Skips {X = X} n b xs ys us vs (Err error) → Skips {X = Y} m c xs ys us vs (Err error)
skips_more X Y n b m c xs ys us vs error nodes buffers few =
    let short : (length xs < m) ⊎ (length us < c) = elim few.1 [ inl less ↦ inl (omega arith) | inr less ↦ inr (omega arith) ] in
    (few.0, short, few.2, few.3)

-- the same counts
pub skips_as : {A B X : Type 0} (n b m c : ℕ) (xs ys : List A) (us vs : List B) (r : Result X Error) → n ≡ m → b ≡ c
    → Skips n b xs ys us vs r → Skips m c xs ys us vs r
skips_as n b m c xs ys us vs r nodes buffers skipped =
    subst (λ (count : ℕ). Skips count c xs ys us vs r) nodes (subst (λ (count : ℕ). Skips n count xs ys us vs r) buffers skipped)

-- the counts of some fields and one more
total_more : {F : Type 0} (count : F → ℕ) (xs : List F) (k : ℕ) (x : F) → k < length xs → x ≡ get_or xs k x
    → total (map count (take (k + 1) xs)) ≡ total (map count (take k xs)) + count x
total_more count xs k x below is =
    let more : take (k + 1) xs ≡ take k xs ++ x ∷ [] = take_more xs k x below ∙ ap (λ y. take k xs ++ y ∷ []) (sym is) in
    let list : map count (take (k + 1) xs) ≡ map count (take k xs) ++ count x ∷ [] =
    ap (map count) more ∙ map-append count (take k xs) (x ∷ []) in
    let sums : total (map count (take k xs) ++ count x ∷ []) ≡ total (map count (take k xs)) + total (count x ∷ []) =
    sum_by-append (λ (n : ℕ). n) (map count (take k xs)) (count x ∷ []) in
    let one : total (count x ∷ []) ≡ count x = omega arith in
    ap total list ∙ sums ∙ ap (λ n. total (map count (take k xs)) + n) one

-- the first of some fields count no more than all
total_firsts : {F : Type 0} (count : F → ℕ) (xs : List F) (k : ℕ) → total (map count (take k xs)) ≤ total (map count xs)
total_firsts count xs k =
    let parts : map count xs ≡ map count (take k xs) ++ map count (drop k xs) =
    ap (map count) (sym (take-append-drop k xs)) ∙ map-append count (take k xs) (drop k xs) in
    let sums : total (map count xs) ≡ total (map count (take k xs)) + total (map count (drop k xs)) =
    ap total parts ∙ sum_by-append (λ (n : ℕ). n) (map count (take k xs)) (map count (drop k xs)) in
    omega arith

-- the first of some fields and one more count no more than all
pub total_within : {F : Type 0} (count : F → ℕ) (xs : List F) (k : ℕ) (x : F) → k < length xs → x ≡ get_or xs k x
    → total (map count (take k xs)) + count x ≤ total (map count xs)
total_within count xs k x below is =
    let more = total_more count xs k x below is in
    let firsts = total_firsts count xs (k + 1) in
    omega arith
