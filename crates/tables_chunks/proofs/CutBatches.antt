-- A cut of batches has a range of their rows.
use Rattle.std.proofs.Common.{◌≡◌, ◌∙◌, ℕ, ◌+◌, ◌-◌, ◌≤◌, ◌<◌, ◌≢◌, min, true, false, Bool, List, [], ◌∷◌, ◌++◌, length, map, take, drop}
use Rattle.std.proofs.Common.{refl, sym, ap, ap₂, arith, length-append, nat_lt, ◌&&◌, ◌==◌, if◌then◌else◌}
use Rattle.std.specs.List.{list_all}
use Rattle.std.proofs.Math.Nat.{min-le_right}
use Rattle.std.proofs.lemmas.Bool.{and_parts, and_from, eq-eqb, eqb-true, eqb-false, lt-ltb}
use Rattle.std.proofs.lemmas.List.{length-map}
use Rattle.ipc_format.specs.columns.Slots.{Slot}
use Rattle.ipc_format.specs.columns.StoredColumns.{Column, cut, cut_list, slots}
use Rattle.ipc_format.specs.columns.Tables.{batch_rows}
use Rattle.tables_chunks.specs.Batches.{batch_len, is_batch, stored_rows, cut_batch, cut_batches, AreBatches, CutsHaveParts}
use Rattle.tables_chunks.proofs.Lists.{cut_append, cut_none, left_of_least}
use Rattle.tables_chunks.proofs.LongColumns.{rows_count, cut_batch_len, cut_is_batch, cut_batch_rows}

-- what a cut has: these rows, in batches of a width that have a row
abbrev IsPart : ℕ → List (List Slot) → List (List Column) → Type 0
IsPart width rows batches = (stored_rows batches ≡ rows) × AreBatches width batches
    × (list_all (λ (batch : List Column). nat_lt 0 (batch_len batch)) batches ≡ true)

-- a batch, before those of another part
with_batch : (width : ℕ) (rows : List (List Slot)) (batch : List Column) (batches : List (List Column)) → is_batch batch ≡ true
    → length batch ≡ width → 0 < batch_len batch → IsPart width rows batches
    → IsPart width (batch_rows (map slots batch) ++ rows) (batch ∷ batches)
with_batch width rows batch batches sound size some later = (
  ap (λ others. batch_rows (map slots batch) ++ others) later.0,
  and_from (is_batch batch && (length batch == width)) (list_all (λ (batch : List Column). is_batch batch && (length batch == width)) batches)
      (and_from (is_batch batch) (length batch == width) sound (eq-eqb (length batch) width size)) later.1,
  and_from (nat_lt 0 (batch_len batch)) (list_all (λ (batch : List Column). nat_lt 0 (batch_len batch)) batches)
      (lt-ltb 0 (batch_len batch) some) later.2,
)

-- the same part, its rows said otherwise
with_rows : (width : ℕ) (rows others : List (List Slot)) (batches : List (List Column)) → rows ≡ others → IsPart width rows batches
    → IsPart width others batches
with_rows width rows others batches e part = (part.0 ∙ e, part.1, part.2)

-- a batch and those behind it: the batch has rows of the part, or none
by_test : (width o n : ℕ) (batch : List Column) (batches : List (List Column)) → is_batch batch ≡ true → length batch ≡ width
    → o + n ≤ batch_len batch + length (stored_rows batches)
    → ((p q : ℕ) → p + q ≤ length (stored_rows batches) → IsPart width (cut_list (stored_rows batches) p q) (cut_batches p q batches))
    → (test : Bool) → (min n (batch_len batch - o) == 0) ≡ test
    → IsPart width (cut_list (batch_rows (map slots batch) ++ stored_rows batches) o n)
    (if test then cut_batches (o - batch_len batch) n batches
    else cut_batch o (min n (batch_len batch - o)) batch ∷ cut_batches (o - batch_len batch) (n - min n (batch_len batch - o)) batches)
by_test width o n batch batches sound size within behind true is =
    let len : ℕ = batch_len batch in
    let rows : List (List Slot) = batch_rows (map slots batch) in
    let none : min n (len - o) ≡ 0 = eqb-true (min n (len - o)) 0 is in
    let all : n - min n (len - o) ≡ n = omega (arith, none) in
    let empty : o + 0 - o ≡ 0 = omega arith in
    let nothing : cut_list rows o (min n (len - o)) ≡ [] = ap (cut_list rows o) none ∙ ap (λ k. take k (drop o rows)) empty in
    with_rows width (cut_list (stored_rows batches) (o - len) n) (cut_list (rows ++ stored_rows batches) o n) (cut_batches (o - len) n batches)
    (ap₂ (λ a (k : ℕ). a ++ cut_list (stored_rows batches) (o - len) k) (sym nothing) (sym all)
    ∙ cut_append rows (stored_rows batches) len o n (rows_count batch))
    (behind (o - len) n (omega (arith, left_of_least n (len - o), none)))
by_test width o n batch batches sound size within behind false is =
    let len : ℕ = batch_len batch in
    let rows : List (List Slot) = batch_rows (map slots batch) in
    let taken : ℕ = min n (len - o) in
    let some : taken ≢ 0 = eqb-false taken 0 is in
    let most : taken ≤ len - o = min-le_right n (len - o) in
    let inside : o + taken ≤ len = omega (arith, most, some) in
    let long : 0 < len = omega (arith, most, some) in
    let count : batch_len (cut_batch o taken batch) ≡ taken = cut_batch_len o taken batch sound inside long in
    with_rows width (batch_rows (map slots (cut_batch o taken batch)) ++ cut_list (stored_rows batches) (o - len) (n - taken))
    (cut_list (rows ++ stored_rows batches) o n) (cut_batch o taken batch ∷ cut_batches (o - len) (n - taken) batches)
    (ap (λ a. a ++ cut_list (stored_rows batches) (o - len) (n - taken)) (cut_batch_rows o taken batch sound inside long)
    ∙ cut_append rows (stored_rows batches) len o n (rows_count batch))
    (with_batch width (cut_list (stored_rows batches) (o - len) (n - taken)) (cut_batch o taken batch)
    (cut_batches (o - len) (n - taken) batches) (cut_is_batch o taken batch sound inside long)
    (length-map batch (λ column. cut column o taken) ∙ size) (omega (arith, count, some))
    (behind (o - len) (n - taken) (omega (arith, left_of_least n (len - o), most, some))))

-- the batches of a table are a first one and the others
pub are_parts : (width : ℕ) (batch : List Column) (batches : List (List Column)) → AreBatches width (batch ∷ batches)
    → (is_batch batch ≡ true) × (length batch ≡ width) × AreBatches width batches
are_parts width batch batches are =
    let parts = and_parts (is_batch batch && (length batch == width))
    (list_all (λ (batch : List Column). is_batch batch && (length batch == width)) batches) are in
    let first = and_parts (is_batch batch) (length batch == width) parts.0 in
    (first.0, eqb-true (length batch) width first.1, parts.1)

pub cuts_have_parts : CutsHaveParts
cuts_have_parts width o n [] are within = (sym (cut_none o n), refl, refl)
cuts_have_parts width o n (batch ∷ batches) are within =
    let parts = are_parts width batch batches are in
    let count : length (stored_rows (batch ∷ batches)) ≡ batch_len batch + length (stored_rows batches) =
    length-append (batch_rows (map slots batch)) (stored_rows batches) ∙ ap (λ k. k + length (stored_rows batches)) (rows_count batch) in
    by_test width o n batch batches parts.0 parts.1 (omega (arith, count))
    (λ p q inside. cuts_have_parts width p q batches parts.2 inside) (min n (batch_len batch - o) == 0) refl
