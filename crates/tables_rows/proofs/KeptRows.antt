-- Batches without a row add none.
use Rattle.std.proofs.Common.{◌≡◌, ◌∙◌, Bool, true, false, not, cond, List, [], ◌∷◌, ◌++◌, filter, flat_map, refl, sym, ap}
use Rattle.std.proofs.lemmas.Bool.{eqb-true, false≢true}
use Rattle.std.specs.Prelude.{nat_eq}
use Rattle.tables_chunks.specs.ipc_format.columns.Slots.{Slot, window}
use Rattle.tables_chunks.specs.ipc_format.columns.Tables.{batch_rows, row_at, rows_of_batches, rows_of_columns}
use Rattle.tables_rows.specs.Gathered.{Batches, kept}

-- what gives nothing may be left out
left_out : {A B : Type 0} (f : A → List B) (test : A → Bool) → ((x : A) → test x ≡ false → f x ≡ []) → (xs : List A)
    → flat_map f (filter test xs) ≡ flat_map f xs
left_out f test none [] = refl
left_out {A} {B} f test none (x ∷ xs) = by_test (test x) refl (left_out f test none xs)
  where
    by_test : (b : Bool) → test x ≡ b → flat_map f (filter test xs) ≡ flat_map f xs
        → flat_map f (cond b (x ∷ filter test xs) (filter test xs)) ≡ f x ++ flat_map f xs
    by_test true e others = ap (λ (rows : List B). f x ++ rows) others
    by_test false e others = others ∙ sym (ap (λ (rows : List B). rows ++ flat_map f xs) (none x e))

not_false : (test : Bool) → not test ≡ false → test ≡ true
not_false true e = refl
not_false false e = absurd (false≢true (sym e))

without_rows : (columns : List (List Slot)) → not (nat_eq (rows_of_columns columns) 0) ≡ false → batch_rows columns ≡ []
without_rows columns is =
    ap (window (row_at columns) 0) (eqb-true (rows_of_columns columns) 0 (not_false (nat_eq (rows_of_columns columns) 0) is))

pub rows_kept : (batches : Batches) → rows_of_batches (kept batches) ≡ rows_of_batches batches
rows_kept batches = left_out batch_rows (λ columns. not (nat_eq (rows_of_columns columns) 0)) without_rows batches
