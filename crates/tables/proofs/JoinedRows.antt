-- Rows of batches that stand behind others, and of tables one behind another.
use Rattle.std.proofs.Common.{◌≡◌, ◌∙◌, ℕ, ◌+◌, ◌≤◌, ◌<◌, ◌^◌, List, [], ◌∷◌, ◌++◌, length, map, take, drop, get_or, refl, sym, ap, subst}
use Rattle.std.proofs.Common.{arith, length-append}
use Rattle.std.specs.Prelude.{Result, Ok, Err, MatchResult, ⊤}
use Rattle.std.specs.Result.{IsErrAnd}
use Rattle.std.specs.List.{flat_map}
use Rattle.std.proofs.lemmas.List.{map-append, take_more, take-append-drop, append-nil}
use Rattle.std.proofs.lemmas.List.Concat.{flat_map-append}
use Rattle.std.proofs.lemmas.List.Elements.{All-get_or, All-more}
use Rattle.std.proofs.lemmas.List.Sums.{sum_by-cons, sum_by_more_le}
use Rattle.tables_rows.specs.chunks.ipc_format.columns.Slots.{Slot}
use Rattle.tables_rows.specs.chunks.ipc_format.columns.StoredColumns.{Column, column_len, slot_at, slots}
use Rattle.tables_rows.specs.chunks.ipc_format.columns.Tables.{batch_rows, row_at, rows_of_batches, rows_of_columns}
use Rattle.tables_rows.proofs.chunk_lemmas.Windows.{length-window}
use Rattle.tables_rows.specs.chunks.Batches.{batch_len, stored_rows}
use Rattle.tables_rows.specs.chunks.StoredTables.{AddsBatch, Stored, row_count}
use Rattle.tables_rows.specs.chunks.declared.fault.Fault.{Fault}
use Rattle.tables_rows.specs.chunks.declared.fault.Fault.TheVariants as faults
use Rattle.tables.specs.Made.{AddsBatches, HaveSchemaOf, MakesJoin, joined_all, rows_together}
use Rattle.tables.specs.declared.program.Failure.{Failure}
use Rattle.tables.specs.declared.program.Failure.TheVariants as failures

-- ---- batches

rows_are : (batch : List Column) → rows_of_columns (map slots batch) ≡ batch_len batch
rows_are [] = refl
rows_are (column ∷ columns) = length-window (slot_at column) 0 (column_len column)

rows_count : (batch : List Column) → length (batch_rows (map slots batch)) ≡ batch_len batch
rows_count batch = length-window (row_at (map slots batch)) 0 (rows_of_columns (map slots batch)) ∙ rows_are batch

count_both : (a b : List (List Column)) → length (stored_rows (a ++ b)) ≡ length (stored_rows a) + length (stored_rows b)
count_both a b =
    ap (λ (xs : List (List (List Slot))). length (rows_of_batches xs)) (map-append (λ (batch : List Column). map slots batch) a b)
    ∙ ap (λ (rows : List (List Slot)). length rows)
    (flat_map-append batch_rows (map (λ (batch : List Column). map slots batch) a) (map (λ (batch : List Column). map slots batch) b))
    ∙ length-append (stored_rows a) (stored_rows b)

count_one : (batch : List Column) → length (stored_rows (batch ∷ [])) ≡ batch_len batch
count_one batch = length-append (batch_rows (map slots batch)) [] ∙ omega (arith, rows_count batch)

-- the rows of some first batches and of the next are no more than all
count_next : (batches : List (List Column)) (i : ℕ) (batch : List Column) → i < length batches → batch ≡ get_or batches i batch
    → length (stored_rows (take i batches)) + batch_len batch ≤ length (stored_rows batches)
count_next batches i batch inside is =
    let next : length (stored_rows (take (i + 1) batches)) ≡ length (stored_rows (take i batches ++ batch ∷ [])) =
    ap (λ (xs : List (List Column)). length (stored_rows xs))
    (take_more batches i batch inside ∙ ap (λ (x : List Column). take i batches ++ x ∷ []) (sym is)) in
    let all : length (stored_rows batches) ≡ length (stored_rows (take (i + 1) batches ++ drop (i + 1) batches)) =
    ap (λ (xs : List (List Column)). length (stored_rows xs)) (sym (take-append-drop (i + 1) batches)) in
    omega (arith, count_both (take i batches) (batch ∷ []), count_one batch, count_both (take (i + 1) batches) (drop (i + 1) batches))

-- where a batch of some can't be put behind those before it, not all can
pub adding_refused : (old joined new : Stored) (batches : List (List Column)) (i : ℕ) (batch : List Column) (fault : Fault)
    → joined ≡ record old { batches = old.batches ++ take i batches } → i < length batches → batch ≡ get_or batches i batch
    → AddsBatch joined batch (Err fault) new → AddsBatches old batches (Err fault) new
adding_refused old joined new batches i batch faults.TooManyRows are inside is refused =
    let counted : row_count joined ≡ length (stored_rows (old.batches ++ take i batches)) =
    ap row_count are in
    let past : 2 ^ 64 ≤ row_count joined + batch_len batch = refused.1 in
    omega (arith, count_both old.batches (take i batches), count_both old.batches batches, count_next batches i batch inside is)
adding_refused old joined new batches i batch faults.Memory are inside is refused = tt
adding_refused old joined new batches i batch _ are inside is refused = absurd refused

-- ---- tables

count_joined : (table : Stored) (others : List Stored) → row_count (joined_all table others) ≡ rows_together (table ∷ others)
count_joined table others = count_all (table ∷ others)
  where
    count_all : (tables : List Stored) → length (stored_rows (flat_map (λ (it : Stored). it.batches) tables)) ≡ rows_together tables
    count_all [] = refl
    count_all (table ∷ tables) =
        count_both table.batches (flat_map (λ (it : Stored). it.batches) tables)
        ∙ ap (λ (n : ℕ). row_count table + n) (count_all tables) ∙ sym (sum_by-cons row_count table tables)

-- one table more stands behind those before it
pub joined_next : (first : Stored) (others : List Stored) (i : ℕ) (table : Stored) → i < length others → table ≡ get_or others i table
    → record (joined_all first (take i others)) { batches = (joined_all first (take i others)).batches ++ table.batches }
    ≡ joined_all first (take (i + 1) others)
joined_next first others i table inside is =
    let next : take i others ++ table ∷ [] ≡ take (i + 1) others =
    ap (λ (x : Stored). take i others ++ x ∷ []) is ∙ sym (take_more others i table inside) in
    let one : table.batches ≡ flat_map (λ (it : Stored). it.batches) (table ∷ []) = sym (append-nil table.batches) in
    ap (λ (batches : List (List Column)). record first { batches = batches })
    (ap (λ (xs : List (List Column)). flat_map (λ (it : Stored). it.batches) (first ∷ take i others) ++ xs) one
    ∙ sym (flat_map-append (λ (it : Stored). it.batches) (first ∷ take i others) (table ∷ [])))
    ∙ ap (joined_all first) next

-- the tables so far, and the rows of one more
together_next : (first : Stored) (others : List Stored) (i : ℕ) (table : Stored) → i < length others → table ≡ get_or others i table
    → rows_together (first ∷ take i others) + row_count table ≤ rows_together (first ∷ others)
together_next first others i table inside is =
    let more = sum_by_more_le row_count others i table inside in
    let same : row_count table ≡ row_count (get_or others i table) = ap row_count is in
    omega (arith, sum_by-cons row_count first (take i others), sum_by-cons row_count first others)

-- where the batches of one more table can't be added, not all tables can be joined
pub join_refused : (first joined new : Stored) (others : List Stored) (i : ℕ) (table : Stored) (fault : Fault)
    → joined ≡ joined_all first (take i others) → i < length others → table ≡ get_or others i table
    → AddsBatches joined table.batches (Err fault) new → MakesJoin (Err (failures.Fault fault)) first others
join_refused first joined new others i table faults.TooManyRows are inside is refused =
    let counted : row_count joined ≡ rows_together (first ∷ take i others) = ap row_count are ∙ count_joined first (take i others) in
    let past : 2 ^ 64 ≤ length (stored_rows (joined.batches ++ table.batches)) = refused in
    omega (arith, count_both joined.batches table.batches, together_next first others i table inside is)
join_refused first joined new others i table faults.Memory are inside is refused = tt
join_refused first joined new others i table _ are inside is refused = absurd refused

-- the same where the fault is passed on as a failure
pub join_refused_as : (first joined new : Stored) (others : List Stored) (i : ℕ) (table : Stored) (added : Result ⊤ Fault)
    (passed : Result ⊤ Failure) (failure : Failure) → joined ≡ joined_all first (take i others) → i < length others
    → table ≡ get_or others i table → AddsBatches joined table.batches added new
    → MatchResult added (λ done. passed ≡ Ok done) (λ fault. IsErrAnd passed (λ it. it ≡ failures.Fault fault)) → passed ≡ Err failure
    → MakesJoin (Err failure) first others
join_refused_as first joined new others i table (Ok done) passed failure are inside is adds passes was = absurd cc
join_refused_as first joined new others i table (Err fault) passed failure are inside is adds passes was =
    let same : failure ≡ failures.Fault fault =
    subst (λ (result : Result ⊤ Failure). IsErrAnd result (λ it. it ≡ failures.Fault fault)) was passes in
    subst (λ (it : Failure). MakesJoin (Err it) first others) (sym same) (join_refused first joined new others i table fault are inside is adds)

-- tables of one schema are joined, and their rows fit 64 bits
pub record AreJoined (first : Stored) (others : List Stored) (joined : Stored) : Type 0 where
  pub are : joined ≡ joined_all first others
  pub alike : HaveSchemaOf first others
  pub fits : rows_together (first ∷ others) < 2 ^ 64

-- one table more
pub are_joined_next : (first joined new : Stored) (others : List Stored) (i : ℕ) (table : Stored)
    → AreJoined first (take i others) joined → i < length others → table ≡ get_or others i table → table.schema ≡ first.schema
    → AddsBatches joined table.batches (Ok tt) new → AreJoined first (take (i + 1) others) new
are_joined_next first joined new others i table before inside is alike added =
    let next : new ≡ joined_all first (take (i + 1) others) =
    added.0 ∙ ap (λ (t : Stored). record t { batches = t.batches ++ table.batches }) before.are ∙ joined_next first others i table inside is in
    record {
      are = next;
      alike = All-more (λ (other : Stored). other.schema ≡ first.schema) others i table inside before.alike
          (ap (λ (t : Stored). t.schema) (sym is) ∙ alike);
      fits = subst (λ (n : ℕ). n < 2 ^ 64) (ap row_count next ∙ count_joined first (take (i + 1) others)) added.1;
    }

-- where the schema of one differs from the first, not all are alike
pub schemas_differ : (first : Stored) (others : List Stored) (i : ℕ) (table : Stored) → i < length others → table ≡ get_or others i table
    → (table.schema ≡ first.schema → ⊥) → HaveSchemaOf first others → ⊥
schemas_differ first others i table inside is differ alike =
    differ (ap (λ (t : Stored). t.schema) is ∙ All-get_or (λ (other : Stored). other.schema ≡ first.schema) others i table inside alike)
