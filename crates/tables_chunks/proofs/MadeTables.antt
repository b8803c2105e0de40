-- What is made of tables, as the code makes it: with a clone of the schema, and batches that were put together.
use Rattle.std.proofs.Common.{◌≡◌, ◌∙◌, ℕ, ◌+◌, ◌≤◌, true, List, [], ◌∷◌, length, map, refl, sym, ap, ap₂, subst}
use Rattle.std.specs.Prelude.{Ok}
use Rattle.std.specs.List.{list_all}
use Rattle.columnar_memory_types.specs.declared.schema.Schema.{Schema}
use Rattle.ipc_format.specs.columns.StoredColumns.{Column}
use Rattle.ipc_format.specs.columns.Tables.{chosen}
use Rattle.tables_chunks.specs.Batches.{stored_rows, cut_batches, choose_batches}
use Rattle.tables_chunks.specs.Choices.{IsChoice, are_below}
use Rattle.tables_chunks.proofs.ChoiceSteps.{below_each}
use Rattle.tables_chunks.specs.StoredTables.{Stored, IsTable, as_table, row_count}
use Rattle.tables_chunks.specs.TableParts.{CutsTable, ChoosesColumns, cut_table, choose_columns}
use Rattle.tables_chunks.proofs.TableBatches.{cut_is_table, cut_count, cut_is_part, choice_form, choice_is_table, choice_count, choice_is_choice}

-- batches that fit a schema have so many rows
pub record IsMade (schema : Schema) (batches : List (List Column)) (rows : ℕ) : Type 0 where
  pub counted : rows ≡ length (stored_rows batches)
  pub fits : IsTable schema batches

abbrev table_of : Schema → List (List Column) → Stored
table_of schema batches = record { schema = schema; batches = batches }

-- what holds of these holds of what is the same
made_again : (a b : Schema) (xs ys : List (List Column)) (m n : ℕ) → a ≡ b → xs ≡ ys → m ≡ n → IsMade b ys n → IsMade a xs m
made_again a b xs ys m n schemas batches rows made = rw (schemas, batches, rows) made

pub cut_made : (table : Stored) (schema : Schema) (windows : List (List Column)) (o n : ℕ) → schema ≡ table.schema
    → windows ≡ cut_batches o n table.batches → IsTable table.schema table.batches → o + n ≤ row_count table → IsMade schema windows n
cut_made table schema windows o n same are is within =
    made_again schema table.schema windows (cut_batches o n table.batches) n n same are refl (record {
      counted = cut_count table.schema table.batches o n is within;
      fits = cut_is_table table.schema table.batches o n is within;
    })

pub cut_cuts : (table : Stored) (schema : Schema) (windows : List (List Column)) (o n : ℕ) → schema ≡ table.schema
    → windows ≡ cut_batches o n table.batches → IsTable table.schema table.batches → o + n ≤ row_count table
    → (cut : Stored) → cut ≡ table_of schema windows → CutsTable o n table (Ok cut)
cut_cuts table schema windows o n same are is within cut made =
    let whole : cut ≡ cut_table o n table = made ∙ ap₂ table_of same are in
    (whole, ap as_table whole ∙ cut_is_part table o n is within)

pub choice_made : (table : Stored) (schema : Schema) (picked : List (List Column)) (k : ℕ) (ks : List ℕ)
    → schema ≡ record table.schema { fields = chosen (k ∷ ks) table.schema.fields } → picked ≡ map (chosen (k ∷ ks)) table.batches
    → IsTable table.schema table.batches → IsChoice (length table.schema.fields) (k ∷ ks) → IsMade schema picked (row_count table)
choice_made table schema picked k ks same are is chooses =
    made_again schema (record table.schema { fields = chosen (k ∷ ks) table.schema.fields }) picked (choose_batches (k ∷ ks) table.batches)
    (row_count table) (row_count table) same are refl (record {
      counted = choice_count table.schema table.batches k ks is chooses;
      fits = choice_is_table table.schema table.batches (k ∷ ks) is chooses;
    })

pub choice_chooses : (table : Stored) (schema : Schema) (picked : List (List Column)) (ks : List ℕ)
    → schema ≡ record table.schema { fields = chosen ks table.schema.fields } → picked ≡ choose_batches ks table.batches
    → IsTable table.schema table.batches → IsChoice (length table.schema.fields) ks
    → (made : Stored) → made ≡ table_of schema picked → ChoosesColumns ks table (Ok made)
choice_chooses table schema picked ks same are is chooses made made_is =
    let whole : made ≡ choose_columns ks table = made_is ∙ ap₂ table_of same are in
    (whole, ap as_table whole ∙ choice_is_choice table ks is chooses)

-- where no column is chosen there is no batch
pub none_made : (table : Stored) (schema : Schema) (picked : List (List Column)) (ks : List ℕ)
    → schema ≡ record table.schema { fields = chosen ks table.schema.fields } → picked ≡ [] → IsTable table.schema table.batches
    → IsChoice (length table.schema.fields) ks → IsTable schema picked
none_made table schema picked ks same none is chooses =
    subst (λ (s : Schema). IsTable s picked) (sym same)
    (subst (IsTable (record table.schema { fields = chosen ks table.schema.fields })) (sym none)
    (record { form = choice_form table.schema ks is.form chooses; whole = refl; types = refl }))

-- ---- choices as the code makes them

pub chooses_each : (table : Stored) (batches : List (List Column)) (ks : List ℕ) → batches ≡ table.batches
    → IsTable table.schema table.batches → IsChoice (length table.schema.fields) ks
    → list_all (λ (batch : List Column). are_below (length batch) ks) batches ≡ true
chooses_each table batches ks are is chooses =
    ap (list_all (λ (batch : List Column). are_below (length batch) ks)) are
    ∙ below_each (length table.schema.fields) ks table.batches chooses.below is.whole

-- where some column is chosen, the choice of batches is that of each
some_chosen : (batches : List (List Column)) (ks : List ℕ) → (length ks ≡ 0 → ⊥) → map (chosen ks) batches ≡ choose_batches ks batches
some_chosen batches [] some = absurd (some refl)
some_chosen batches (k ∷ ks) some = refl

pub picked_made : (table : Stored) (schema : Schema) (picked : List (List Column)) (ks : List ℕ) (rows : ℕ) → (length ks ≡ 0 → ⊥)
    → schema ≡ record table.schema { fields = chosen ks table.schema.fields } → picked ≡ map (chosen ks) table.batches
    → rows ≡ row_count table → IsTable table.schema table.batches → IsChoice (length table.schema.fields) ks → IsMade schema picked rows
picked_made table schema picked [] rows some same are count is chooses = absurd (some refl)
picked_made table schema picked (k ∷ ks) rows some same are count is chooses =
    made_again schema schema picked picked rows (row_count table) refl refl count (choice_made table schema picked k ks same are is chooses)

pub picked_chooses : (table : Stored) (schema : Schema) (picked : List (List Column)) (ks : List ℕ) → (length ks ≡ 0 → ⊥)
    → schema ≡ record table.schema { fields = chosen ks table.schema.fields } → picked ≡ map (chosen ks) table.batches
    → IsTable table.schema table.batches → IsChoice (length table.schema.fields) ks
    → (made : Stored) → made ≡ table_of schema picked → ChoosesColumns ks table (Ok made)
picked_chooses table schema picked ks some same are is chooses made made_is =
    choice_chooses table schema picked ks same (are ∙ some_chosen table.batches ks some) is chooses made made_is
