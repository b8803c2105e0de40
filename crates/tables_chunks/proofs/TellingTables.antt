-- When two stored tables are the same, and what tests of them tell.
use Rattle.std.proofs.Common.{◌≡◌, ◌∙◌, ℕ, ◌-◌, ◌≤◌, ◌<◌, ◌^◌, Bool, true, false, List, length, refl, sym, ap, ap₂, arith, nat_le}
use Rattle.std.specs.Prelude.{◌↔◌, IsTrue, ◌&&◌, ◌==◌}
use Rattle.std.specs.List.{list_all}
use Rattle.std.proofs.lemmas.Bool.{false≢true, leb-true, le-leb}
use Rattle.columnar_memory_types.specs.declared.data_type.Field.{Field}
use Rattle.columnar_memory_types.specs.declared.schema.Schema.{Schema}
use Rattle.ipc_format.specs.columns.Slots.{Slot}
use Rattle.ipc_format.specs.columns.StoredColumns.{Column}
use Rattle.ipc_format.specs.columns.Tables.{Table}
use Rattle.tables_chunks.specs.Batches.{is_batch, stored_rows}
use Rattle.tables_chunks.specs.SameRows.{AreAlike}
use Rattle.tables_chunks.specs.StoredTables.{Stored, IsTable, as_table, is_of_fields, row_count}
use Rattle.tables_chunks.specs.TableParts.{CanJoin}
use Rattle.tables_chunks.proofs.BatchLists.{fits_width}

-- ---- sameness

-- false tells of what does not hold
pub tells_not : (P : Type 0) → (P → ⊥) → IsTrue false ↔ P
tells_not P not = (λ h. absurd (false≢true h), λ p. absurd (not p))

pub tells_so : (P : Type 0) → P → IsTrue true ↔ P
tells_so P p = (λ h. p, λ q. refl)

-- an answer that is false tells that what it is the test of doesn't hold
pub tells_false : (P : Type 0) (answer : Bool) → IsTrue answer ↔ P → answer ≡ false → P → ⊥
tells_false P answer tells is p = false≢true (sym is ∙ tells.1 p)

pub other_schema : (left right : Stored) → (left.schema ≡ right.schema → ⊥) → as_table left ≡ as_table right → ⊥
other_schema left right differ same = differ (ap (λ (table : Table). table.schema) same)

pub other_count : (left right : Stored) (m n : ℕ) → m ≡ row_count left → n ≡ row_count right → (m ≡ n → ⊥) → as_table left ≡ as_table right → ⊥
other_count left right m n one other differ same =
    differ (one ∙ ap (λ (table : Table). length table.rows) same ∙ sym other)

-- under one schema the rows decide
pub rows_tell : (left right : Stored) (xs ys : List (List Column)) (answer : Bool) → left.schema ≡ right.schema → xs ≡ left.batches
    → ys ≡ right.batches → IsTrue answer ↔ (stored_rows xs ≡ stored_rows ys) → IsTrue answer ↔ (as_table left ≡ as_table right)
rows_tell left right xs ys answer schemas one other tells =
    let first : stored_rows xs ≡ stored_rows left.batches = ap stored_rows one in
    let second : stored_rows ys ≡ stored_rows right.batches = ap stored_rows other in (
      λ h. ap₂ (λ (schema : Schema) (rows : List (List Slot)). record { schema = schema; rows = rows }) schemas
          (sym first ∙ tells.0 h ∙ second),
      λ same. tells.1 (first ∙ ap (λ (table : Table). table.rows) same ∙ sym second),
    )

abbrev are_of : Schema → List (List Column) → Bool
are_of schema batches = list_all (λ (batch : List Column). is_batch batch && (length batch == length schema.fields)) batches

-- tables of one schema with as many rows have batches that are alike
pub tables_alike : (left right : Stored) (xs ys : List (List Column)) → left.schema ≡ right.schema → xs ≡ left.batches → ys ≡ right.batches
    → IsTable left.schema left.batches → IsTable right.schema right.batches → row_count left ≡ row_count right → AreAlike xs ys
tables_alike left right xs ys schemas one other left_is right_is counts = record {
  width = length left.schema.fields;
  left_batches = ap (are_of left.schema) one ∙ left_is.whole;
  right_batches = ap (are_of left.schema) other ∙ ap (λ (schema : Schema). are_of schema right.batches) schemas ∙ right_is.whole;
  counts = ap (λ (batches : List (List Column)). length (stored_rows batches)) one ∙ counts
      ∙ ap (λ (batches : List (List Column)). length (stored_rows batches)) (sym other);
}

-- ---- tests

-- the rows of two tables of one schema fit 64 bits
pub can_join_tells : (left right : Stored) (a b : ℕ) → left.schema ≡ right.schema → a ≡ row_count left → b ≡ row_count right → a < 2 ^ 64
    → IsTrue (nat_le b (2 ^ 64 - 1 - a)) ↔ CanJoin left right
can_join_tells left right a b schemas one other small = (
  λ h. let few : b ≤ 2 ^ 64 - 1 - a = leb-true b (2 ^ 64 - 1 - a) h in record { schemas = schemas; rows = omega arith },
  λ joins. let rows = joins.rows in le-leb b (2 ^ 64 - 1 - a) (omega arith),
)

-- a batch of another width doesn't fit
pub other_width : (fields : List Field) (batch : List Column) (m n : ℕ) → m ≡ length fields → n ≡ length batch → (m ≡ n → ⊥)
    → is_of_fields fields batch ≡ true → ⊥
other_width fields batch m n one other differ fits = differ (one ∙ sym (fits_width fields batch fits) ∙ sym other)
