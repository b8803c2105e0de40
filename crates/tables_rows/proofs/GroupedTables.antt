-- A table's rows in groups, as a table.
use Rattle.std.proofs.Common.{◌≡◌, ◌∙◌, ℕ, ◌≤◌, ◌<◌, ◌^◌, true, false, List, length, map, refl, sym, subst, arith}
use Rattle.std.specs.Prelude.{◌==◌, nat_le, is_none, Option, Some, None, Result, Ok, Err}
use Rattle.std.specs.Option.{option_map}
use Rattle.std.specs.List.{list_all}
use Rattle.std.proofs.lemmas.Bool.{and_parts, leb-true}
use Rattle.tables_chunks.specs.declared.fault.Fault.{Fault}
use Rattle.tables_chunks.specs.declared.fault.Fault.TheVariants as faults
use Rattle.tables_chunks.specs.ipc_format.columnar_memory.declared.Schema.{Schema}
use Rattle.tables_chunks.specs.ipc_format.columns.Rows.{batch_of_rows}
use Rattle.tables_chunks.specs.ipc_format.columns.Sealing.{Bar}
use Rattle.tables_chunks.specs.ipc_format.columns.SlotLaws.{BeginningsFit}
use Rattle.tables_chunks.specs.ipc_format.columns.Slots.{Slot}
use Rattle.tables_chunks.specs.ipc_format.columns.StoredColumns.{Column}
use Rattle.tables_chunks.specs.ipc_format.Seals.{groups_of, groups_fit, is_batch_size, is_sealable}
use Rattle.tables_chunks.specs.Batches.{stored_rows}
use Rattle.tables_chunks.specs.StoredTables.{Stored, IsTable, MakesTable, is_of_fields}
use Rattle.tables_chunks.proofs.ColumnsOfRows.{rows_wide}
use Rattle.tables_rows.specs.Bars.{bar_of, name_of}
use Rattle.tables_rows.specs.Grouping.{after_rows, all_batches, no_rows, rows_fit, IsNotTaken}
use Rattle.tables_rows.specs.Seals.{GroupsTable}
use Rattle.tables_rows.proofs.FreshBatches.{groups_typed}
use Rattle.tables_rows.proofs.GroupedRows.{batches_are_groups, rows_fit_as_groups}
use Rattle.tables_rows.proofs.PushedSlots.{weaker}
use Rattle.tables_rows.proofs.RowCounts.{rows_of_fields, seal_count}

-- a batch has a row at least
pub some_rows : (n : ℕ) → is_batch_size n ≡ true → 0 < n
some_rows n size = omega (arith, leb-true 1 n (and_parts (nat_le 1 n) (nat_le n 65536) size).0)

-- where there is no bar a schema may be sealed
no_name : (found : Option Bar) → option_map name_of found ≡ None → is_none found ≡ true
no_name None e = refl
no_name (Some bar) e = absurd cc

pub may_be_sealed : (schema : Schema) → bar_of schema ≡ None → is_sealable schema ≡ true
may_be_sealed schema none = no_name _ none

module _ (n : ℕ) (table : Stored) (can : is_sealable table.schema ≡ true) (size : is_batch_size n ≡ true) (its : IsTable table.schema table.batches)
    (law : BeginningsFit) where
  abbrev rows : List (List Slot)
  rows = stored_rows table.batches

  abbrev groups : List (List Column)
  groups = map (batch_of_rows table.schema.fields) (groups_of n rows)

  wide : list_all (λ (row : List Slot). length row == length table.schema.fields) rows ≡ true
  wide = rows_wide (length table.schema.fields) table.batches its.whole

  one : 1 ≤ n
  one = omega (arith, some_rows n size)

  fit_is : rows_fit n (no_rows table.schema.fields) rows ≡ groups_fit table.schema rows n
  fit_is = rows_fit_as_groups n table.schema.fields law rows one wide

  pub batches_are : (batches : List (List Column)) → batches ≡ all_batches (after_rows n (no_rows table.schema.fields) rows) → batches ≡ groups
  batches_are batches is = is ∙ batches_are_groups n table.schema.fields rows one wide

  pub groups_refused : (fault : Fault) → IsNotTaken (rows_fit n (no_rows table.schema.fields) rows ≡ false) fault
      → IsNotTaken (groups_fit table.schema rows n ≡ false) fault
  groups_refused fault refused =
      weaker (rows_fit n (no_rows table.schema.fields) rows ≡ false) (groups_fit table.schema rows n ≡ false) (λ is. sym fit_is ∙ is) fault refused

  -- the groups may be a table
  pub groups_of_fields : (schema : Schema) (batches : List (List Column)) → schema ≡ table.schema → batches ≡ groups
      → list_all (is_of_fields schema.fields) batches ≡ true
  groups_of_fields schema batches same are =
      (λ j. list_all (is_of_fields (same j).fields) (are j)) ∙ groups_typed table.schema.fields (groups_of n rows)

  few : groups_fit table.schema rows n ≡ true → length rows < 2 ^ 64 → 2 ^ 64 ≤ length (stored_rows groups) → ⊥
  few fit count many =
      let same = seal_count table.schema rows n can fit size (rows_of_fields table.schema.fields table.batches its.whole) in
      absurd (omega (arith, same, count, many))

  made : (schema : Schema) (batches : List (List Column)) (result : Result Stored Fault) → length rows < 2 ^ 64 → schema ≡ table.schema
      → batches ≡ groups → groups_fit table.schema rows n ≡ true → MakesTable schema batches result → GroupsTable n table result
  made schema batches (Ok sealed) count same are fit is = (fit, is.0 ∙ (λ j. record { schema = same j; batches = are j }))
  made schema batches (Err faults.TooManyRows) count same are fit is =
      absurd (few fit count (subst (λ (bs : List (List Column)). 2 ^ 64 ≤ length (stored_rows bs)) are is))
  made schema batches (Err faults.Memory) count same are fit is = absurd is
  made schema batches (Err (faults.Ipc error)) count same are fit is = absurd is
  made schema batches (Err (faults.Lower error)) count same are fit is = absurd is
  made schema batches (Err faults.Unfinished) count same are fit is = absurd is
  made schema batches (Err (faults.NotSealable bar)) count same are fit is = absurd is
  made schema batches (Err faults.RowWidth) count same are fit is = absurd is
  made schema batches (Err faults.NoColumns) count same are fit is = absurd is
  made schema batches (Err faults.NoSuchColumn) count same are fit is = absurd is

  -- the table of the groups
  pub groups_made : (schema : Schema) (batches : List (List Column)) (result : Result Stored Fault) → length rows < 2 ^ 64 → schema ≡ table.schema
      → rows_fit n (no_rows table.schema.fields) rows ≡ true → batches ≡ all_batches (after_rows n (no_rows table.schema.fields) rows)
      → MakesTable schema batches result → GroupsTable n table result
  groups_made schema batches result count same fit are is =
      made schema batches result count same (batches_are batches are) (sym fit_is ∙ fit) is
