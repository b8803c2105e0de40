-- What a seal reads back as, and that it tells tables apart (docs/FORMAT.md, "What is written").
use Rattle.std.specs.Prelude.{◌≡◌, ℕ, List, ◌++◌, map, Some}
use Rattle.ipc_format_laws.specs.columns.Tables.{Table}
use Rattle.ipc_format_laws.specs.grammar.Writable.{IsTable}
use Rattle.ipc_format_laws.specs.grammar.Tables.{stream, batches_in, table_of}
use Rattle.ipc_format_laws.specs.grammar.Seals.{sealed, groups_of, columns_of_rows}
use Rattle.ipc_format_laws.specs.Schemas.{HasTexts}

-- a table whose schema has names and metadata that are texts
pub record IsTableOfTexts (table : Table) : Type 0 where
  pub is_table : IsTable table
  pub texts : HasTexts table.schema

-- bytes are a stream of a table, in batches of n rows, the last one shorter
pub record ReadsInBatchesOf (n : ℕ) (bytes : List ℕ) (table : Table) : Type 0 where
  pub in_batches : batches_in stream bytes ≡ Some (map (columns_of_rows table.schema.fields) (groups_of n table.rows))
  pub as_table : table_of stream bytes ≡ Some table

-- A seal is a stream of its table, in batches of its size, whatever stands behind it.
abbrev pub SealsReadBack : Type 0
SealsReadBack = (table : Table) (n : ℕ) (bytes behind : List ℕ) → IsTableOfTexts table → sealed table.schema table.rows n ≡ Some bytes
    → ReadsInBatchesOf n (bytes ++ behind) table

-- tables with one seal are one table, whichever batch sizes they were sealed with
abbrev pub SealsTellTablesApart : Type 0
SealsTellTablesApart = (a b : Table) (n m : ℕ) (bytes : List ℕ) → IsTableOfTexts a → IsTableOfTexts b
    → sealed a.schema a.rows n ≡ Some bytes → sealed b.schema b.rows m ≡ Some bytes → a ≡ b
