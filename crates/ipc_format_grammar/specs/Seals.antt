-- Seals: the one byte text of a schema, a list of rows and a batch size. The rows go in batches of that size, little-endian, each column
-- from its slots alone, the dictionaries numbered from 0.
use Rattle.std.specs.Prelude.{◌≡◌, ℕ, zero, suc, Bool, true, ◌&&◌, List, [], ◌∷◌, length, map, take, drop, is_none, nat_le, Option, Some}
use Rattle.std.specs.List.{list_all}
use Rattle.ipc_format_flatbuffers.specs.Reading.{◌>>=◌, guard}
use Rattle.nested_arrays_columns.specs.columnar_memory.declared.Field.{Field}
use Rattle.nested_arrays_columns.specs.columnar_memory.declared.Schema.{Schema}
pub use Rattle.nested_arrays_columns.specs.Rows.{column_of_rows, columns_of_rows, columns_fit, is_row_of}
use Rattle.nested_arrays_columns.specs.Slots.{Slot}
use Rattle.nested_arrays_columns.specs.Tables.{Table}
use Rattle.nested_arrays_columns.specs.Sealing.{seal_bar}
use Rattle.ipc_format_grammar.specs.Limits.{most_batch_rows}
use Rattle.ipc_format_grammar.specs.Writable.{is_writable, IsTable}
use Rattle.ipc_format_grammar.specs.Ids.{default_ids}
use Rattle.ipc_format_grammar.specs.WrittenMessages.{fits_limit}
use Rattle.ipc_format_grammar.specs.WrittenStreams.{Batch, batch_of_slots, stream_messages, stream_bytes}

-- groups of n, the last one shorter; there are at most so many
abbrev pub groups_within : {A : Type 0} → ℕ → ℕ → List A → List (List A)
groups_within zero n xs = []
groups_within (suc most) n [] = []
groups_within (suc most) n (x ∷ xs) = take n (x ∷ xs) ∷ groups_within most n (drop n (x ∷ xs))

abbrev pub groups_of : {A : Type 0} → ℕ → List A → List (List A)
groups_of n xs = groups_within (length xs) n xs

-- the batches of a seal
abbrev pub seal_batches : Schema → List (List Slot) → ℕ → List Batch
seal_batches schema rows n =
    map (λ group. batch_of_slots schema.fields (default_ids schema.fields) (columns_of_rows schema.fields group)) (groups_of n rows)

-- the bytes of a seal
unfoldable pub seal_bytes : Schema → List (List Slot) → ℕ → List ℕ
seal_bytes schema rows n = stream_bytes schema (default_ids schema.fields) (seal_batches schema rows n)

-- each row has a value a field, and without fields there is no row
abbrev pub are_rows_of : List Field → List (List Slot) → Bool
are_rows_of fields rows = list_all (is_row_of fields) rows

-- how many rows a batch of a seal may have
abbrev pub is_batch_size : ℕ → Bool
is_batch_size n = nat_le 1 n && nat_le n most_batch_rows

-- whether a schema may be sealed
abbrev pub is_sealable : Schema → Bool
is_sealable schema = is_none (seal_bar schema (is_writable schema))

-- whether each group's columns fit
abbrev pub groups_fit : Schema → List (List Slot) → ℕ → Bool
groups_fit schema rows n = list_all (λ group. columns_fit schema.fields (columns_of_rows schema.fields group)) (groups_of n rows)

-- whether each message is within its limit
abbrev pub messages_fit : Schema → List (List Slot) → ℕ → Bool
messages_fit schema rows n = list_all fits_limit (stream_messages schema (default_ids schema.fields) (seal_batches schema rows n))

-- the seal of a schema and rows in batches of n: nothing where the schema may not be sealed, a row has another width, n is no batch's size, a
-- group doesn't fit, or a message is too long
unfoldable pub sealed : Schema → List (List Slot) → ℕ → Option (List ℕ)
sealed schema rows n = do
  _ ← guard (is_sealable schema)
  _ ← guard (is_batch_size n && are_rows_of schema.fields rows)
  _ ← guard (groups_fit schema rows n)
  _ ← guard (messages_fit schema rows n)
  Some (seal_bytes schema rows n)

-- a table that may be sealed in batches of n
pub record SealableWith (table : Table) (n : ℕ) : Type 0 where
  pub is_table : IsTable table
  pub sealable : is_sealable table.schema ≡ true
  pub size : is_batch_size n ≡ true
  pub groups : groups_fit table.schema table.rows n ≡ true
  pub messages : messages_fit table.schema table.rows n ≡ true
