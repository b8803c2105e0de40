-- Which bytes are a stream of some batches, and which batches bring no dictionary (Arrow IPC, "IPC Streaming Format", "Dictionary Messages").
use Rattle.std.specs.Prelude.{◌≡◌, ℕ, List, [], Some}
use Rattle.ipc_format_grammar.specs.columnar_memory.declared.Schema.{Schema}
use Rattle.ipc_format_grammar.specs.columns.Slots.{Slot}
use Rattle.ipc_format_grammar.specs.columns.Tables.{rows_of_batches}
use Rattle.ipc_format_grammar.specs.Schemas.{IdsList}
use Rattle.ipc_format_grammar.specs.Tables.{stream, batches_in, table_of}
use Rattle.ipc_format_grammar.specs.WrittenStreams.{batch_of_slots}
use Rattle.ipc_format_laws.specs.DefaultIds.{dictionary_count}

-- bytes are a stream of these batches, and its table has their rows under the schema
pub record ReadsAs (bytes : List ℕ) (schema : Schema) (batches : List (List (List Slot))) : Type 0 where
  pub in_batches : batches_in stream bytes ≡ Some batches
  pub as_table : table_of stream bytes ≡ Some (record { schema = schema; rows = rows_of_batches batches })

-- under a schema without dictionaries no batch brings one
abbrev pub NoDictionariesGiven : Type 0
NoDictionariesGiven = (schema : Schema) (below : IdsList) (columns : List (List Slot)) → dictionary_count schema ≡ 0
    → (batch_of_slots schema.fields below columns).given ≡ []
