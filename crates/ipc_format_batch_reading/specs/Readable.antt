-- There are arrays of every type of a schema that metadata gives, so what is read of its batches is all that the format gives (Arrow IPC,
-- "Schema message", "RecordBatch message", "Dictionary Messages").
use Rattle.std.specs.Prelude.{◌≡◌, ℕ, List, length, Option, Some, None}
use Rattle.ipc_format_reading.specs.columnar_memory.declared.Field.{Field}
use Rattle.ipc_format_reading.specs.columns.Slots.{window}
use Rattle.ipc_format_reading.specs.flatbuffers.FlatBuffers.{TablePlace}
use Rattle.ipc_format_reading.specs.grammar.Columns.{Dictionary}
use Rattle.ipc_format_reading.specs.grammar.Dictionaries.{Entry, Layout, dictionary_in}
use Rattle.ipc_format_reading.specs.grammar.SchemaGrammar.{schema_in}
use Rattle.ipc_format_reading.specs.grammar.Schemas.{SchemaIn}
use Rattle.ipc_format_reading.specs.grammar.Tables.{batch_in, chosen_batch_in, layout_of}
use Rattle.ipc_format_batch_reading.specs.BatchReads.{chosen_record_arrays, record_arrays}
use Rattle.ipc_format_batch_reading.specs.DictionaryReads.{dictionary_array}

-- the numbers of all columns
abbrev pub all_of : List Field → List ℕ
all_of fields = window (λ k. k) 0 (length fields)

-- What is read of batches and dictionaries in a layout is what the format gives; under a limit of rows that is the choice of all columns.
pub record HasArrays (layout : Layout) : Type 0 where
  pub batches : (standing : List Dictionary) (entry : Entry) (table : TablePlace)
      → record_arrays layout standing None entry table ≡ batch_in layout standing entry table
  pub limited : (standing : List Dictionary) (limit : Option ℕ) (entry : Entry) (table : TablePlace)
      → record_arrays layout standing limit entry table ≡ chosen_batch_in layout standing entry limit (all_of layout.fields) table
  pub choices : (standing : List Dictionary) (limit : Option ℕ) (columns : List ℕ) (entry : Entry) (table : TablePlace)
      → chosen_record_arrays layout standing limit columns entry table ≡ chosen_batch_in layout standing entry limit columns table
  pub dictionaries : (standing : List Dictionary) (entry : Entry) (table : TablePlace)
      → dictionary_array layout standing entry table ≡ dictionary_in layout standing entry table

-- the layout of each schema that metadata gives has arrays
abbrev pub SchemasHaveArrays : Type 0
SchemasHaveArrays = (bytes : List ℕ) (table : TablePlace) (found : SchemaIn) → schema_in bytes table ≡ Some found → HasArrays (layout_of found)
