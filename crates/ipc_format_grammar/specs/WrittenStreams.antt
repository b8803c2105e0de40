-- Written streams, and which batches are written under a schema (Arrow IPC, "IPC Streaming Format"; docs/FORMAT.md, "Writing").
use Rattle.std.specs.Prelude.{ℕ, Bool, true, false, not, ◌&&◌, ◌==◌, List, [], ◌∷◌, ◌++◌, length, map, nat_lt, Option, Some}
use Rattle.std.specs.List.{flat_map, list_all}
use Rattle.ipc_format_flatbuffers.specs.Reading.{◌>>=◌, guard}
use Rattle.columnar_memory_types.specs.Equality.{same_type}
use Rattle.nested_arrays_columns.specs.columnar_memory.declared.DataType.{DataType}
use Rattle.nested_arrays_columns.specs.columnar_memory.declared.DataType.TheOpen as layer
use Rattle.nested_arrays_columns.specs.columnar_memory.declared.DataType.TheFolds.{fold-DataType}
use Rattle.nested_arrays_columns.specs.columnar_memory.declared.Field.{Field}
use Rattle.nested_arrays_columns.specs.columnar_memory.declared.Schema.{Schema}
use Rattle.nested_arrays_columns.specs.Cells.{is_list_of, fits_step}
use Rattle.nested_arrays_columns.specs.OpenBatch.{is_within}
use Rattle.nested_arrays_columns.specs.Slots.{Slot}
use Rattle.nested_arrays_columns.specs.SoundColumns.{is_sound}
use Rattle.nested_arrays_columns.specs.StoredColumns.{Column, column_len, column_type}
use Rattle.ipc_format_grammar.specs.Limits.{length_limit}
use Rattle.ipc_format_grammar.specs.Schemas.{IdsList}
use Rattle.ipc_format_grammar.specs.Writable.{is_writable, normalised_type}
use Rattle.ipc_format_grammar.specs.Columns.{first_ids, other_ids}
use Rattle.ipc_format_grammar.specs.Encoding.{Encoded, encode, joined_columns, has_union}
use Rattle.ipc_format_grammar.specs.StoredEncoding.{encode_stored}
use Rattle.ipc_format_grammar.specs.Ids.{ids_fit_fields, all_are_ids}
use Rattle.ipc_format_grammar.specs.GivenDictionaries.{Given, given_by, given_stored, to_write, written_after, agree}
use Rattle.ipc_format_grammar.specs.WrittenMessages.{Written, message_bytes, fits_limit, end_mark, schema_written, record_message, dictionary_message}

-- a batch that is written: how many rows, its columns, and the dictionaries that they bring
pub record Batch : Type 0 where
  pub rows : ℕ
  pub columns : List Encoded
  pub given : List Given

-- ---- a batch from slots, and from stored columns

abbrev pub columns_of_slots : List Field → List (List Slot) → List Encoded
columns_of_slots [] columns = []
columns_of_slots (field ∷ fields) [] = []
columns_of_slots (field ∷ fields) (column ∷ columns) = encode field.data_type column ∷ columns_of_slots fields columns

abbrev pub given_of_slots : List Field → IdsList → List (List Slot) → List Given
given_of_slots [] below columns = []
given_of_slots (field ∷ fields) below [] = []
given_of_slots (field ∷ fields) below (column ∷ columns) =
    given_by field.data_type (first_ids below) column ++ given_of_slots fields (other_ids below) columns

-- how many rows some columns have: the first's; none without a column
abbrev pub rows_of_slots : List (List Slot) → ℕ
rows_of_slots [] = 0
rows_of_slots (column ∷ columns) = length column

unfoldable pub batch_of_slots : List Field → IdsList → List (List Slot) → Batch
batch_of_slots fields below columns =
    record { rows = rows_of_slots columns; columns = columns_of_slots fields columns; given = given_of_slots fields below columns }

abbrev pub given_of_stored : IdsList → List Column → List Given
given_of_stored below [] = []
given_of_stored below (column ∷ columns) = given_stored (first_ids below) column ++ given_of_stored (other_ids below) columns

abbrev pub rows_of_stored : List Column → ℕ
rows_of_stored [] = 0
rows_of_stored (column ∷ columns) = column_len column

unfoldable pub batch_of_stored : IdsList → List Column → Batch
batch_of_stored below columns =
    record { rows = rows_of_stored columns; columns = map (encode_stored true) columns; given = given_of_stored below columns }

-- ---- messages

-- a batch's messages: the dictionaries that go before it, and the batch
abbrev pub batch_messages : List Given → Batch → List Written
batch_messages written batch = map dictionary_message (to_write written batch.given) ++ record_message batch.rows batch.columns ∷ []

-- the messages of batches, where some dictionaries are written already, the latest first
abbrev pub messages_after : List Given → List Batch → List Written
messages_after written [] = []
messages_after written (batch ∷ batches) = batch_messages written batch ++ messages_after (written_after written batch.given) batches

-- a stream's messages
unfoldable pub stream_messages : Schema → IdsList → List Batch → List Written
stream_messages schema ids batches = schema_written schema ids ∷ messages_after [] batches

abbrev pub bytes_of_messages : List Written → List ℕ
bytes_of_messages messages = flat_map message_bytes messages

unfoldable pub stream_bytes : Schema → IdsList → List Batch → List ℕ
stream_bytes schema ids batches = bytes_of_messages (stream_messages schema ids batches) ++ end_mark

-- ---- which batches belong to a schema

-- what a batch is written from: a list of slots a field, or what an array stores a field
pub data Chunk : Type 0 where
  slot_columns : List (List Slot) → Chunk
  stored_columns : List Column → Chunk

abbrev pub batch_of : List Field → IdsList → Chunk → Batch
batch_of fields below (slot_columns columns) = batch_of_slots fields below columns
batch_of fields below (stored_columns columns) = batch_of_stored below columns

-- the batches that are written of chunks under a schema with some ids
abbrev pub batches_written : Schema → IdsList → List Chunk → List Batch
batches_written schema ids chunks = map (batch_of schema.fields ids) chunks

-- one layer of a type, where each type below stands as its test: what fits a cell, and in a map its entries
abbrev pub type_step : layer.DataType-F (Slot → Bool) (Slot → Bool) → Slot → Bool
type_step (layer.Map entry is_sorted) = is_list_of entry
type_step type_layer = fits_step type_layer

-- whether a slot is one of a type; of a union only null is
abbrev pub is_of_type : DataType → Slot → Bool
is_of_type = fold-DataType (Slot → Bool) (Slot → Bool) type_step (λ field. field.data_type)

-- slots are of a field that has no union at any depth, and their lengths, offsets and keys are within an array's limits
abbrev pub are_slots_of : Field → List Slot → Bool
are_slots_of field column =
    not (has_union field.data_type) && list_all (is_of_type field.data_type) column && is_within field.data_type column

-- an array's column is sound, and its type and the field's have one form
abbrev pub is_column_of : Field → Column → Bool
is_column_of field column = is_sound column && same_type (normalised_type (column_type column)) (normalised_type field.data_type)

-- as many columns as fields, each passing its field's test
abbrev pub pass_each : {A : Type 0} → (Field → A → Bool) → List Field → List A → Bool
pass_each test [] [] = true
pass_each test (field ∷ fields) (column ∷ columns) = test field column && pass_each test fields columns
pass_each test _ _ = false

abbrev pub are_columns_of : List Field → Chunk → Bool
are_columns_of fields (slot_columns columns) = pass_each are_slots_of fields columns
are_columns_of fields (stored_columns columns) = pass_each is_column_of fields columns

-- how many slots each column has
abbrev pub chunk_lengths : Chunk → List ℕ
chunk_lengths (slot_columns columns) = map (λ column. length column) columns
chunk_lengths (stored_columns columns) = map column_len columns

-- numbers that are all the first one
abbrev pub are_equal : List ℕ → Bool
are_equal [] = true
are_equal (n ∷ ns) = list_all (λ other. other == n) ns

-- a node whose number of slots, and of nulls, is within an array's length
abbrev pub is_node : ℕ × ℕ → Bool
is_node node = nat_lt node.0 length_limit && nat_lt node.1 length_limit

abbrev pub has_nodes_in_room : Encoded → Bool
has_nodes_in_room column = list_all is_node column.nodes

-- a batch's rows, its nodes and those of its dictionaries are within the lengths of arrays
abbrev pub is_in_room : Batch → Bool
is_in_room batch = nat_lt batch.rows length_limit && has_nodes_in_room (joined_columns batch.columns)
    && list_all (λ (given : Given). has_nodes_in_room given.column && nat_lt (length given.slots) length_limit) batch.given

-- A batch belongs to a schema: a column a field, all of one length, each of its field's type, and none longer than an array may be. Another
-- batch is an invalid argument.
unfoldable pub belongs : Schema → IdsList → Chunk → Bool
belongs schema ids chunk =
    are_columns_of schema.fields chunk && are_equal (chunk_lengths chunk) && is_in_room (batch_of schema.fields ids chunk)

-- a schema that may be written with some ids: it is writable, and the ids fit it and are signed numbers of eight bytes
abbrev pub is_written_with : Schema → IdsList → Bool
is_written_with schema ids = is_writable schema && ids_fit_fields schema.fields ids && all_are_ids ids

-- A whole stream: nothing where the schema isn't written or the ids are none of it, a batch doesn't belong to it, two dictionaries of a
-- batch disagree, or a message is too long.
unfoldable pub written_stream : Schema → IdsList → List Chunk → Option (List ℕ)
written_stream schema ids chunks = do
  _ ← guard (is_written_with schema ids)
  _ ← guard (list_all (belongs schema ids) chunks)
  _ ← guard (list_all (λ (batch : Batch). agree batch.given) (batches_written schema ids chunks))
  _ ← guard (list_all fits_limit (stream_messages schema ids (batches_written schema ids chunks)))
  Some (stream_bytes schema ids (batches_written schema ids chunks))
