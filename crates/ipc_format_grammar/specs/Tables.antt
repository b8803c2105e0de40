-- The table of a stream's or a file's bytes, or nothing where the grammar gives none (Arrow IPC, "IPC Streaming Format", "IPC File
-- Format").
use Rattle.std.specs.Prelude.{ℕ, zero, suc, ◌+◌, ◌-◌, ◌^◌, Bool, true, List, [], ◌∷◌, length, map, Option, Some, None, nat_lt, slice_get}
use Rattle.std.specs.List.{list_all}
use Rattle.ipc_format_flatbuffers.specs.Reading.{◌>>=◌, guard}
use Rattle.ipc_format_flatbuffers.specs.FlatBuffers as flat
use Rattle.nested_arrays_columns.specs.columnar_memory.declared.Field.{Field}
use Rattle.nested_arrays_columns.specs.Slots.{Slot}
use Rattle.nested_arrays_columns.specs.Tables.{Table, rows_of_batches, rows_of_columns, chosen}
use Rattle.ipc_format_grammar.specs.Messages as message
use Rattle.ipc_format_grammar.specs.Messages.{Version, version_in}
use Rattle.ipc_format_grammar.specs.Schemas.{SchemaIn, Ids, IdsList}
use Rattle.ipc_format_grammar.specs.SchemaGrammar.{schema_in}
use Rattle.ipc_format_grammar.specs.Writable.{normalised}
use Rattle.ipc_format_grammar.specs.Layouts.{node_number, buffer_number}
use Rattle.ipc_format_grammar.specs.Columns.{Source, Dictionary, Place, slots_in, have_length, first_ids, other_ids}
use Rattle.ipc_format_grammar.specs.Dictionaries.{Entry, Layout, source_in, dictionary_in}
use Rattle.ipc_format_grammar.specs.Framing.{Framed, messages_of, later_messages}
use Rattle.ipc_format_grammar.specs.Files.{footer_in, file_entries}

-- the two forms of Arrow's bytes
pub data Form : Type 0 where
  stream : Form
  file : Form

-- ---- batches

-- the ids at field k of some fields
abbrev pub ids_at : IdsList → ℕ → Ids
ids_at below zero = first_ids below
ids_at below (suc k) = ids_at (other_ids below) k

-- where column k of a batch is read: behind the nodes and buffers of the columns before it
abbrev pub column_place : Layout → List Dictionary → Source → Option ℕ → ℕ → Place
column_place layout standing source limit k = record {
  source = source;
  standing = standing;
  limit = limit;
  node = node_number layout.fields k;
  buffer = buffer_number source.version layout.fields k;
  ids = ids_at layout.below k;
}

-- column k of a batch
abbrev pub column_in : Layout → List Dictionary → Source → Option ℕ → ℕ → Field → Option (List Slot)
column_in layout standing source limit k field =
    slots_in field.data_type (column_place layout standing source limit k)

-- the columns of some fields, from column k on
abbrev pub columns_from : Layout → List Dictionary → Source → ℕ → List Field → Option (List (List Slot))
columns_from layout standing source k [] = Some []
columns_from layout standing source k (field ∷ fields) = do
  column ← column_in layout standing source None k field
  others ← columns_from layout standing source (k + 1) fields
  Some (column ∷ others)

-- columns are as long as the first of them
abbrev pub agree_in_length : List (List Slot) → Bool
agree_in_length [] = true
agree_in_length (column ∷ columns) = have_length (length column) columns

-- the columns of a record batch
unfoldable pub batch_in : Layout → List Dictionary → Entry → flat.TablePlace → Option (List (List Slot))
batch_in layout standing entry table = do
  source ← source_in layout.is_little_endian entry table
  columns ← columns_from layout standing source 0 layout.fields
  _ ← guard (agree_in_length columns)
  Some columns

-- what a message and those after it give, where rest says what comes of those after it under the dictionaries that stand there
abbrev pub batches_with : Layout → List Dictionary → Entry → (List Dictionary → Option (List (List (List Slot)))) → message.Header
    → Option (List (List (List Slot)))
batches_with layout standing entry rest (message.schema table) = None
batches_with layout standing entry rest (message.dictionary_batch table) = do
  dictionary ← dictionary_in layout standing entry table
  rest (dictionary ∷ standing)
batches_with layout standing entry rest (message.record_batch table) = do
  columns ← batch_in layout standing entry table
  batches ← rest standing
  Some (columns ∷ batches)

-- the record batches of messages, one after another: a key means the last dictionary of its id before it
abbrev pub batches_of : Layout → List Dictionary → List Entry → Option (List (List (List Slot)))
batches_of layout standing [] = Some []
batches_of layout standing (entry ∷ others) = batches_with layout standing entry (λ now. batches_of layout now others) entry.header

-- ---- streams and files

-- what bytes hold: a schema, and the messages after it
pub record Contents : Type 0 where
  pub schema : SchemaIn
  pub entries : List Entry

-- the schema of a stream's first message
abbrev pub schema_of : Framed → message.Header → Option SchemaIn
schema_of framed (message.schema table) = schema_in framed.metadata table
schema_of framed _ = None

-- a stream's message: its buffers' offsets count from the beginning of its body, and unions lie by the version of the schema's message
abbrev pub stream_entry : Version → Framed → Entry
stream_entry version framed = record { metadata = framed.metadata; header = framed.header; version = version; room = framed.body; origin = 0 }

unfoldable pub contents_of : Form → List ℕ → Option Contents
contents_of stream bytes = do
  messages ← messages_of bytes
  version ← version_in messages.first.metadata
  found ← schema_of messages.first messages.first.header
  Some (record { schema = found; entries = map (stream_entry version) messages.later })
contents_of file bytes = do
  footer ← footer_in bytes
  found ← schema_in footer.bytes footer.schema
  entries ← file_entries bytes footer.dictionaries footer.record_batches
  Some (record { schema = found; entries = entries })

-- The batches of a stream from a place on, where some dictionaries stand, the latest first, and so many of their messages stand before the
-- place in a row. At most so many messages are looked for.
abbrev pub batches_behind : Layout → Version → List Dictionary → ℕ → List ℕ → ℕ → ℕ → Option (List (List (List Slot)))
batches_behind layout version standing most bytes place dictionaries = do
  later ← later_messages most bytes place dictionaries
  batches_of layout standing (map (stream_entry version) later)

-- columns are read by the normalised schema
abbrev pub layout_of : SchemaIn → Layout
layout_of found = record { fields = (normalised found.schema).fields; below = found.ids; is_little_endian = found.is_little_endian }

-- the batches of bytes
unfoldable pub batches_in : Form → List ℕ → Option (List (List (List Slot)))
batches_in form bytes = do
  contents ← contents_of form bytes
  batches_of (layout_of contents.schema) [] contents.entries

-- the table of bytes: its normalised schema, and the rows of its batches, whose number fits 64 bits
unfoldable pub table_of : Form → List ℕ → Option Table
table_of form bytes = do
  contents ← contents_of form bytes
  batches ← batches_of (layout_of contents.schema) [] contents.entries
  _ ← guard (nat_lt (length (rows_of_batches batches)) (2 ^ 64))
  Some (record { schema = normalised contents.schema.schema; rows = rows_of_batches batches })

-- ---- a choice of columns, and a limit of rows

abbrev pub chosen_columns : Layout → List Dictionary → Source → Option ℕ → List ℕ → Option (List (List Slot))
chosen_columns layout standing source limit [] = Some []
chosen_columns layout standing source limit (k ∷ columns) = do
  field ← slice_get layout.fields k
  column ← column_in layout standing source limit k field
  others ← chosen_columns layout standing source limit columns
  Some (column ∷ others)

unfoldable pub chosen_batch_in : Layout → List Dictionary → Entry → Option ℕ → List ℕ → flat.TablePlace → Option (List (List Slot))
chosen_batch_in layout standing entry limit columns table = do
  source ← source_in layout.is_little_endian entry table
  found ← chosen_columns layout standing source limit columns
  _ ← guard (agree_in_length found)
  Some found

-- how many rows may still be taken
abbrev pub left_of : Option ℕ → ℕ → Option ℕ
left_of None rows = None
left_of (Some limit) rows = Some (limit - rows)

abbrev pub chosen_batches_with : Layout → List Dictionary → Entry → Option ℕ → List ℕ
    → (List Dictionary → Option ℕ → Option (List (List (List Slot)))) → message.Header → Option (List (List (List Slot)))
chosen_batches_with layout standing entry limit columns rest (message.schema table) = None
chosen_batches_with layout standing entry limit columns rest (message.dictionary_batch table) = do
  dictionary ← dictionary_in layout standing entry table
  rest (dictionary ∷ standing) limit
chosen_batches_with layout standing entry limit columns rest (message.record_batch table) = do
  found ← chosen_batch_in layout standing entry limit columns table
  batches ← rest standing (left_of limit (rows_of_columns found))
  Some (found ∷ batches)

-- the chosen columns of messages, each under what is left of the limit
abbrev pub chosen_batches : Layout → List ℕ → List Dictionary → Option ℕ → List Entry → Option (List (List (List Slot)))
chosen_batches layout columns standing limit [] = Some []
chosen_batches layout columns standing limit (entry ∷ others) =
    chosen_batches_with layout standing entry limit columns (λ now left. chosen_batches layout columns now left others) entry.header

-- the table of the chosen columns, in the asked order, of the first rows; nothing where a column isn't there
unfoldable pub choice_of : Form → List ℕ → List ℕ → Option ℕ → Option Table
choice_of form bytes columns limit = do
  contents ← contents_of form bytes
  _ ← guard (list_all (λ k. nat_lt k (length (normalised contents.schema.schema).fields)) columns)
  batches ← chosen_batches (layout_of contents.schema) columns [] limit contents.entries
  _ ← guard (nat_lt (length (rows_of_batches batches)) (2 ^ 64))
  Some (record {
    schema = record (normalised contents.schema.schema) { fields = chosen columns (normalised contents.schema.schema).fields };
    rows = rows_of_batches batches;
  })
