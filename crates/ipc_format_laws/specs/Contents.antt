-- What a stream holds that was written of a schema and of batches (Arrow IPC, "IPC Streaming Format", "Dictionary Messages").
use Rattle.std.specs.Prelude.{◌≡◌, ℕ, ◌≤◌, List, [], ◌∷◌, ◌++◌, length, map, true, Some}
use Rattle.std.specs.List.{All}
use Rattle.ipc_format_grammar.specs.flatbuffers.FlatBuffers.{TablePlace}
use Rattle.ipc_format_grammar.specs.columnar_memory.declared.Schema.{Schema}
use Rattle.ipc_format_grammar.specs.Messages as grammar
use Rattle.ipc_format_grammar.specs.Messages.{Header, V5}
use Rattle.ipc_format_grammar.specs.Schemas.{SchemaIn, IdsList}
use Rattle.ipc_format_grammar.specs.Writable.{normalised}
use Rattle.ipc_format_grammar.specs.Framing.{Framed, Stream, messages_of}
use Rattle.ipc_format_grammar.specs.Limits.{most_dictionaries}
use Rattle.ipc_format_grammar.specs.Tables.{stream, stream_entry, contents_of}
use Rattle.ipc_format_grammar.specs.Encoding.{joined_columns}
use Rattle.ipc_format_grammar.specs.GivenDictionaries.{Given, to_write, written_after}
use Rattle.ipc_format_grammar.specs.WrittenMessages.{Written, buffer_places, record_message, dictionary_message}
use Rattle.ipc_format_grammar.specs.WrittenStreams.{Batch, Chunk, batches_written, stream_messages, written_stream}
use Rattle.ipc_format_laws.specs.BatchMessages.{IsRecordBatch, IsDictionaryBatch}
use Rattle.ipc_format_laws.specs.Schemas.{HasTexts, ids_read}
use Rattle.ipc_format_laws.specs.Messages.{as_written, all_written}

-- a message that is read is the one that was written, with a header of a kind, whose table has something
pub record IsMessageOf (message : Written) (kind : TablePlace → Header) (HasTable : TablePlace → Type 0) (read : Framed) : Type 0 where
  pub written : as_written read ≡ message
  pub table : TablePlace
  pub header : read.header ≡ kind table
  pub has_table : HasTable table

-- messages are those of some things, one for one
abbrev pub AreThoseOf : {X : Type 0} → (X → Framed → Type 0) → List X → List Framed → Type 0
AreThoseOf IsThatOf [] [] = Unit {0}
AreThoseOf IsThatOf (x ∷ xs) (message ∷ messages) = IsThatOf x message × AreThoseOf IsThatOf xs messages
AreThoseOf IsThatOf _ _ = ⊥

-- the schema that is read where one is written, with its ids: its one form
abbrev pub schema_read : Schema → IdsList → SchemaIn
schema_read schema below = record { schema = normalised schema; ids = ids_read schema below; is_little_endian = true }

-- Bytes have the messages of a stream that was written, those behind the schema's being of some kind. What they hold is the schema in its
-- one form, with the ids that are read beside its fields, and an entry a message.
pub record HoldsStream (bytes : List ℕ) (schema : Schema) (below : IdsList) (batches : List Batch) (AreLater : List Framed → Type 0) : Type 0 where
  pub messages : Stream
  pub read : messages_of bytes ≡ Some messages
  pub written : all_written messages ≡ stream_messages schema below batches
  pub later : AreLater messages.later
  pub contents : contents_of stream bytes
      ≡ Some (record { schema = schema_read schema below; entries = map (stream_entry V5) messages.later })

-- ---- batches of columns of any type, and the dictionaries that they bring

-- the message of a batch
abbrev pub batch_message : Batch → Written
batch_message batch = record_message batch.rows batch.columns

-- a table in a batch's message has the nodes of the batch's columns, and tells where their buffers stand in the body
abbrev pub HasColumns : Batch → TablePlace → Type 0
HasColumns batch table = IsRecordBatch (batch_message batch).metadata table (joined_columns batch.columns).nodes
    (buffer_places 0 (joined_columns batch.columns).buffers)

-- a table in a dictionary's message has its id, the nodes of its values, and tells where their buffers stand in the body
abbrev pub HasValues : Given → TablePlace → Type 0
HasValues given table =
    IsDictionaryBatch (dictionary_message given).metadata table given.id given.column.nodes (buffer_places 0 given.column.buffers)

-- what is sent behind a schema: a dictionary, or a batch
pub data Sent : Type 0 where
  dictionary : Given → Sent
  batch : Batch → Sent

abbrev pub IsOfSent : Sent → Framed → Type 0
IsOfSent (dictionary given) = IsMessageOf (dictionary_message given) grammar.dictionary_batch (HasValues given)
IsOfSent (batch its_batch) = IsMessageOf (batch_message its_batch) grammar.record_batch (HasColumns its_batch)

-- what is sent of batches, in order, where some dictionaries are written already, the latest first
abbrev pub sent_after : List Given → List Batch → List Sent
sent_after written [] = []
sent_after written (next ∷ batches) =
    map dictionary (to_write written next.given) ++ (batch next ∷ sent_after (written_after written next.given) batches)

-- a batch brings no more dictionaries than may stand in a row
abbrev pub BringsFew : Batch → Type 0
BringsFew its_batch = length its_batch.given ≤ most_dictionaries

-- a stream that is written of a schema and of chunks holds their batches, a message for each dictionary that is written and for each batch,
-- whatever stands behind it
abbrev pub StreamsReadBack : Type 0
StreamsReadBack = (schema : Schema) (below : IdsList) (chunks : List Chunk) (bytes behind : List ℕ)
    → written_stream schema below chunks ≡ Some bytes → HasTexts schema → All BringsFew (batches_written schema below chunks)
    → HoldsStream (bytes ++ behind) schema below (batches_written schema below chunks)
    (AreThoseOf IsOfSent (sent_after [] (batches_written schema below chunks)))
