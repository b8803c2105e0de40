-- What the readers of messages and batches answer where bytes spell the objects that are written for them.
use Rattle.std.specs.Prelude.{◌≡◌, ℕ, ◌<◌, ◌^◌, ℤ, pos, false, List, length, map, get_or, Some, sum_by, FitsSigned}
use Rattle.std.specs.Int.{w64}
use Rattle.ipc_format_grammar.specs.flatbuffers.FlatBuffers.{TablePlace, Vector}
use Rattle.ipc_format_grammar.specs.flatbuffers.Objects.{laid}
use Rattle.ipc_format_grammar.specs.Messages as grammar
use Rattle.ipc_format_grammar.specs.Messages.{Header, V5, FieldNode, Buffer, as_node, as_buffer, message_in, version_in, record_batch_in}
use Rattle.ipc_format_grammar.specs.Messages.{dictionary_batch_in, structs_in, lengths_sum}
use Rattle.ipc_format_grammar.specs.SchemaObjects.{message_object, record_batch_object, dictionary_batch_object}

-- numbers that a signed one of eight bytes has room for
abbrev pub AreSigned : List (ℕ × ℕ) → Type 0
AreSigned pairs = (k : ℕ) (d : ℕ × ℕ) → k < length pairs → ((get_or pairs k d).0 < 2 ^ 63) × ((get_or pairs k d).1 < 2 ^ 63)

-- a node and a buffer that state two numbers
abbrev pub stated_node : ℕ × ℕ → FieldNode
stated_node pair = record { length = pos pair.0; null_count = pos pair.1 }

abbrev pub stated_buffer : ℕ × ℕ → Buffer
stated_buffer pair = record { offset = pos pair.0; length = pos pair.1 }

-- a table is a record batch with such nodes and buffers
pub record IsRecordBatch (bytes : List ℕ) (found : TablePlace) (nodes buffers : List (ℕ × ℕ)) : Type 0 where
  pub nodes_at : Vector
  pub buffers_at : Vector
  pub batch : record_batch_in bytes found ≡ Some (record { nodes = nodes_at; buffers = buffers_at; is_compressed = false })
  pub nodes_are : structs_in as_node bytes nodes_at ≡ Some (map stated_node nodes)
  pub buffers_are : structs_in as_buffer bytes buffers_at ≡ Some (map stated_buffer buffers)
  pub sum_is : lengths_sum bytes buffers_at ≡ Some (sum_by (λ (pair : ℕ × ℕ). pair.1) buffers)

-- a table is a dictionary batch of an id, whose values replace earlier ones and are a record batch
pub record IsDictionaryBatch (bytes : List ℕ) (found : TablePlace) (id : ℤ) (nodes buffers : List (ℕ × ℕ)) : Type 0 where
  pub values_at : TablePlace
  pub batch : dictionary_batch_in bytes found ≡ Some (record { id = id; values = values_at; is_delta = false })
  pub values : IsRecordBatch bytes values_at nodes buffers

-- bytes are a message of version V5, with such a header's table and so many bytes in its body
pub record IsMessage (bytes : List ℕ) (header_of_table : TablePlace → Header) (body_length : ℕ) (IsHeader : TablePlace → Type 0) : Type 0 where
  pub header_at : TablePlace
  pub version : version_in bytes ≡ Some V5
  pub message : message_in bytes ≡ Some (record { header = header_of_table header_at; body_length = pos body_length })
  pub header : IsHeader header_at

-- the message of a record batch reads back
abbrev pub RecordBatchesReadBack : Type 0
RecordBatchesReadBack = (rows : ℕ) (nodes buffers : List (ℕ × ℕ)) (body_length : ℕ) → rows < 2 ^ 64 → AreSigned nodes → AreSigned buffers
    → body_length < 2 ^ 63
    → length (laid (message_object 3 (record_batch_object rows nodes buffers) body_length)) < 2 ^ 32
    → IsMessage (laid (message_object 3 (record_batch_object rows nodes buffers) body_length)) grammar.record_batch body_length
    (λ found. IsRecordBatch (laid (message_object 3 (record_batch_object rows nodes buffers) body_length)) found nodes buffers)

-- the message of a dictionary batch reads back
abbrev pub DictionaryBatchesReadBack : Type 0
DictionaryBatchesReadBack = (id : ℤ) (rows : ℕ) (nodes buffers : List (ℕ × ℕ)) (body_length : ℕ) → FitsSigned w64 id → rows < 2 ^ 64
    → AreSigned nodes → AreSigned buffers → body_length < 2 ^ 63
    → length (laid (message_object 2 (dictionary_batch_object id (record_batch_object rows nodes buffers)) body_length)) < 2 ^ 32
    → IsMessage (laid (message_object 2 (dictionary_batch_object id
    (record_batch_object rows nodes buffers)) body_length)) grammar.dictionary_batch body_length
    (λ found. IsDictionaryBatch (laid (message_object 2 (dictionary_batch_object id
    (record_batch_object rows nodes buffers)) body_length)) found id nodes buffers)
