-- Written messages (Arrow IPC, "Encapsulated message format", "RecordBatch message", "Dictionary Messages").
use Rattle.std.specs.Prelude.{ℕ, ◌+◌, ◌-◌, ◌^◌, Bool, ◌&&◌, List, [], ◌∷◌, ◌++◌, length, replicate, nat_le, nat_lt}
use Rattle.std.specs.List.{flat_map}
use Rattle.std.specs.Int.{w32, to_le_bytes, next_multiple_of}
use Rattle.ipc_format_flatbuffers.specs.Objects.{Object, laid}
use Rattle.nested_arrays_columns.specs.columnar_memory.declared.Schema.{Schema}
use Rattle.ipc_format_grammar.specs.Schemas.{IdsList}
use Rattle.ipc_format_grammar.specs.SchemaObjects.{message_object, schema_message, record_batch_object, dictionary_batch_object}
use Rattle.ipc_format_grammar.specs.Encoding.{Encoded, joined_columns}
use Rattle.ipc_format_grammar.specs.GivenDictionaries.{Given}
use Rattle.ipc_format_grammar.specs.TagNumbers.{dictionary_tag, record_tag}

-- a message as it is written: its metadata, a whole number of eights of bytes, and its body
pub record Written : Type 0 where
  pub metadata : List ℕ
  pub body : List ℕ

-- the bytes before the metadata: the continuation marker, and the length of the metadata
abbrev pub prefix_size : ℕ
prefix_size = 8

abbrev pub continuation_marker : List ℕ
continuation_marker = replicate 4 255

-- the bytes of a message
abbrev pub framed : List ℕ → List ℕ → List ℕ
framed metadata body = continuation_marker ++ to_le_bytes w32 (length metadata) ++ metadata ++ body

abbrev pub message_bytes : Written → List ℕ
message_bytes message = framed message.metadata message.body

-- with its prefix a message's metadata has at most so many bytes
abbrev pub most_metadata : ℕ
most_metadata = 2147483640

-- a body is shorter than this, since its length is written as a signed number of eight bytes
abbrev pub body_limit : ℕ
body_limit = 2 ^ 63

abbrev pub fits_limit : Written → Bool
fits_limit message = nat_lt (length message.body) body_limit && nat_le (prefix_size + length message.metadata) most_metadata

-- what ends a stream
abbrev pub end_mark : List ℕ
end_mark = continuation_marker ++ replicate 4 0

-- ---- bodies

-- zeros up to the next multiple of 64
abbrev pub padded_buffer : List ℕ → List ℕ
padded_buffer bytes = bytes ++ replicate (next_multiple_of (length bytes) 64 - length bytes) 0

-- where each buffer begins in the body, and how many bytes it states
abbrev pub buffer_places : ℕ → List (List ℕ) → List (ℕ × ℕ)
buffer_places offset [] = []
buffer_places offset (bytes ∷ buffers) = (offset, length bytes) ∷ buffer_places (offset + length (padded_buffer bytes)) buffers

abbrev pub body_bytes : List (List ℕ) → List ℕ
body_bytes buffers = flat_map padded_buffer buffers

-- ---- messages

-- a record batch of so many rows
abbrev pub batch_object : ℕ → Encoded → Object
batch_object rows columns = record_batch_object rows columns.nodes (buffer_places 0 columns.buffers)

abbrev pub message_of : ℕ → Object → List (List ℕ) → Written
message_of tag header buffers = record {
  metadata = laid (message_object tag header (length (body_bytes buffers)));
  body = body_bytes buffers;
}

unfoldable pub record_message : ℕ → List Encoded → Written
record_message rows columns = message_of record_tag (batch_object rows (joined_columns columns)) (joined_columns columns).buffers

unfoldable pub dictionary_message : Given → Written
dictionary_message given =
    message_of dictionary_tag (dictionary_batch_object given.id (batch_object (length given.slots) given.column)) given.column.buffers

unfoldable pub schema_written : Schema → IdsList → Written
schema_written schema ids = record { metadata = laid (schema_message schema ids); body = [] }
