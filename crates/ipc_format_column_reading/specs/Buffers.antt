-- The buffers of a queue as the format has them, and the values in their bytes.
use Rattle.std.specs.Prelude.{ℕ, ◌+◌, ◌*◌, ◌/◌, Bool, true, List, [], ◌∷◌, map, Option, Some, None, int_lt, pos, slice_get}
use Rattle.std.specs.Prelude.{if◌then◌else◌}
use Rattle.ipc_format_column_bytes.specs.streams.columnar_memory.Bits.{bits_of}
use Rattle.ipc_format_column_bytes.specs.streams.columnar_memory.Windows.{window}
use Rattle.ipc_format_column_bytes.specs.streams.columnar_memory.Numbers.{Numbers, numbers_in, kind_size}
use Rattle.ipc_format_column_bytes.specs.streams.columnar_memory.declared.PrimitiveType.{PrimitiveType}
use Rattle.ipc_format_column_bytes.specs.streams.flatbuffers.Reading.{◌>>=◌}
use Rattle.ipc_format_column_bytes.specs.streams.grammar.Messages as format
use Rattle.ipc_format_column_bytes.specs.streams.grammar.Messages.{V5, natural}
use Rattle.ipc_format_column_bytes.specs.streams.grammar.Columns as columns
use Rattle.ipc_format_column_bytes.specs.streams.grammar.Columns.{Source, buffer_at}
use Rattle.ipc_format_column_bytes.specs.streams.grammar.Values.{element_bytes}
use Rattle.ipc_format_column_bytes.specs.streams.messages.declared.values.Buffer.{Buffer}
use Rattle.ipc_format_column_bytes.specs.streams.messages.declared.values.FieldNode.{FieldNode}

abbrev pub buffer_of : Buffer → format.Buffer
buffer_of buffer = record { offset = buffer.offset; length = buffer.length }

abbrev pub node_of : FieldNode → format.FieldNode
node_of node = record { length = node.length; null_count = node.null_count }

-- a batch whose nodes and buffers stand in queues
abbrev pub source_of : List FieldNode → List Buffer → Bool → List ℕ → ℕ → Source
source_of nodes buffers is_little_endian room origin = record {
  nodes = map node_of nodes;
  buffers = map buffer_of buffers;
  version = V5;
  is_little_endian = is_little_endian;
  room = room;
  origin = origin;
}

-- the bytes that are needed of the next buffer
abbrev pub next_window : List Buffer → ℕ → ℕ → List ℕ → Option (List ℕ)
next_window buffers origin needed room = buffer_at (source_of [] buffers true room origin) 0 needed

-- where the next buffer begins, and how many bytes it states
abbrev pub next_stated : List Buffer → Option (ℕ × ℕ)
next_stated [] = None
next_stated (buffer ∷ others) = do
  offset ← natural buffer.offset
  stated ← natural buffer.length
  Some (offset, stated)

-- the first values of a kind that some bytes spell
abbrev pub values_in : PrimitiveType → Bool → ℕ → List ℕ → List Numbers
values_in kind is_little_endian count bytes = window (λ i. numbers_in kind is_little_endian (element_bytes (kind_size kind) bytes i)) 0 count

-- the first values of the next buffer
abbrev pub next_values : PrimitiveType → Bool → List Buffer → ℕ → ℕ → List ℕ → Option (List Numbers)
next_values kind is_little_endian buffers origin count room = do
  bytes ← next_window buffers origin (count * kind_size kind) room
  Some (values_in kind is_little_endian count bytes)

-- the first bits of the next buffer
abbrev pub next_bits : List Buffer → ℕ → ℕ → List ℕ → Option (List Bool)
next_bits buffers origin count room = do
  bytes ← next_window buffers origin ((count + 7) / 8) room
  Some (bits_of bytes 0 count)

-- how many slots are taken of a column
abbrev pub taken_in : Option ℕ → FieldNode → Option ℕ
taken_in limit node = do
  count ← natural node.length
  Some (columns.taken_of limit count)

-- The validity of the slots that are taken of a column: bits where its node counts nulls, and else none.
abbrev pub next_validity : FieldNode → Option ℕ → List Buffer → ℕ → List ℕ → Option (Option (List Bool))
next_validity node limit buffers origin room = do
  taken ← taken_in limit node
  _ ← slice_get buffers 0
  if int_lt (pos 0) node.null_count then (do
    bits ← next_bits buffers origin taken room
    Some (Some bits)) else Some None
