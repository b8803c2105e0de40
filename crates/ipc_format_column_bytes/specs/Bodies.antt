-- What columns are written to, and what it is with a column behind it (Arrow IPC, "RecordBatch message").
use Rattle.std.specs.Prelude.{◌≡◌, ◌⊎◌, ℕ, ◌+◌, ◌≤◌, ◌^◌, ◌||◌, ℤ, pos, ◌+ℤ◌, Bool, true, List, [], ◌∷◌, ◌++◌, length, map, nat_le, sum_by, take, drop}
use Rattle.std.specs.Prelude.{Option, Result, Ok, Err}
use Rattle.std.specs.Int.{next_multiple_of}
use Rattle.std.specs.List.{list_any}
use Rattle.ipc_format_streams.specs.columnar_memory.declared.Error.{Error}
use Rattle.ipc_format_streams.specs.columnar_memory.declared.Error.TheVariants.{Overflow, OutOfMemory}
use Rattle.ipc_format_streams.specs.columns.StoredColumns.{place_of}
use Rattle.ipc_format_streams.specs.grammar.Encoding.{Encoded}
use Rattle.ipc_format_streams.specs.grammar.StoredEncoding.{mask_bytes, node_over}
use Rattle.ipc_format_streams.specs.grammar.WrittenMessages.{body_bytes, buffer_places}
use Rattle.ipc_format_streams.specs.messages.declared.FieldNode.{FieldNode}
use Rattle.ipc_format_streams.specs.messages.declared.Buffer.{Buffer}
use Rattle.ipc_format_column_bytes.specs.Appends.{BeginsWith}
use Rattle.ipc_format_column_bytes.specs.declared.body.Body.{Body}
use Rattle.ipc_format_column_bytes.specs.declared.body.Lengths.{Lengths}

-- the nodes and buffers of a batch, the bytes of its body, and where the next buffer begins in it
pub record Parts : Type 0 where
  pub nodes : List FieldNode
  pub buffers : List Buffer
  pub bytes : List ℕ
  pub offset : ℤ

abbrev pub parts : List FieldNode → List Buffer → List ℕ → ℤ → Parts
parts nodes buffers bytes offset = record { nodes = nodes; buffers = buffers; bytes = bytes; offset = offset }

abbrev pub parts_of : Body → Parts
parts_of body = parts body.nodes.items body.buffers.items body.bytes.items (pos body.offset)

-- a node and a buffer as they state two numbers
abbrev pub stated_node : ℕ × ℕ → FieldNode
stated_node node = record { length = pos node.0; null_count = pos node.1 }

abbrev pub stated_buffer : ℕ × ℕ → Buffer
stated_buffer place = record { offset = pos place.0; length = pos place.1 }

-- a column's nodes and buffers behind others, and its bytes behind theirs
abbrev pub with_column : Parts → Encoded → Parts
with_column parts column = record {
  nodes = parts.nodes ++ map stated_node column.nodes;
  buffers = parts.buffers ++ map stated_buffer (buffer_places (place_of parts.offset) column.buffers);
  bytes = parts.bytes ++ body_bytes column.buffers;
  offset = parts.offset +ℤ pos (length (body_bytes column.buffers));
}

-- what a node and a buffer state are signed numbers of eight bytes, which are below this
abbrev pub signed_limit : ℕ
signed_limit = 2 ^ 63

abbrev pub is_long_node : ℕ × ℕ → Bool
is_long_node node = nat_le signed_limit node.0 || nat_le signed_limit node.1

-- a number of a node, or where the last buffer ends, is past what is stated
abbrev pub IsTooLong : ℕ → Encoded → Type 0
IsTooLong offset column = (list_any is_long_node column.nodes ≡ true) ⊎ (signed_limit ≤ offset + length (body_bytes column.buffers))

-- why a column is not written behind others
abbrev pub IsRefused : Error → ℕ → Encoded → Type 0
IsRefused Overflow offset column = IsTooLong offset column
IsRefused OutOfMemory offset column = Unit {0}
IsRefused _ offset column = ⊥

-- how many bytes buffers take up that stand one behind the other: each ends at a multiple of 64
abbrev pub taken_up : List Buffer → ℕ
taken_up buffers = sum_by (λ buffer. next_multiple_of (place_of buffer.length) 64) buffers

-- the first parts stand at the beginning of others, whose next buffer begins behind all buffers that stand there
pub record BeginsWithParts (before after : Parts) : Type 0 where
  pub nodes : BeginsWith before.nodes after.nodes
  pub buffers : BeginsWith before.buffers after.buffers
  pub bytes : BeginsWith before.bytes after.bytes
  pub offset : place_of after.offset + taken_up before.buffers ≡ place_of before.offset + taken_up after.buffers

-- a column stands behind others; or it is refused, and something stands there
abbrev pub Adds : Result (Unit {0}) Error → Parts → Parts → Encoded → Type 0
Adds (Ok _) before after column = after ≡ with_column before column
Adds (Err error) before after column = IsRefused error (place_of before.offset) column × BeginsWithParts before after

-- a column's node alone, and some of its buffers alone
abbrev pub of_node : ℕ → ℕ → Encoded
of_node slots nulls = record { nodes = (slots, nulls) ∷ []; buffers = [] }

abbrev pub of_buffers : List (List ℕ) → Encoded
of_buffers buffers = record { nodes = []; buffers = buffers }

-- the node of slots under a mask, and the buffer of its marks
abbrev pub of_slots : ℕ → Option (List Bool) → Encoded
of_slots n mask = record { nodes = node_over n mask ∷ []; buffers = mask_bytes mask ∷ [] }

-- a part of a column, and another behind it
abbrev pub both : Encoded → Encoded → Encoded
both first second = record { nodes = first.nodes ++ second.nodes; buffers = first.buffers ++ second.buffers }

-- the same parts with the bytes before a place alone
abbrev pub before_place : ℕ → Parts → Parts
before_place start parts = record { nodes = parts.nodes; buffers = parts.buffers; bytes = take start parts.bytes; offset = parts.offset }

-- the bytes from a place on are ended as a buffer
abbrev pub EndsBuffer : Result (Unit {0}) Error → Parts → Parts → ℕ → Type 0
EndsBuffer result before after start = Adds result (before_place start before) after (of_buffers (drop start before.bytes ∷ []))

-- so many of the first nodes, buffers and bytes, under an offset
abbrev pub firsts : Lengths → ℤ → Parts → Parts
firsts begun offset parts = record {
  nodes = take begun.nodes parts.nodes;
  buffers = take begun.buffers parts.buffers;
  bytes = take begun.bytes parts.bytes;
  offset = offset;
}

-- What is given back after a call that answered so: all parts; or, where the call was refused or the offset is past what is stated, those that
-- there were before it.
abbrev pub GivesBack : Result (Unit {0}) Error → Parts → Lengths → ℤ → Result (Unit {0}) Error → Parts → Type 0
GivesBack (Ok _) now begun offset (Ok _) after = after ≡ now
GivesBack (Ok _) now begun offset (Err error) after = (error ≡ Overflow) × (signed_limit ≤ place_of now.offset) × (after ≡ firsts begun offset now)
GivesBack (Err _) now begun offset (Ok _) after = ⊥
GivesBack (Err error) now begun offset (Err refusal) after = (refusal ≡ error) × (after ≡ firsts begun offset now)

-- a column stands behind others; or it is refused, and all is as it was
abbrev pub Settles : Result (Unit {0}) Error → Parts → Parts → Encoded → Type 0
Settles (Ok _) before after column = after ≡ with_column before column
Settles (Err error) before after column = IsRefused error (place_of before.offset) column × (after ≡ before)
