-- Where a written column stands among the columns of a batch that is read (Arrow columnar format, "Physical Memory Layout"; Arrow IPC,
-- "RecordBatch message").
use Rattle.std.specs.Prelude.{◌≡◌, ℕ, true, List, ◌++◌, length, map, Some}
use Rattle.ipc_format_grammar.specs.flatbuffers.Reading.{window_at}
use Rattle.ipc_format_laws.specs.BatchMessages.{stated_node, stated_buffer}
use Rattle.ipc_format_grammar.specs.Columns.{Source}
use Rattle.ipc_format_grammar.specs.Encoding.{Encoded}
use Rattle.ipc_format_grammar.specs.WrittenMessages.{buffer_places, body_bytes}

-- some things stand among others, from a place on
pub record StandsAt {A : Type 0} (all : List A) (place : ℕ) (part : List A) : Type 0 where
  pub before : List A
  pub after : List A
  pub whole : all ≡ before ++ (part ++ after)
  pub at : length before ≡ place

-- a written column stands among others, from a node and a buffer on
pub record StandsAmong (all column : Encoded) (n b : ℕ) : Type 0 where
  pub nodes : StandsAt all.nodes n column.nodes
  pub buffers : StandsAt all.buffers b column.buffers

-- a batch that is read has the nodes and buffers of written columns, and their body behind its origin, little-endian
pub record HoldsColumns (source : Source) (columns : Encoded) : Type 0 where
  pub nodes : source.nodes ≡ map stated_node columns.nodes
  pub buffers : source.buffers ≡ map stated_buffer (buffer_places 0 columns.buffers)
  pub body : window_at source.room source.origin (length (body_bytes columns.buffers)) ≡ Some (body_bytes columns.buffers)
  pub order : source.is_little_endian ≡ true
