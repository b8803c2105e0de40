-- What a file's footer says before any message is read (Arrow IPC, "IPC File Format").
use Rattle.std.specs.Prelude.{List, map, Option, Some, ℕ}
use Rattle.std.specs.declared.alloc.Global.{Global}
use Rattle.std.specs.declared.vec.Vec.{Vec}
use Rattle.ipc_format_chunk_writing.specs.flatbuffers.FlatBuffers.{root_of, vector_field}
use Rattle.ipc_format_chunk_writing.specs.flatbuffers.Reading.{◌>>=◌}
use Rattle.ipc_format_chunk_writing.specs.grammar.Dictionaries.{Layout}
use Rattle.ipc_format_chunk_writing.specs.grammar.Files.{Block, blocks_if, blocks_of, footer_in}
use Rattle.ipc_format_chunk_writing.specs.grammar.SchemaGrammar.{schema_in}
use Rattle.ipc_format_chunk_writing.specs.grammar.Schemas.{SchemaIn}
use Rattle.ipc_format_chunk_writing.specs.grammar.SlotNumbers as slots
use Rattle.ipc_format_chunk_writing.specs.grammar.Tables.{layout_of}
use Rattle.ipc_format_chunk_writing.specs.metadata.SchemaViews.{schema_view}
use Rattle.ipc_format_readers.specs.declared.file_metadata.FileMetadata.{FileMetadata}
use Rattle.ipc_format_readers.specs.declared.blocks.MessageBlock.{MessageBlock}

-- the schema, and where the messages of dictionaries and of record batches stand
pub record Start : Type 0 where
  pub schema : SchemaIn
  pub dictionaries : List Block
  pub record_batches : List Block

-- the blocks of a footer: those of dictionaries, which may be absent, and those of record batches
abbrev pub blocks_in : List ℕ → Option (List Block × List Block)
blocks_in footer = do
  root ← root_of footer
  found_dictionaries ← vector_field footer root slots.footer_dictionaries slots.block_size
  dictionaries ← blocks_if footer found_dictionaries
  found_batches ← vector_field footer root slots.footer_record_batches slots.block_size
  vector ← found_batches
  record_batches ← blocks_of footer vector
  Some (dictionaries, record_batches)

-- what a file's footer says
abbrev pub start_in : List ℕ → Option Start
start_in bytes = do
  footer ← footer_in bytes
  found ← schema_in footer.bytes footer.schema
  Some (record { schema = found; dictionaries = footer.dictionaries; record_batches = footer.record_batches })

-- ---- the values of the code as the definitions have them

abbrev pub block_view : MessageBlock → Block
block_view block = record { offset = block.offset; metadata_length = block.metadata_length; body_length = block.body_length }

abbrev pub blocks_view : Vec MessageBlock Global → List Block
blocks_view blocks = map block_view blocks.items

-- what a file's metadata say
abbrev pub start_view : FileMetadata → Start
start_view metadata = record {
  schema = schema_view (metadata.schema, metadata.ipc_schema);
  dictionaries = blocks_view metadata.dictionaries;
  record_batches = blocks_view metadata.blocks;
}

-- how the columns of a file lie
abbrev pub layout_in : FileMetadata → Layout
layout_in metadata = layout_of (schema_view (metadata.schema, metadata.ipc_schema))
