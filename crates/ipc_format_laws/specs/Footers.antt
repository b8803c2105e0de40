-- When a file's footer reads back.
use Rattle.std.specs.Prelude.{◌≡◌, ℕ, ◌<◌, ◌^◌, pos, true, List, [], ◌∷◌, ◌++◌, length, map, Some}
use Rattle.std.specs.Int.{w32, to_le_bytes}
use Rattle.ipc_format_grammar.specs.columnar_memory.declared.Schema.{Schema}
use Rattle.ipc_format_grammar.specs.flatbuffers.FlatBuffers.{TablePlace}
use Rattle.ipc_format_grammar.specs.flatbuffers.Objects.{laid}
use Rattle.ipc_format_grammar.specs.Messages.{V5, version_in}
use Rattle.ipc_format_grammar.specs.Schemas.{IdsList}
use Rattle.ipc_format_grammar.specs.Writable.{is_writable, normalised}
use Rattle.ipc_format_grammar.specs.Files as reading
use Rattle.ipc_format_grammar.specs.Files.{file_mark, footer_in}
use Rattle.ipc_format_grammar.specs.WrittenFiles.{WrittenBlock, Blocks, footer_object, file_start}
use Rattle.ipc_format_laws.specs.Schemas.{HasTexts, FitIdsList, IsSchema, ids_read}

-- a block's numbers are below what signed ones of eight bytes and of four have room for
pub record FitsBlock (block : WrittenBlock) : Type 0 where
  pub offset_fits : block.offset < 2 ^ 63
  pub metadata_fits : block.metadata_length < 2 ^ 31
  pub body_fits : block.body_length < 2 ^ 63

abbrev pub FitBlocks : List WrittenBlock → Type 0
FitBlocks [] = Unit {0}
FitBlocks (block ∷ blocks) = FitsBlock block × FitBlocks blocks

-- a block as it is read
abbrev pub block_read : WrittenBlock → reading.Block
block_read block = record { offset = block.offset; metadata_length = block.metadata_length; body_length = pos block.body_length }

-- a file of some messages with a footer
abbrev pub file_with : List ℕ → List ℕ → List ℕ
file_with messages footer = file_start ++ messages ++ footer ++ to_le_bytes w32 (length footer) ++ file_mark

-- The footer of a file's bytes is of version V5, and has this schema with these ids, and these blocks.
pub record HasFooter (bytes footer : List ℕ) (schema : Schema) (below : IdsList) (blocks : Blocks) : Type 0 where
  pub schema_at : TablePlace
  pub found : footer_in bytes ≡ Some (record {
    bytes = footer;
    schema = schema_at;
    dictionaries = map block_read blocks.dictionaries;
    record_batches = map block_read blocks.record_batches;
  })
  pub version : version_in footer ≡ Some V5
  pub its_schema : IsSchema footer schema below schema_at

-- the footer of a schema and of blocks reads back, the schema in its one form, whatever messages stand before it
abbrev pub FootersReadBack : Type 0
FootersReadBack = (schema : Schema) (below : IdsList) (blocks : Blocks) (messages : List ℕ) → is_writable schema ≡ true → HasTexts schema
    → FitIdsList below → FitBlocks blocks.dictionaries → FitBlocks blocks.record_batches
    → length (laid (footer_object schema below blocks)) < 2 ^ 31
    → HasFooter (file_with messages (laid (footer_object schema below blocks))) (laid (footer_object schema below blocks))
    (normalised schema) (ids_read schema below) blocks
