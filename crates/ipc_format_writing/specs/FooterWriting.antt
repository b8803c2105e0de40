-- What is written of a footer, and why one is not.
use Rattle.std.specs.Prelude.{◌≡◌, ℕ, ◌≤◌, ◌<◌, ◌^◌, true, List, length, map, Result, Ok, Err}
use Rattle.std.specs.Int.{w32, w64, cast_unsigned}
use Rattle.std.specs.declared.vec.Vec.{Vec}
use Rattle.std.specs.declared.alloc.Global.{Global}
use Rattle.ipc_format_messages.specs.columnar_memory.declared.Error.{Error}
use Rattle.ipc_format_messages.specs.columnar_memory.declared.Error.TheVariants.{Overflow, OutOfMemory}
use Rattle.ipc_format_messages.specs.columnar_memory.declared.Schema.{Schema}
use Rattle.ipc_format_messages.specs.flatbuffers.Laying.{message_bytes}
use Rattle.ipc_format_messages.specs.flatbuffers.Objects.{laid}
use Rattle.ipc_format_messages.specs.flatbuffers.Views.{piece_view}
use Rattle.ipc_format_messages.specs.flatbuffers.declared.Laid.{Laid}
use Rattle.ipc_format_messages.specs.flatbuffers.declared.LayError.{LayError}
use Rattle.ipc_format_messages.specs.flatbuffers.declared.LayError.TheVariants.{TooLong}
use Rattle.ipc_format_messages.specs.grammar.Schemas.{IdsList}
use Rattle.ipc_format_messages.specs.grammar.WrittenFiles as files
use Rattle.ipc_format_writing.specs.Writing.{may_write, RefusesSchema}
use Rattle.ipc_format_messages.specs.declared.Block.{Block}

-- a block as it is written: where its message begins, how many bytes stand before its body, and how many its body has
abbrev pub block_view : Block → files.WrittenBlock
block_view block = record {
  offset = cast_unsigned w64 block.offset;
  metadata_length = cast_unsigned w32 block.meta_data_length;
  body_length = cast_unsigned w64 block.body_length;
}

abbrev pub blocks_view : List Block → List Block → files.Blocks
blocks_view dictionaries record_batches =
    record { dictionaries = map block_view dictionaries; record_batches = map block_view record_batches }

-- a footer is below 2 GiB, since its length is written as a signed number of four bytes
abbrev pub footer_limit : ℕ
footer_limit = 2 ^ 31

-- The footer is that of the schema and the blocks; or the schema or its ids are refused; or the footer is too long; or memory ran out.
abbrev pub WritesFooter : Result (Vec ℕ Global) Error → Schema → IdsList → files.Blocks → Type 0
WritesFooter (Ok bytes) schema ids blocks = (may_write schema ids ≡ true) × (length (laid (files.footer_object schema ids blocks)) < footer_limit)
    × (bytes.items ≡ laid (files.footer_object schema ids blocks))
WritesFooter (Err Overflow) schema ids blocks = (may_write schema ids ≡ true) × (footer_limit ≤ length (laid (files.footer_object schema ids blocks)))
WritesFooter (Err OutOfMemory) schema ids blocks = Unit {0}
WritesFooter (Err error) schema ids blocks = RefusesSchema error schema ids

-- ---- steps of the writing

-- the bytes of a block
unfoldable pub laid_block : Block → List ℕ
laid_block block = files.block_bytes (block_view block)

-- so many bytes at most has the object of a footer: 8 stand before it
abbrev pub most_object : ℕ
most_object = 2147483639

-- the bytes of a footer whose object is laid; or it is too long; or memory ran out
abbrev pub FinishesFooter : Result (Vec ℕ Global) Error → Result Laid LayError → Type 0
FinishesFooter (Ok bytes) (Ok root) = (length root.bytes.items ≤ most_object) × (bytes.items ≡ message_bytes (piece_view root))
FinishesFooter (Err Overflow) (Ok root) = most_object < length root.bytes.items
FinishesFooter (Err Overflow) (Err TooLong) = Unit {0}
FinishesFooter (Err OutOfMemory) laid = Unit {0}
FinishesFooter _ laid = ⊥
