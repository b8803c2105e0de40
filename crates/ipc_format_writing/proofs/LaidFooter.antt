-- What is laid of a footer.
use Rattle.std.proofs.Common.{◌≡◌, ◌∙◌, ℕ, ◌*◌, List, [], ◌∷◌, ◌++◌, length, map, true, refl, sym, ap, subst, arith, length-append, append_assoc}
use Rattle.std.proofs.lemmas.List.{length-map}
use Rattle.std.proofs.lemmas.List.Folds.{flat_map-map}
use Rattle.std.specs.Prelude.{Result, Ok, Err}
use Rattle.std.specs.declared.vec.Vec.{Vec}
use Rattle.std.specs.declared.alloc.Global.{Global}
use Rattle.std.specs.List.{flat_map}
use Rattle.std.specs.Int.{w16, w32, w64, to_le_bytes, cast_unsigned}
use Rattle.ipc_format_messages.specs.columnar_memory.declared.Error.{Error}
use Rattle.ipc_format_messages.specs.columnar_memory.declared.Error.TheVariants.{NotYetImplemented, InvalidArgumentError, Overflow, OutOfMemory}
use Rattle.ipc_format_messages.specs.columnar_memory.declared.Schema.{Schema}
use Rattle.ipc_format_messages.specs.flatbuffers.declared.Laid.{Laid}
use Rattle.ipc_format_messages.specs.flatbuffers.declared.LayError.{LayError}
use Rattle.ipc_format_messages.specs.flatbuffers.declared.LayError.TheVariants.{Memory, TooLong}
use Rattle.ipc_format_messages.specs.flatbuffers.Laying.{Piece, TableSlot, absent, number, refers, elements_piece}
use Rattle.ipc_format_messages.specs.flatbuffers.Objects.{piece_of}
use Rattle.ipc_format_messages.specs.flatbuffers.Views.{Lays, piece_view}
use Rattle.ipc_format_messages.specs.grammar.Schemas.{IdsList}
use Rattle.ipc_format_messages.specs.grammar.SchemaObjects.{schema_object}
use Rattle.ipc_format_messages.specs.grammar.WrittenFiles as files
use Rattle.ipc_format_writing.specs.Writing.{may_write, RefusesSchema}
use Rattle.ipc_format_messages.specs.declared.Block.{Block}
use Rattle.ipc_format_writing.specs.FooterWriting.{WritesFooter, FinishesFooter, block_view, laid_block}
use Rattle.ipc_format_writing.proofs.Laid.{length-is, bytes-are}

-- ---- blocks

block-length : (block : Block) → length (laid_block block) ≡ 24
unfolding laid_block
block-length block = refl

-- a block is written number by number
pub block-written : (block : Block) (out first second third last : List ℕ)
    → first ≡ out ++ to_le_bytes w64 (cast_unsigned w64 block.offset)
    → second ≡ first ++ to_le_bytes w32 (cast_unsigned w32 block.meta_data_length)
    → third ≡ second ++ to_le_bytes w32 0
    → last ≡ third ++ to_le_bytes w64 (cast_unsigned w64 block.body_length)
    → last ≡ out ++ laid_block block
unfolding laid_block
block-written block out first second third last one two three four =
    let a : List ℕ = to_le_bytes w64 (cast_unsigned w64 block.offset) in
    let b : List ℕ = to_le_bytes w32 (cast_unsigned w32 block.meta_data_length) in
    let c : List ℕ = to_le_bytes w32 0 in
    let d : List ℕ = to_le_bytes w64 (cast_unsigned w64 block.body_length) in
    four ∙ ap (λ bytes. bytes ++ d) (three ∙ ap (λ bytes. bytes ++ c) (two ∙ ap (λ bytes. bytes ++ b) one ∙ append_assoc out a b)
    ∙ append_assoc out (a ++ b) c)
    ∙ append_assoc out (a ++ b ++ c) d

-- the bytes of some blocks are 24 of each
pub blocks-length : (blocks : List Block) → length (flat_map laid_block blocks) ≡ 24 * length blocks
blocks-length [] = refl
blocks-length (block ∷ blocks) =
    omega (arith, block-length block, length-append (laid_block block) (flat_map laid_block blocks), blocks-length blocks)

-- their vector
blocks-are : (blocks : List Block) → piece_of (files.blocks_object (map block_view blocks))
    ≡ elements_piece (length blocks) (flat_map laid_block blocks)
unfolding laid_block
blocks-are blocks =
    ap (λ (count : ℕ). elements_piece count (flat_map files.block_bytes (map block_view blocks))) (length-map blocks block_view)
    ∙ ap (λ (content : List ℕ). elements_piece (length blocks) content) (flat_map-map files.block_bytes block_view blocks)

pub blocks-made : (blocks : List Block) (content : List ℕ) (result : Result Laid LayError) → content ≡ flat_map laid_block blocks
    → Lays result (elements_piece (length blocks) content) → Lays result (piece_of (files.blocks_object (map block_view blocks)))
blocks-made blocks content result same h =
    let P : Piece → Type 0 = λ p. Lays result p in
    subst P (ap (λ (bytes : List ℕ). elements_piece (length blocks) bytes) same ∙ sym (blocks-are blocks)) h

-- ---- the footer

abbrev pub header_of : Schema → IdsList → Piece
header_of schema ids = piece_of (schema_object schema ids)

abbrev pub vector_of : List Block → Piece
vector_of blocks = piece_of (files.blocks_object (map block_view blocks))

abbrev pub footer_slots : Schema → IdsList → List Block → List Block → List TableSlot
footer_slots schema ids dictionaries batches =
    number w16 4 ∷ refers (header_of schema ids) ∷ refers (vector_of dictionaries) ∷ refers (vector_of batches) ∷ absent ∷ []

-- what kept a schema from being written keeps the footer from it
pub footer-refused : (error : Error) (schema : Schema) (ids : IdsList) (blocks : files.Blocks) → RefusesSchema error schema ids
    → WritesFooter (Err error) schema ids blocks
footer-refused (NotYetImplemented what) schema ids blocks h = h
footer-refused (InvalidArgumentError what) schema ids blocks h = h
footer-refused error schema ids blocks h = absurd h

-- what comes of a footer that is laid, or isn't
pub footer-answered : (result : Result (Vec ℕ Global) Error) (made : Result Laid LayError) (schema : Schema) (ids : IdsList) (blocks : files.Blocks)
    → may_write schema ids ≡ true → Lays made (piece_of (files.footer_object schema ids blocks)) → FinishesFooter result made
    → WritesFooter result schema ids blocks
footer-answered (Ok bytes) (Ok root) schema ids blocks may is h = (
  may,
  omega (arith, length-is (files.footer_object schema ids blocks), ap (λ (p : Piece). length p.bytes) is, h.0),
  bytes-are (files.footer_object schema ids blocks) (piece_view root) bytes.items is h.1,
)
footer-answered (Ok bytes) (Err error) schema ids blocks may is h = absurd h
footer-answered (Err Overflow) (Ok root) schema ids blocks may is h = (
  may,
  omega (arith, length-is (files.footer_object schema ids blocks), ap (λ (p : Piece). length p.bytes) is, h),
)
footer-answered (Err Overflow) (Err TooLong) schema ids blocks may is h = (
  may,
  omega (arith, length-is (files.footer_object schema ids blocks), is),
)
footer-answered (Err Overflow) (Err Memory) schema ids blocks may is h = absurd h
footer-answered (Err OutOfMemory) made schema ids blocks may is h = tt
footer-answered (Err error) (Ok root) schema ids blocks may is h = absurd h
footer-answered (Err error) (Err refused) schema ids blocks may is h = absurd h
