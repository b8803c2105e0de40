-- The blocks of a file that is read fit a footer where they are written again.
use Rattle.std.proofs.Common.{◌≡◌, ◌∙◌, ℕ, zero, suc, ◌+◌, ◌-◌, ◌<◌, ◌^◌, ℤ, pos, negsuc, Bool, true, false, List, [], ◌∷◌, ◌++◌, map}
use Rattle.std.proofs.Common.{refl, ap, subst, arith, nat_lt}
use Rattle.std.specs.Prelude.{Option, Some, None}
use Rattle.std.specs.Int.{w32, w64, cast_signed}
use Rattle.std.proofs.lemmas.Bool.{ltb-true}
use Rattle.std.proofs.lemmas.Option.{same_Some}
use mir.Val.{sel}
use Rattle.ipc_format_laws.specs.flatbuffers.FlatBuffers.{TablePlace, Vector, number_at, signed_at, vector_field, root_of}
use Rattle.ipc_format_laws.specs.grammar.Messages.{natural}
use Rattle.ipc_format_laws.specs.grammar.Files as read
use Rattle.ipc_format_laws.specs.grammar.Files.{Footer, block_at, blocks_from, blocks_of, blocks_if, footer_schema, footer_in}
use Rattle.ipc_format_laws.specs.grammar.WrittenFiles.{WrittenBlock}
use Rattle.ipc_format_laws.specs.grammar.AppendedFiles.{natural_or_0, kept_block}
use Rattle.ipc_format_laws.specs.Footers.{FitsBlock, FitBlocks}
use Rattle.ipc_format_laws.proofs.Firsts.{came_of, same_value}

-- ---- signed numbers that are not negative

below_half : (n m half whole : ℕ) (test : Bool) → nat_lt n half ≡ test → natural (sel test (pos n) (negsuc (whole - suc n))) ≡ Some m → m < half
below_half n m half whole true is e = subst (λ (k : ℕ). k < half) (same_Some n m e) (ltb-true n half is)
below_half n m half whole false is e = absurd cc

eight_below : (bytes : List ℕ) (place : ℕ) (z : ℤ) (m : ℕ) → signed_at w64 bytes place ≡ Some z → natural z ≡ Some m → m < 2 ^ 63
unfolding signed_at
eight_below bytes place z m e is =
    let number = came_of {A = ℕ} (number_at w64 bytes place) _ z e in
    below_half number.0 m (2 ^ 63) (2 ^ 64) (nat_lt number.0 (2 ^ 63)) refl
    (ap natural (same_value (cast_signed w64 number.0) z number.2) ∙ is)

four_below : (bytes : List ℕ) (place : ℕ) (z : ℤ) (m : ℕ) → signed_at w32 bytes place ≡ Some z → natural z ≡ Some m → m < 2 ^ 31
unfolding signed_at
four_below bytes place z m e is =
    let number = came_of {A = ℕ} (number_at w32 bytes place) _ z e in
    below_half number.0 m (2 ^ 31) (2 ^ 32) (nat_lt number.0 (2 ^ 31)) refl
    (ap natural (same_value (cast_signed w32 number.0) z number.2) ∙ is)

body_below : (bytes : List ℕ) (place : ℕ) (z : ℤ) → signed_at w64 bytes place ≡ Some z → natural_or_0 z < 2 ^ 63
body_below bytes place (pos m) e = eight_below bytes place (pos m) m e refl
body_below bytes place (negsuc m) e = omega arith

-- ---- blocks

block_fits : (bytes : List ℕ) (place : ℕ) (block : read.Block) → block_at bytes place ≡ Some block → FitsBlock (kept_block block)
unfolding block_at
block_fits bytes place block e =
    let stated_offset = came_of {A = ℤ} (signed_at w64 bytes place) _ block e in
    let offset = came_of {A = ℕ} (natural stated_offset.0) _ block stated_offset.2 in
    let stated_length = came_of {A = ℤ} (signed_at w32 bytes (place + 8)) _ block offset.2 in
    let size = came_of {A = ℕ} (natural stated_length.0) _ block stated_length.2 in
    let body = came_of {A = ℤ} (signed_at w64 bytes (place + 16)) _ block size.2 in
    let found : read.Block = record { offset = offset.0; metadata_length = size.0; body_length = body.0 } in
    subst (λ (its : read.Block). FitsBlock (kept_block its)) (same_value found block body.2) (record {
      offset_fits = eight_below bytes place stated_offset.0 offset.0 stated_offset.1 offset.1;
      metadata_fits = four_below bytes (place + 8) stated_length.0 size.0 stated_length.1 size.1;
      body_fits = body_below bytes (place + 16) body.0 body.1;
    })

blocks_fit : (bytes : List ℕ) (place n : ℕ) (blocks : List read.Block) → blocks_from bytes place n ≡ Some blocks
    → FitBlocks (map kept_block blocks)
blocks_fit bytes place zero blocks e = subst (λ (its : List read.Block). FitBlocks (map kept_block its)) (same_value [] blocks e) tt
blocks_fit bytes place (suc n) blocks e =
    let first = came_of {A = read.Block} (block_at bytes place) _ blocks e in
    let others = came_of {A = List read.Block} (blocks_from bytes (place + 24) n) _ blocks first.2 in
    subst (λ (its : List read.Block). FitBlocks (map kept_block its)) (same_value (first.0 ∷ others.0) blocks others.2)
    (block_fits bytes place first.0 first.1, blocks_fit bytes (place + 24) n others.0 others.1)

blocks_if_fit : (bytes : List ℕ) (found : Option Vector) (blocks : List read.Block) → blocks_if bytes found ≡ Some blocks
    → FitBlocks (map kept_block blocks)
blocks_if_fit bytes None blocks e = subst (λ (its : List read.Block). FitBlocks (map kept_block its)) (same_value [] blocks e) tt
blocks_if_fit bytes (Some vector) blocks e = blocks_fit bytes vector.place vector.count blocks e

-- the blocks of a footer that is read, as they are written again
pub kept_blocks_fit : (bytes : List ℕ) (footer : Footer) → footer_in bytes ≡ Some footer
    → FitBlocks (map kept_block footer.dictionaries) × FitBlocks (map kept_block footer.record_batches)
unfolding footer_in
kept_blocks_fit bytes footer e =
    let schema = came_of {A = List ℕ × TablePlace} (footer_schema bytes) _ footer e in
    let root = came_of {A = TablePlace} (root_of schema.0.0) _ footer schema.2 in
    let found = came_of {A = Option Vector} (vector_field schema.0.0 root.0 2 24) _ footer root.2 in
    let dictionaries = came_of {A = List read.Block} (blocks_if schema.0.0 found.0) _ footer found.2 in
    let batches = came_of {A = Option Vector} (vector_field schema.0.0 root.0 3 24) _ footer dictionaries.2 in
    let vector = came_of {A = Vector} batches.0 _ footer batches.2 in
    let record_batches = came_of {A = List read.Block} (blocks_of schema.0.0 vector.0) _ footer vector.2 in
    let its : Footer = record {
      bytes = schema.0.0;
      schema = schema.0.1;
      dictionaries = dictionaries.0;
      record_batches = record_batches.0;
    } in
    subst (λ (f : Footer). FitBlocks (map kept_block f.dictionaries) × FitBlocks (map kept_block f.record_batches))
    (same_value its footer record_batches.2) (
      blocks_if_fit schema.0.0 found.0 dictionaries.0 dictionaries.1,
      blocks_fit schema.0.0 vector.0.place vector.0.count record_batches.0 record_batches.1,
    )

pub fit_both : (some others : List WrittenBlock) → FitBlocks some → FitBlocks others → FitBlocks (some ++ others)
fit_both [] others h k = k
fit_both (block ∷ some) others h k = (h.0, fit_both some others h.1 k)
