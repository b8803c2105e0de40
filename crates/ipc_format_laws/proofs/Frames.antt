-- What stands at the place of a message that was written, and of the end mark.
use Rattle.std.proofs.Common.{◌≡◌, ℕ, suc, ◌+◌, ◌<◌, ◌≤◌, ◌^◌, pos, negsuc, false, List, [], ◌∷◌, ◌++◌, length, refl, ap, ◌∙◌, arith}
use Rattle.std.specs.Prelude.{Some, nat_lt}
use Rattle.std.specs.Int.{w32, to_le_bytes}
use Rattle.std.proofs.lemmas.Bool.{le-ltb}
use Rattle.std.proofs.lemmas.Int.{to_z_pos}
use Rattle.ipc_format_grammar.specs.flatbuffers.FlatBuffers.{signed_at}
use Rattle.ipc_format_laws.proofs.Places.{Stands, front, back, ends_within, window_stands}
use Rattle.ipc_format_laws.proofs.Contents.{signed_stands}
use Rattle.ipc_format_grammar.specs.Framing as reading
use Rattle.ipc_format_grammar.specs.Framing.{frame_at, metadata_then}
use Rattle.ipc_format_grammar.specs.WrittenMessages.{framed, continuation_marker, end_mark}

-- the marker is read as -1
marker_reads : {bytes : List ℕ} {place : ℕ} (rest : List ℕ) → Stands bytes place (continuation_marker ++ rest)
    → signed_at w32 bytes place ≡ Some (negsuc 0)
marker_reads rest s = signed_stands w32 4294967295 (omega arith) (front (to_le_bytes w32 4294967295) rest refl s)

-- what stands behind the marker and a length
behind_marker : {bytes : List ℕ} {place : ℕ} (size : ℕ) (rest : List ℕ) → size < 2 ^ 31
    → Stands bytes place (continuation_marker ++ (to_le_bytes w32 size ++ rest))
    → frame_at bytes place ≡ reading.frame_of bytes (pos size) (place + 8)
unfolding frame_at
behind_marker {bytes} {place} size rest small s =
    let marker = marker_reads (to_le_bytes w32 size ++ rest) s in
    let others : Stands bytes (place + 4) (to_le_bytes w32 size ++ rest) =
    back continuation_marker (to_le_bytes w32 size ++ rest) (place + 4) refl refl s in
    let stated : signed_at w32 bytes (place + 4) ≡ Some (pos size) =
    signed_stands w32 size (omega arith) (front (to_le_bytes w32 size) rest refl others) ∙ ap Some (to_z_pos w32 size small) in
    let inside : place + 4 ≤ length bytes = omega (arith, ends_within others) in
    let whole : nat_lt (length bytes) (place + 4) ≡ false = le-ltb (length bytes) (place + 4) inside in
    rw (whole, marker, stated) refl

-- metadata, and the place of the body behind it
metadata_stands : {bytes : List ℕ} (metadata : List ℕ) (place : ℕ) → 0 < length metadata → Stands bytes place metadata
    → reading.frame_of bytes (pos (length metadata)) place ≡ Some (metadata_then metadata (place + length metadata))
metadata_stands [] place some s = absurd (omega arith)
metadata_stands (first ∷ others) place some s = rw (window_stands (suc (length others)) refl s) refl

pub frame_stands : {bytes : List ℕ} {place : ℕ} (metadata body : List ℕ) → 0 < length metadata → length metadata < 2 ^ 31
    → Stands bytes place (framed metadata body) → frame_at bytes place ≡ Some (metadata_then metadata (place + 8 + length metadata))
frame_stands {bytes} {place} metadata body some short s =
    let size = to_le_bytes w32 (length metadata) in
    let its_metadata : Stands bytes (place + 8) metadata = front metadata body refl
    (back (continuation_marker ++ size) (metadata ++ body) (place + 8) refl refl s) in
    behind_marker (length metadata) (metadata ++ body) short s ∙ metadata_stands metadata (place + 8) some its_metadata

pub end_stands : {bytes : List ℕ} {place : ℕ} → Stands bytes place end_mark → frame_at bytes place ≡ Some reading.end_mark
end_stands s = behind_marker 0 [] (omega arith) s
