-- What is laid is at least as long as each of its parts.
use Rattle.std.proofs.Common.{◌≡◌, ◌∙◌, ℕ, zero, suc, ◌+◌, ◌-◌, ◌*◌, ◌≤◌, List, [], ◌∷◌, ◌++◌, length, replicate, ap, arith, length-append}
use Rattle.std.specs.Prelude.{Some, Err, slice_get}
use Rattle.std.specs.List.{flat_map}
use Rattle.std.specs.Int.{to_le_bytes, next_multiple_of, w32}
use Rattle.std.proofs.lemmas.Grind.{flat_map-append}
use Rattle.ipc_format_messages.specs.flatbuffers.declared.LayError.{LayError}
use Rattle.ipc_format_messages.specs.flatbuffers.declared.LayError.TheVariants.{Memory, TooLong}
use Rattle.ipc_format_messages.specs.flatbuffers.Laying.{Piece, TableSlot, padded, vtable, table_bytes, child_bytes, reference_bytes, table_piece}
use Rattle.ipc_format_messages.specs.flatbuffers.Laying.{references_piece, elements_piece}
use Rattle.ipc_format_messages.specs.flatbuffers.Views.{Lays}

-- the bytes of some objects
abbrev pub bytes_of_all : List Piece → List ℕ
bytes_of_all pieces = flat_map (λ (piece : Piece). piece.bytes) pieces

slots_over : (slots : List TableSlot) (k : ℕ) (slot : TableSlot) → slice_get slots k ≡ Some slot
    → length (child_bytes slot) ≤ length (flat_map child_bytes
    slots)
slots_over [] k slot e = absurd cc
slots_over (first ∷ slots) zero slot e =
    let same : first ≡ slot = cc in
    rw same (omega (arith, length-append (child_bytes slot) (flat_map child_bytes slots)))
slots_over (first ∷ slots) (suc k) slot e =
    omega (arith, slots_over slots k slot e, length-append (child_bytes first) (flat_map child_bytes slots))

pub all_over : (slots : List TableSlot) → length (flat_map child_bytes slots) ≤ length (table_piece slots).bytes
unfolding table_piece
all_over slots = omega (arith, length-append (vtable slots ++ table_bytes slots) (flat_map child_bytes slots))

-- a table has the objects to which it refers
pub table_over : (slots : List TableSlot) (k : ℕ) (slot : TableSlot) → slice_get slots k ≡ Some slot → length (child_bytes slot) ≤ length (table_piece
    slots).bytes
table_over slots k slot e = omega (arith, slots_over slots k slot e, all_over slots)

-- a vector of references has the objects to which it refers
pub vector_over : (pieces : List Piece) → length (bytes_of_all pieces) ≤ length (references_piece pieces).bytes
unfolding references_piece
vector_over pieces =
    let own : List ℕ = padded (replicate 4 0 ++ to_le_bytes w32 (length pieces) ++ reference_bytes 8 (next_multiple_of (8 + 4 * length pieces) 8)
    pieces) in
    omega (arith, length-append own (bytes_of_all pieces))

pub append_over : (first others : List Piece) → length (bytes_of_all (first ++ others)) ≡ length (bytes_of_all first) + length (bytes_of_all others)
append_over first others = ap length (flat_map-append (λ (piece : Piece). piece.bytes) first others)
    ∙ length-append (bytes_of_all first) (bytes_of_all others)

pub references_over : (first : List Piece) (p : Piece) (others : List Piece) → length p.bytes ≤ length (references_piece (first ++ p ∷ others)).bytes
references_over first p others =
    omega (arith, vector_over (first ++ p ∷ others), append_over first (p ∷ others), length-append p.bytes (bytes_of_all others))

-- a vector has its elements' bytes
pub elements_over : (count : ℕ) (content : List ℕ) → length content ≤ length (elements_piece count content).bytes
unfolding elements_piece
elements_over count content =
    let own : List ℕ = replicate 4 0 ++ to_le_bytes w32 count in
    let all : List ℕ = own ++ content in
    omega (arith, length-append own content, length-append all (replicate {A = ℕ} (next_multiple_of (length all) 8 - length all) 0))

-- what kept a part from being laid keeps the whole from it
pub lays_over : (error : LayError) (p q : Piece) → length p.bytes ≤ length q.bytes → Lays (Err error) p → Lays (Err error) q
lays_over TooLong p q le h = omega arith
lays_over Memory p q le h = tt
