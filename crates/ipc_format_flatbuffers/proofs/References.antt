-- The objects of a vector of references one after the other.
use Rattle.std.proofs.Common.{◌≡◌, ℕ, ◌+◌, ◌-◌, ◌*◌, List, [], ◌∷◌, ◌++◌, length, replicate, refl, sym, ap, ◌∙◌, arith, length-append}
use Rattle.std.specs.List.{flat_map}
use Rattle.std.specs.Int.{w32, to_le_bytes, next_multiple_of}
use Rattle.ipc_format_flatbuffers.specs.Laying.{Piece, padded, reference_bytes, references_piece}
use Rattle.ipc_format_flatbuffers.proofs.Numbers.{padded_is, length-padded}
use Rattle.ipc_format_flatbuffers.proofs.Rest.{four_written}
use Rattle.ipc_format_flatbuffers.proofs.Slots.{the_piece}

-- a vector has four bytes for each reference
pub length-reference_bytes : (at child : ℕ) (pieces : List Piece) → length (reference_bytes at child pieces) ≡ 4 * length pieces
length-reference_bytes at child [] = refl
length-reference_bytes at child (piece ∷ pieces) =
    omega (
      arith,
      length-reference_bytes (at + 4) (child + length piece.bytes) pieces,
      length-append (to_le_bytes w32 (child + piece.entry - at)) (reference_bytes (at + 4) (child + length piece.bytes) pieces),
    )

-- a vector's bytes before they are filled up, and where its first object begins
abbrev own_parts : ℕ → List Piece → List ℕ
own_parts child pieces = replicate 4 0 ++ to_le_bytes w32 (length pieces) ++ reference_bytes 8 child pieces

length-own_parts : (child : ℕ) (pieces : List Piece) → length (own_parts child pieces) ≡ 8 + 4 * length pieces
length-own_parts child pieces = omega (arith, length-reference_bytes 8 child pieces)

-- the bytes of a vector with everything that it refers to
pub length-references_piece : (pieces : List Piece) (own_len first_child children : ℕ) → own_len ≡ 8 + 4 * length pieces
    → first_child ≡ next_multiple_of own_len 8 → children ≡ length (flat_map (λ (piece : Piece). piece.bytes) pieces)
    → length (references_piece pieces).bytes ≡ first_child + children
unfolding references_piece
length-references_piece pieces own_len first_child children own_len-is first_child-is children-is =
    let parts = own_parts (next_multiple_of (8 + 4 * length pieces) 8) pieces in
    let own : length (padded parts) ≡ first_child = length-padded parts
    ∙ ap (λ (k : ℕ). next_multiple_of k 8) (length-own_parts (next_multiple_of (8 + 4 * length pieces) 8) pieces ∙ sym own_len-is)
    ∙ sym first_child-is in
    omega (arith, own, length-append (padded parts) (flat_map (λ (piece : Piece). piece.bytes) pieces))

-- a vector whose parts were written
pub references_laid : (pieces : List Piece) (count own_len first_child pad : ℕ) (o0 o1 o2 o3 o4 o5 : List ℕ) → count ≡ length pieces
    → own_len ≡ 8 + 4 * length pieces → first_child ≡ next_multiple_of own_len 8 → pad ≡ first_child - own_len
    → o0 ≡ [] → o1 ≡ o0 ++ replicate 4 0 → o2 ≡ o1 ++ to_le_bytes w32 count → o3 ≡ o2 ++ reference_bytes 8 first_child pieces
    → o4 ≡ o3 ++ replicate pad 0 → o5 ≡ o4 ++ flat_map (λ (piece : Piece). piece.bytes) pieces
    → the_piece o5 4 ≡ references_piece pieces
unfolding references_piece
references_laid pieces count own_len first_child pad o0 o1 o2 o3 o4 o5 count-is own_len-is first_child-is pad-is e0 e1 e2 e3 e4 e5 =
    let first = next_multiple_of (8 + 4 * length pieces) 8 in
    let first-is : first_child ≡ first = first_child-is ∙ ap (λ (k : ℕ). next_multiple_of k 8) own_len-is in
    let pad-first : pad ≡ first - (8 + 4 * length pieces) = rw (← first-is, ← own_len-is) pad-is in
    let zeros = replicate {A = ℕ} (first - (8 + 4 * length pieces)) 0 in
    let whole = four_written o0 (replicate 4 0) (to_le_bytes w32 (length pieces)) (reference_bytes 8 first pieces) zeros o1 o2 o3 o4 e1
    (e2 ∙ ap (λ (k : ℕ). o1 ++ to_le_bytes w32 k) count-is) (e3 ∙ ap (λ (k : ℕ). o2 ++ reference_bytes 8 k pieces) first-is)
    (e4 ∙ ap (λ (k : ℕ). o3 ++ replicate k 0) pad-first) in
    let own : o4 ≡ padded (own_parts first pieces) = whole ∙ ap (λ (bytes : List ℕ). bytes ++ (own_parts first pieces ++ zeros)) e0
    ∙ padded_is (own_parts first pieces) (8 + 4 * length pieces) (length-own_parts first pieces) in
    rw (e5, own) refl
