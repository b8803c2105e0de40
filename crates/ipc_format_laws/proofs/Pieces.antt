-- Each kind of piece where it stands.
use Rattle.std.proofs.Common.{◌≡◌, ℕ, ◌+◌, ◌-◌, ◌*◌, ◌≤◌, ◌<◌, ◌^◌, List, [], ◌∷◌, ◌++◌, length, replicate, refl, ap, ◌∙◌, arith, length-append}
use Rattle.std.proofs.Common.{true}
use Rattle.std.specs.Prelude.{Some}
use Rattle.std.specs.List.{flat_map}
use Rattle.std.specs.Int.{w16, w32, to_le_bytes, next_multiple_of}
use Rattle.std.specs.Str.{is_utf8}
use Rattle.ipc_format_grammar.specs.flatbuffers.FlatBuffers.{TablePlace, Vector, number_at, table_at, vector_at, text_at}
use Rattle.ipc_format_grammar.specs.flatbuffers.Laying.{TableSlot, Piece, padded, table_end, entries, child_bytes, fields, vtable, table_bytes}
use Rattle.ipc_format_grammar.specs.flatbuffers.Laying.{table_piece}
use Rattle.ipc_format_grammar.specs.flatbuffers.Laying.{reference_bytes, references_piece, elements_piece, text_piece}
use Rattle.ipc_format_grammar.proofs.flatbuffers_lemmas.Numbers.{length-padded}
use Rattle.ipc_format_grammar.proofs.flatbuffers_lemmas.Slots.{length-vtable, length-table_bytes, table_end_after}
use Rattle.ipc_format_grammar.proofs.flatbuffers_lemmas.References.{length-reference_bytes}
use Rattle.ipc_format_laws.specs.Spelling.{SpellsElements, SpellsElement}
use Rattle.ipc_format_laws.proofs.Places.{Stands, front, back, ends_within, window_stands}
use Rattle.ipc_format_laws.proofs.ByAddress.{number_stands, table_stands, reference_stands, vector_stands, string_stands}
use Rattle.ipc_format_laws.proofs.Slots.{SlotsStand}

-- what is filled up with zeros stands where it does
unpadded : {bytes : List ℕ} {place : ℕ} (part : List ℕ) → Stands bytes place (padded part) → Stands bytes place part
unpadded part s = front part (replicate (next_multiple_of (length part) 8 - length part) 0) refl s

-- ---- tables

-- the table of some slots, whose piece begins at a place
abbrev pub table_from : ℕ → List TableSlot → TablePlace
table_from start slots = record {
  place = start + length (vtable slots);
  vtable = start;
  vtable_size = 4 + 2 * length slots;
  table_size =
      table_end 4 slots;
}

-- its vtable and its own bytes, without its children, stand where it does
module _ {bytes : List ℕ} {start : ℕ} (slots : List TableSlot) (s : Stands bytes start (table_piece slots).bytes) where
  pub vtable_part : Stands bytes start (vtable slots)
  unfolding table_piece
  vtable_part = front (vtable slots) (table_bytes slots) refl (front (vtable slots ++ table_bytes slots) (flat_map child_bytes slots) refl s)

  pub own_part : Stands bytes (start + length (vtable slots)) (table_bytes slots)
  unfolding table_piece
  own_part = back (vtable slots) (table_bytes slots) (start + length (vtable slots)) refl refl
      (front (vtable slots ++ table_bytes slots) (flat_map child_bytes slots) refl s)

-- it is found where its references point
pub table_found : {bytes : List ℕ} {start : ℕ} (slots : List TableSlot) → 4 + 2 * length slots < 2 ^ 16 → table_end 4 slots < 2 ^ 16
    → Stands bytes start (table_piece slots).bytes → table_at bytes (start + (table_piece slots).entry) ≡ Some (table_from start slots)
unfolding table_piece
table_found {bytes} {start} slots small small-end s =
    let sizes : List ℕ = to_le_bytes w16 (4 + 2 * length slots) ++ to_le_bytes w16 (table_end 4 slots) in
    let distance = to_le_bytes w32 (length (vtable slots)) in
    let first = next_multiple_of (table_end 4 slots) 8 in
    let its-vtable = vtable_part slots s in
    let its-own = own_part slots s in
    let its-parts = unpadded (sizes ++ entries 4 slots) its-vtable in
    let its-sizes = front sizes (entries 4 slots) refl its-parts in
    let size-is = number_stands w16 (4 + 2 * length slots) small (front (to_le_bytes w16 (4 + 2 * length slots))
    (to_le_bytes w16 (table_end 4 slots)) refl its-sizes) in
    let end-is = number_stands w16 (table_end 4 slots) small-end (back (to_le_bytes w16 (4 + 2 * length slots))
    (to_le_bytes w16 (table_end 4 slots)) (start + 2) refl refl its-sizes) in
    let vtable-len : next_multiple_of (4 + 2 * length slots) 8 ≡ length (vtable slots) = length-vtable slots (length slots) refl in
    let near : length (vtable slots) < 2 ^ 31 = omega arith in
    let short : length (vtable slots) < 2 ^ 32 = omega arith in
    let back-is = number_stands w32 (length (vtable slots)) short (front distance (fields 4 first slots) refl
    (unpadded (distance ++ fields 4 first slots) its-own)) in
    let inside : start + (4 + 2 * length slots) ≤ length bytes = omega (arith, ends_within its-vtable) in
    let own-inside : start + length (vtable slots) + table_end 4 slots ≤ length bytes = omega
    (arith, ends_within its-own, length-table_bytes slots) in
    table_stands bytes start (start + length (vtable slots)) (length slots) (table_end 4 slots) (length (vtable slots)) small
    (table_end_after 4 slots) small-end near refl inside own-inside size-is end-is back-is

-- its slots stand in it
pub table_slots : {bytes : List ℕ} {start : ℕ} (slots : List TableSlot) → table_end 4 slots < 2 ^ 16 → Stands bytes start (table_piece slots).bytes
    → SlotsStand bytes (table_from start slots) 0 4 (next_multiple_of (table_end 4 slots) 8) slots
unfolding table_piece
table_slots {bytes} {start} slots small-end s =
    let sizes : List ℕ = to_le_bytes w16 (4 + 2 * length slots) ++ to_le_bytes w16 (table_end 4 slots) in
    let distance = to_le_bytes w32 (length (vtable slots)) in
    let first = next_multiple_of (table_end 4 slots) 8 in
    record {
      vtable = back sizes (entries 4 slots) (start + 4 + 2 * 0) refl (omega arith) (unpadded (sizes ++ entries 4 slots) (vtable_part slots s));
      own = back distance (fields 4 first slots) (start + length (vtable slots) + 4) refl refl
          (unpadded (distance ++ fields 4 first slots) (own_part slots s));
      children = back (vtable slots ++ table_bytes slots) (flat_map child_bytes slots) (start + length (vtable slots) + first) refl
          (omega (arith, length-append (vtable slots) (table_bytes slots), length-table_bytes slots)) s;
      vtable_size = omega arith;
      table_size = refl;
      least = omega arith;
      below = omega arith;
      small = small-end;
    }

-- ---- vectors and strings

-- the count, where four zeros, it and what is counted stand
count_stands : {bytes : List ℕ} {start : ℕ} (count : ℕ) (content : List ℕ) → count < 2 ^ 32
    → Stands bytes start (replicate 4 0 ++ to_le_bytes w32 count ++ content) → number_at w32 bytes (start + 4) ≡ Some count
count_stands {bytes} {start} count content small s =
    let head = front (replicate {A = ℕ} 4 0 ++ to_le_bytes w32 count) content refl s in
    number_stands w32 count small (back (replicate {A = ℕ} 4 0) (to_le_bytes w32 count) (start + 4) refl refl head)

-- what is counted
content_stands : {bytes : List ℕ} {start : ℕ} (count : ℕ) (content : List ℕ) (place : ℕ) → place ≡ start + 8
    → Stands bytes start (replicate 4 0 ++ to_le_bytes w32 count ++ content) → Stands bytes place content
content_stands count content place e s = back (replicate {A = ℕ} 4 0 ++ to_le_bytes w32 count) content place refl e s

-- a vector of numbers or structs
pub elements_stand : {bytes : List ℕ} {start : ℕ} (count : ℕ) (content : List ℕ) → count ≤ length content → length bytes < 2 ^ 32
    → Stands bytes start (elements_piece count content).bytes → SpellsElements bytes (start + (elements_piece count content).entry) count content
unfolding elements_piece
elements_stand {bytes} {start} count content few short s =
    let whole = unpadded (replicate {A = ℕ} 4 0 ++ to_le_bytes w32 count ++ content) s in
    let own : Stands bytes (start + 4 + 4) content = content_stands count content (start + 4 + 4) (omega arith) whole in
    let small : count < 2 ^ 32 = omega (arith, ends_within own) in
    record {
      stands = λ (width : ℕ) (fits : count * width ≤ length content). vector_stands bytes width (start + 4) count
          (count_stands count content small whole) (omega (arith, ends_within own));
      holds = window_stands (length content) refl own;
    }

-- a string
pub text_stands : {bytes : List ℕ} {start : ℕ} (content : List ℕ) → is_utf8 content ≡ true → length bytes < 2 ^ 32
    → Stands bytes start (text_piece content).bytes → text_at bytes (start + (text_piece content).entry) ≡ Some content
unfolding text_piece
text_stands {bytes} {start} content is_text short s =
    let whole = front (replicate {A = ℕ} 4 0 ++ to_le_bytes w32 (length content) ++ content) (0 ∷ []) refl
    (unpadded (replicate {A = ℕ} 4 0 ++ to_le_bytes w32 (length content) ++ content ++ 0 ∷ []) s) in
    let own : Stands bytes (start + 4 + 4) content = content_stands (length content) content (start + 4 + 4) (omega arith) whole in
    let small : length content < 2 ^ 32 = omega (arith, ends_within own) in
    string_stands bytes (start + 4) content (count_stands (length content) content small whole) (window_stands (length content) refl own) is_text

-- the references of a vector from one on stand, and behind them what they refer to
pub record ReferencesStand (bytes : List ℕ) (start : ℕ) (found : Vector) (k at child : ℕ) (pieces : List Piece) : Type 0 where
  pub own : Stands bytes (found.place + 4 * k) (reference_bytes at child pieces)
  pub children : Stands bytes (start + child) (flat_map (λ (piece : Piece). piece.bytes) pieces)
  pub where_is : found.place + 4 * k ≡ start + at
  pub below : at + 4 * length pieces ≤ child

abbrev pub vector_from : ℕ → List Piece → Vector
vector_from start pieces = record { place = start + 4 + 4; count = length pieces }

references_whole : {bytes : List ℕ} {start : ℕ} (pieces : List Piece) → Stands bytes start (references_piece pieces).bytes
    → Stands bytes start (replicate 4 0 ++ to_le_bytes w32 (length pieces) ++ reference_bytes 8 (next_multiple_of (8 + 4 * length pieces) 8) pieces)
unfolding references_piece
references_whole pieces s =
    let parts : List ℕ = replicate 4 0 ++ to_le_bytes w32 (length pieces) ++ reference_bytes 8
    (next_multiple_of (8 + 4 * length pieces) 8) pieces in
    unpadded parts (front (padded parts) (flat_map (λ (piece : Piece). piece.bytes) pieces) refl s)

pub references_found : {bytes : List ℕ} {start : ℕ} (pieces : List Piece) → length bytes < 2 ^ 32
    → Stands bytes start (references_piece pieces).bytes
    → vector_at bytes 4 (start + (references_piece pieces).entry) ≡ Some (vector_from start pieces)
unfolding references_piece
references_found {bytes} {start} pieces short s =
    let first = next_multiple_of (8 + 4 * length pieces) 8 in
    let whole = references_whole pieces s in
    let own : Stands bytes (start + 4 + 4) (reference_bytes 8 first pieces) = content_stands (length pieces) (reference_bytes 8 first pieces)
    (start + 4 + 4) (omega arith) whole in
    let inside : start + 4 + 4 + length pieces * 4 ≤ length bytes = omega (arith, ends_within own, length-reference_bytes 8 first pieces) in
    let small : length pieces < 2 ^ 32 = omega arith in
    vector_stands bytes 4 (start + 4) (length pieces) (count_stands (length pieces) (reference_bytes 8 first pieces) small whole) inside

pub references_stand : {bytes : List ℕ} {start : ℕ} (pieces : List Piece) → Stands bytes start (references_piece pieces).bytes
    → ReferencesStand bytes start (vector_from start pieces) 0 8 (next_multiple_of (8 + 4 * length pieces) 8) pieces
unfolding references_piece
references_stand {bytes} {start} pieces s =
    let first = next_multiple_of (8 + 4 * length pieces) 8 in
    let parts : List ℕ = replicate 4 0 ++ to_le_bytes w32 (length pieces) ++ reference_bytes 8 first pieces in
    let size : length parts ≡ 8 + 4 * length pieces = omega (arith, length-reference_bytes 8 first pieces) in
    let padded-size : length (padded parts) ≡ first = length-padded parts ∙ ap (λ (k : ℕ). next_multiple_of k 8) size in
    record {
      own = content_stands (length pieces) (reference_bytes 8 first pieces) (start + 4 + 4 + 4 * 0) (omega arith) (references_whole pieces s);
      children = back (padded parts) (flat_map (λ (piece : Piece). piece.bytes) pieces) (start + first) refl (omega arith) s;
      where_is = omega arith;
      below = omega arith;
    }

pub references_next : {bytes : List ℕ} {start : ℕ} {found : Vector} {k at child : ℕ} (piece : Piece) {pieces : List Piece}
    → ReferencesStand bytes start found k at child (piece ∷ pieces)
    → ReferencesStand bytes start found (k + 1) (at + 4) (child + length piece.bytes) pieces
references_next {bytes} {start} {found} {k} {at} {child} piece {pieces} h =
    let next = child + length piece.bytes in
    record {
      own = back (to_le_bytes w32 (child + piece.entry - at)) (reference_bytes (at + 4) next pieces) (found.place + 4 * (k + 1)) refl
          (omega arith) h.own;
      children = back piece.bytes (flat_map (λ (piece : Piece). piece.bytes) pieces) (start + next) refl (omega arith) h.children;
      where_is = omega (arith, h.where_is);
      below = omega (arith, h.below);
    }

pub element_stands : {bytes : List ℕ} {start : ℕ} {found : Vector} {k at child : ℕ} (piece : Piece) {pieces : List Piece} (Target : ℕ → Type 0)
    → piece.entry ≤ length piece.bytes → length bytes < 2 ^ 32 → ReferencesStand bytes start found k at child (piece ∷ pieces)
    → Target (start + child + piece.entry) → SpellsElement bytes found k Target
element_stands {bytes} {start} {found} {k} {at} {child} piece {pieces} Target entry-inside short h target =
    let distance = child + piece.entry - at in
    let alone = front (to_le_bytes w32 distance) (reference_bytes (at + 4) (child + length piece.bytes) pieces) refl h.own in
    let object : Stands bytes (start + child) piece.bytes = front piece.bytes (flat_map (λ (piece : Piece). piece.bytes) pieces) refl h.children in
    let ends : start + child + length piece.bytes ≤ length bytes = ends_within object in
    let before : at ≤ child = omega (arith, h.below) in
    let small : distance < 2 ^ 32 = omega arith in
    record {
      place = start + child + piece.entry;
      stands = reference_stands bytes (found.place + 4 * k) distance (start + child + piece.entry) (number_stands w32 distance small alone)
          (omega (arith, h.where_is)) (omega arith);
      target = target;
    }

pub length-table_piece : (slots : List TableSlot)
    → length (table_piece slots).bytes ≡ length (vtable slots) + length (table_bytes slots) + length (flat_map child_bytes slots)
unfolding table_piece
length-table_piece slots = omega (
  arith,
  length-append (vtable slots ++ table_bytes slots) (flat_map child_bytes slots),
  length-append (vtable slots)
      (table_bytes slots),
)

-- references to a piece point into it
pub table_entry : (slots : List TableSlot) → (table_piece slots).entry ≤ length (table_piece slots).bytes
unfolding table_piece
table_entry slots = omega (arith, length-table_piece slots)

pub references_entry : (pieces : List Piece) → (references_piece pieces).entry ≤ length (references_piece pieces).bytes
unfolding references_piece
references_entry pieces = omega arith

pub elements_entry : (count : ℕ) (content : List ℕ) → (elements_piece count content).entry ≤ length (elements_piece count content).bytes
unfolding elements_piece
elements_entry count content = omega arith

pub text_entry : (content : List ℕ) → (text_piece content).entry ≤ length (text_piece content).bytes
unfolding text_piece
text_entry content = omega arith
