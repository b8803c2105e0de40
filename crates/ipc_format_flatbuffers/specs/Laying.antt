-- How FlatBuffers' values are laid here, one object at a time. FlatBuffers leaves the order of objects, shared vtables and padding to
-- the writer ("Internals"); this is the one layout that is written, so that equal values have equal bytes.
use Rattle.std.specs.Prelude.{ℕ, ◌+◌, ◌-◌, ◌*◌, List, [], ◌∷◌, ◌++◌, length, replicate}
use Rattle.std.specs.List.{flat_map}
use Rattle.std.specs.Int.{Width, w16, w32, byte_len, to_le_bytes, next_multiple_of}

-- an object with everything that it refers to, laid from a multiple of 8 on: its bytes, and where in them references to it point
pub record Piece : Type 0 where
  pub bytes : List ℕ
  pub entry : ℕ

-- a slot of a table: absent, a number of a width, or a reference to an object
pub data TableSlot : Type 0 where
  absent : TableSlot
  number : Width → ℕ → TableSlot
  refers : Piece → TableSlot

-- zeros up to the next multiple of 8
abbrev pub padded : List ℕ → List ℕ
padded bytes = bytes ++ replicate (next_multiple_of (length bytes) 8 - length bytes) 0

-- where a field of a width begins, at the earliest from a place of the table on: at a multiple of its width
abbrev pub field_start : ℕ → Width → ℕ
field_start at w = next_multiple_of at (byte_len w)

-- the vtable's entry for a slot, where the fields before it end at a place
abbrev pub entry_of : ℕ → TableSlot → ℕ
entry_of at absent = 0
entry_of at (number w n) = field_start at w
entry_of at (refers piece) = field_start at w32

-- where the fields end with that slot
abbrev pub after : ℕ → TableSlot → ℕ
after at absent = at
after at (number w n) = field_start at w + byte_len w
after at (refers piece) = field_start at w32 + 4

-- where the fields end with all slots
abbrev pub table_end : ℕ → List TableSlot → ℕ
table_end at [] = at
table_end at (slot ∷ slots) = table_end (after at slot) slots

-- the vtable's entries
abbrev pub entries : ℕ → List TableSlot → List ℕ
entries at [] = []
entries at (slot ∷ slots) = to_le_bytes w16 (entry_of at slot) ++ entries (after at slot) slots

-- a field's bytes and the zeros before it; child is where the next object that the table refers to begins, counted from the table
abbrev pub field_bytes : ℕ → ℕ → TableSlot → List ℕ
field_bytes at child absent = []
field_bytes at child (number w n) = replicate (field_start at w - at) 0 ++ to_le_bytes w n
field_bytes at child (refers piece) = replicate (field_start at w32 - at) 0 ++ to_le_bytes w32 (child + piece.entry - field_start at w32)

-- the bytes of the object that a slot refers to
abbrev pub child_bytes : TableSlot → List ℕ
child_bytes absent = []
child_bytes (number w n) = []
child_bytes (refers piece) = piece.bytes

-- the fields of all slots
abbrev pub fields : ℕ → ℕ → List TableSlot → List ℕ
fields at child [] = []
fields at child (slot ∷ slots) = field_bytes at child slot ++ fields (after at slot) (child + length (child_bytes slot)) slots

-- a table's vtable: its size, the table's size, and an entry a slot
abbrev pub vtable : List TableSlot → List ℕ
vtable slots = padded (to_le_bytes w16 (4 + 2 * length slots) ++ to_le_bytes w16 (table_end 4 slots) ++ entries 4 slots)

-- the table behind it: the distance back to the vtable, and the fields
abbrev pub table_bytes : List TableSlot → List ℕ
table_bytes slots = padded (to_le_bytes w32 (length (vtable slots)) ++ fields 4 (next_multiple_of (table_end 4 slots) 8) slots)

-- a table: vtable, table, and what it refers to in the order of the slots
unfoldable pub table_piece : List TableSlot → Piece
table_piece slots = record { bytes = vtable slots ++ table_bytes slots ++ flat_map child_bytes slots; entry = length (vtable slots) }

-- the references of a vector, each counted from its own place; child is where the next object begins
abbrev pub reference_bytes : ℕ → ℕ → List Piece → List ℕ
reference_bytes at child [] = []
reference_bytes at child (piece ∷ pieces) = to_le_bytes w32 (child + piece.entry - at) ++ reference_bytes (at + 4) (child + length piece.bytes) pieces

-- a vector of references: four zeros, the count, the references, and what they refer to
unfoldable pub references_piece : List Piece → Piece
references_piece pieces = record {
  bytes = padded (replicate 4 0 ++ to_le_bytes w32 (length pieces) ++ reference_bytes 8 (next_multiple_of (8 + 4 * length pieces) 8) pieces)
      ++ flat_map (λ (piece : Piece). piece.bytes) pieces;
  entry = 4;
}

-- a vector of numbers or structs: four zeros, the count, and their bytes
unfoldable pub elements_piece : ℕ → List ℕ → Piece
elements_piece count content = record { bytes = padded (replicate 4 0 ++ to_le_bytes w32 count ++ content); entry = 4 }

-- a string: four zeros, the count of bytes, the bytes, and a zero that isn't counted
unfoldable pub text_piece : List ℕ → Piece
text_piece text = record { bytes = padded (replicate 4 0 ++ to_le_bytes w32 (length text) ++ text ++ 0 ∷ []); entry = 4 }

-- a message: the place of the root, four zeros, and the root's object
unfoldable pub message_bytes : Piece → List ℕ
message_bytes piece = to_le_bytes w32 (8 + piece.entry) ++ replicate 4 0 ++ piece.bytes
