-- The values of FlatBuffers as trees, and their laying.
use Rattle.std.specs.Prelude.{ℕ, List, [], ◌∷◌}
use Rattle.std.specs.Int.{Width}
use Rattle.ipc_format_flatbuffers.specs.Laying.{Piece, TableSlot, absent, number, refers, table_piece, references_piece, elements_piece}
use Rattle.ipc_format_flatbuffers.specs.Laying.{text_piece, message_bytes}

mutual
  -- an object: a table, a vector of references, a vector of numbers or structs (how many, and their bytes), or a string
  pub data Object : Type 0 where
    table : Fields → Object
    references : Objects → Object
    elements : ℕ → List ℕ → Object
    text : List ℕ → Object

  -- the slots of a table in order, each absent, a number of a width, or a reference
  pub data Fields : Type 0 where
    no_field : Fields
    absent_then : Fields → Fields
    number_then : Width → ℕ → Fields → Fields
    refers_then : Object → Fields → Fields

  -- the elements of a vector of references, in order
  pub data Objects : Type 0 where
    no_object : Objects
    object_then : Object → Objects → Objects

-- an object laid from a multiple of 8 on, with everything that it refers to: objects stand in pre-order
abbrev mutual
  pub piece_of : Object → Piece
  piece_of (table fields) = table_piece (slots_of fields)
  piece_of (references objects) = references_piece (pieces_of objects)
  piece_of (elements count content) = elements_piece count content
  piece_of (text bytes) = text_piece bytes

  pub slots_of : Fields → List TableSlot
  slots_of no_field = []
  slots_of (absent_then fields) = absent ∷ slots_of fields
  slots_of (number_then w n fields) = number w n ∷ slots_of fields
  slots_of (refers_then object fields) = refers (piece_of object) ∷ slots_of fields

  pub pieces_of : Objects → List Piece
  pieces_of no_object = []
  pieces_of (object_then object objects) = piece_of object ∷ pieces_of objects

-- the bytes of a message whose root is an object
unfoldable pub laid : Object → List ℕ
laid object = message_bytes (piece_of object)
