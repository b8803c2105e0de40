-- Which objects can be laid so that they read back, and what is said of them.
use Rattle.std.specs.Prelude.{◌≡◌, ℕ, ◌+◌, ◌*◌, ◌<◌, ◌≤◌, ◌^◌, List, length, Some, true}
use Rattle.std.specs.Int.{Width, w8, w16, w32, w64, w128}
use Rattle.std.specs.Str.{is_utf8}
use Rattle.ipc_format_grammar.specs.flatbuffers.FlatBuffers.{reference_at}
use Rattle.ipc_format_grammar.specs.flatbuffers.Laying.{table_end}
use Rattle.ipc_format_grammar.specs.flatbuffers.Objects.{Object, Fields, Objects, table, references}
use Rattle.ipc_format_grammar.specs.flatbuffers.Objects.{elements, text, no_field, absent_then, number_then}
use Rattle.ipc_format_grammar.specs.flatbuffers.Objects.{refers_then, no_object, object_then, slots_of, laid}
use Rattle.ipc_format_laws.specs.Spelling.{Spells, Both}

-- a number fits a width; numbers of 16 bytes are none of FlatBuffers'
abbrev pub FitsWidth : Width → ℕ → Type 0
FitsWidth w8 n = n < 2 ^ 8
FitsWidth w16 n = n < 2 ^ 16
FitsWidth w32 n = n < 2 ^ 32
FitsWidth w64 n = n < 2 ^ 64
FitsWidth w128 n = ⊥

-- a vtable and a table state their sizes in two bytes
pub record FitsTable (fields : Fields) : Type 0 where
  pub vtable_size : 4 + 2 * length (slots_of fields) < 2 ^ 16
  pub table_size : table_end 4 (slots_of fields) < 2 ^ 16

-- An object can be stated by the numbers that FlatBuffers has for it, and a string is UTF-8. Each element of a vector has a byte at least;
-- how long strings and vectors may be is bounded by the message.
abbrev mutual
  pub Fits : Object → Type 0
  Fits (table fields) = Both (FitsTable fields) (FitsFields fields)
  Fits (references objects) = FitsObjects objects
  Fits (elements count content) = count ≤ length content
  Fits (text content) = is_utf8 content ≡ true

  pub FitsFields : Fields → Type 0
  FitsFields no_field = Unit {0}
  FitsFields (absent_then fields) = FitsFields fields
  FitsFields (number_then w n fields) = Both (FitsWidth w n) (FitsFields fields)
  FitsFields (refers_then object fields) = Both (Fits object) (FitsFields fields)

  pub FitsObjects : Objects → Type 0
  FitsObjects no_object = Unit {0}
  FitsObjects (object_then object objects) = Both (Fits object) (FitsObjects objects)

-- the bytes of a message spell an object where their first reference points
pub record SpellsRoot (bytes : List ℕ) (object : Object) : Type 0 where
  pub place : ℕ
  pub stands : reference_at bytes 0 ≡ Some place
  pub spelled : Spells bytes place object

-- what is laid reads back
abbrev pub LaidReadsBack : Type 0
LaidReadsBack = (object : Object) → Fits object → length (laid object) < 2 ^ 32 → SpellsRoot (laid object) object
