-- Which bytes spell an object at a place: the readers by address answer there what the object has, and what it refers to is spelled
-- where its references point.
use Rattle.std.specs.Prelude.{◌≡◌, ℕ, ◌+◌, ◌*◌, ◌≤◌, List, length, Some, None}
use Rattle.std.specs.Int.{Width, byte_len}
use Rattle.ipc_format_grammar.specs.flatbuffers.Reading.{window_at}
use Rattle.ipc_format_grammar.specs.flatbuffers.FlatBuffers.{TablePlace, Vector, number_at, table_at, field_at, reference_field, reference_at}
use Rattle.ipc_format_grammar.specs.flatbuffers.FlatBuffers.{vector_at}
use Rattle.ipc_format_grammar.specs.flatbuffers.FlatBuffers.{text_at}
use Rattle.ipc_format_grammar.specs.flatbuffers.Objects.{Object, Fields, Objects, table, references}
use Rattle.ipc_format_grammar.specs.flatbuffers.Objects.{elements, text, no_field, absent_then, number_then}
use Rattle.ipc_format_grammar.specs.flatbuffers.Objects.{refers_then, no_object, object_then}

-- how many objects
abbrev pub count_of : Objects → ℕ
count_of no_object = 0
count_of (object_then object objects) = count_of objects + 1

-- a table stands at a place, with such slots
pub record SpellsTable (bytes : List ℕ) (place : ℕ) (Slots : TablePlace → Type 0) : Type 0 where
  pub found : TablePlace
  pub stands : table_at bytes place ≡ Some found
  pub slots : Slots found

-- a vector of references stands at a place, with such elements
pub record SpellsReferences (bytes : List ℕ) (place count : ℕ) (Elements : Vector → Type 0) : Type 0 where
  pub found : Vector
  pub stands : vector_at bytes 4 place ≡ Some found
  pub count_is : found.count ≡ count
  pub each : Elements found

-- a vector of so many numbers or structs stands at a place, with such bytes; its width is known to the reader alone
pub record SpellsElements (bytes : List ℕ) (place count : ℕ) (content : List ℕ) : Type 0 where
  pub stands : (width : ℕ) → count * width ≤ length content → vector_at bytes width place ≡ Some (record { place = place + 4; count = count })
  pub holds : window_at bytes (place + 4) (length content) ≡ Some content

-- a slot is absent, whatever its width
pub record SpellsAbsent (bytes : List ℕ) (found : TablePlace) (slot : ℕ) : Type 0 where
  pub is_absent : (width : ℕ) → field_at bytes found slot width ≡ Some None

-- a slot has a number of a width
pub record SpellsNumber (bytes : List ℕ) (found : TablePlace) (slot : ℕ) (w : Width) (n : ℕ) : Type 0 where
  pub place : ℕ
  pub stands : field_at bytes found slot (byte_len w) ≡ Some (Some place)
  pub holds : number_at w bytes place ≡ Some n

-- a slot refers to a place with such an object
pub record SpellsReference (bytes : List ℕ) (found : TablePlace) (slot : ℕ) (Target : ℕ → Type 0) : Type 0 where
  pub place : ℕ
  pub stands : reference_field bytes found slot ≡ Some (Some place)
  pub target : Target place

-- element k of a vector refers to a place with such an object
pub record SpellsElement (bytes : List ℕ) (found : Vector) (k : ℕ) (Target : ℕ → Type 0) : Type 0 where
  pub place : ℕ
  pub stands : reference_at bytes (found.place + 4 * k) ≡ Some place
  pub target : Target place

-- of two facts the first is of what stands first
pub record Both (A B : Type 0) : Type 0 where
  pub here : A
  pub rest : B

abbrev mutual
  -- the bytes spell an object at a place
  pub Spells : List ℕ → ℕ → Object → Type 0
  Spells bytes place (table fields) = SpellsTable bytes place (λ found. SpellsFields bytes found 0 fields)
  Spells bytes place (references objects) = SpellsReferences bytes place (count_of objects) (λ found. SpellsObjects bytes found 0 objects)
  Spells bytes place (elements count content) = SpellsElements bytes place count content
  Spells bytes place (text content) = text_at bytes place ≡ Some content

  -- the slots of a table from one on are spelled; past them each slot is absent
  pub SpellsFields : List ℕ → TablePlace → ℕ → Fields → Type 0
  SpellsFields bytes found slot no_field = (k : ℕ) → slot ≤ k → SpellsAbsent bytes found k
  SpellsFields bytes found slot (absent_then fields) = Both (SpellsAbsent bytes found slot) (SpellsFields bytes found (slot + 1) fields)
  SpellsFields bytes found slot (number_then w n fields) = Both (SpellsNumber bytes found slot w n) (SpellsFields bytes found (slot + 1) fields)
  SpellsFields bytes found slot (refers_then object fields) =
      Both (SpellsReference bytes found slot (λ place. Spells bytes place object)) (SpellsFields bytes found (slot + 1) fields)

  -- the elements of a vector from one on are spelled
  pub SpellsObjects : List ℕ → Vector → ℕ → Objects → Type 0
  SpellsObjects bytes found k no_object = Unit {0}
  SpellsObjects bytes found k (object_then object objects) =
      Both (SpellsElement bytes found k (λ place. Spells bytes place object)) (SpellsObjects bytes found (k + 1) objects)
