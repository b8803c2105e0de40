-- What the readers by address answer where bytes spell an object.
use Rattle.std.specs.Prelude.{◌≡◌, ℕ, ◌+◌, ◌*◌, ◌≤◌, ℤ, false, nat_le, List, ◌++◌, length, Some, None, FitsSigned}
use Rattle.std.specs.Int.{Width, w8, to_le_bytes, cast_signed, cast_unsigned}
use Rattle.ipc_format_grammar.specs.flatbuffers.Reading.{window_at}
use Rattle.ipc_format_grammar.specs.flatbuffers.FlatBuffers.{TablePlace, Vector, number_field, signed_field, truth_field, table_field}
use Rattle.ipc_format_grammar.specs.flatbuffers.FlatBuffers.{reference_field}
use Rattle.ipc_format_grammar.specs.flatbuffers.FlatBuffers.{vector_field, string_field, number_at, element_at, root_of}
use Rattle.ipc_format_grammar.specs.flatbuffers.Objects.{Fields, Objects, table, references, elements, text}
use Rattle.ipc_format_laws.specs.Spelling.{Spells, SpellsFields, SpellsObjects, SpellsAbsent, SpellsNumber, SpellsReference, SpellsElement}
use Rattle.ipc_format_laws.specs.Spelling.{count_of}
use Rattle.ipc_format_laws.specs.Theorem.{FitsWidth, SpellsRoot}

-- of an absent slot: what stands for it
pub record AbsentAnswers (bytes : List ℕ) (found : TablePlace) (slot : ℕ) : Type 0 where
  pub number : (w : Width) (absent : ℕ) → number_field w bytes found slot absent ≡ Some absent
  pub signed : (w : Width) (absent : ℤ) → signed_field w bytes found slot absent ≡ Some absent
  pub truth : truth_field bytes found slot ≡ Some false
  pub reference : reference_field bytes found slot ≡ Some None
  pub table : table_field bytes found slot ≡ Some None
  pub vector : (width : ℕ) → vector_field bytes found slot width ≡ Some None
  pub string : string_field bytes found slot ≡ Some None

-- of a number: it, or its bits as a signed number's
pub record NumberAnswers (bytes : List ℕ) (found : TablePlace) (slot : ℕ) (w : Width) (n : ℕ) : Type 0 where
  pub number : (absent : ℕ) → number_field w bytes found slot absent ≡ Some n
  pub signed : (absent : ℤ) → signed_field w bytes found slot absent ≡ Some (cast_signed w n)
  pub value : (absent z : ℤ) → FitsSigned w z → n ≡ cast_unsigned w z → signed_field w bytes found slot absent ≡ Some z

-- of a table that is referred to: it, with its slots
pub record TableAnswers (bytes : List ℕ) (found : TablePlace) (slot : ℕ) (fields : Fields) : Type 0 where
  pub child : TablePlace
  pub table : table_field bytes found slot ≡ Some (Some child)
  pub slots : SpellsFields bytes child 0 fields

-- of a vector of references: it, with each of its elements
pub record ReferencesAnswers (bytes : List ℕ) (found : TablePlace) (slot : ℕ) (objects : Objects) : Type 0 where
  pub child : Vector
  pub vector : vector_field bytes found slot 4 ≡ Some (Some child)
  pub count_is : child.count ≡ count_of objects
  pub each : SpellsObjects bytes child 0 objects

-- of a vector of numbers or structs: where it stands, for each width that its bytes are enough for, and its bytes there
pub record ElementsAnswers (bytes : List ℕ) (found : TablePlace) (slot count : ℕ) (content : List ℕ) : Type 0 where
  pub place : ℕ
  pub vector : (width : ℕ) → count * width ≤ length content → vector_field bytes found slot width ≡ Some
      (Some (record { place = place; count = count }))
  pub holds : window_at bytes place (length content) ≡ Some content

-- of a table that is an element: it, with its slots
pub record ElementAnswers (bytes : List ℕ) (found : Vector) (k : ℕ) (fields : Fields) : Type 0 where
  pub child : TablePlace
  pub table : element_at bytes found k ≡ Some child
  pub slots : SpellsFields bytes child 0 fields

-- of a table that is a message's root: it, with its slots
pub record RootAnswers (bytes : List ℕ) (fields : Fields) : Type 0 where
  pub child : TablePlace
  pub table : root_of bytes ≡ Some child
  pub slots : SpellsFields bytes child 0 fields

-- the same for all bytes
abbrev pub AbsentReads : Type 0
AbsentReads = (bytes : List ℕ) (found : TablePlace) (slot : ℕ) → SpellsAbsent bytes found slot → AbsentAnswers bytes found slot

abbrev pub NumbersRead : Type 0
NumbersRead = (bytes : List ℕ) (found : TablePlace) (slot : ℕ) (w : Width) (n : ℕ) → SpellsNumber bytes found slot w n
    → NumberAnswers bytes found slot w n

abbrev pub TruthsRead : Type 0
TruthsRead = (bytes : List ℕ) (found : TablePlace) (slot n : ℕ) → SpellsNumber bytes found slot w8 n → truth_field bytes found slot
    ≡ Some (nat_le 1 n)

abbrev pub TablesRead : Type 0
TablesRead = (bytes : List ℕ) (found : TablePlace) (slot : ℕ) (fields : Fields) → SpellsReference bytes found slot
    (λ place. Spells bytes place (table fields)) → TableAnswers bytes found slot fields

abbrev pub ReferencesRead : Type 0
ReferencesRead = (bytes : List ℕ) (found : TablePlace) (slot : ℕ) (objects : Objects) → SpellsReference bytes found slot
    (λ place. Spells bytes place (references objects)) → ReferencesAnswers bytes found slot objects

abbrev pub ElementsRead : Type 0
ElementsRead = (bytes : List ℕ) (found : TablePlace) (slot count : ℕ) (content : List ℕ) → SpellsReference bytes found slot
    (λ place. Spells bytes place (elements count content))
    → ElementsAnswers bytes found slot count content

abbrev pub TextsRead : Type 0
TextsRead = (bytes : List ℕ) (found : TablePlace) (slot : ℕ) (content : List ℕ) → SpellsReference bytes found slot
    (λ place. Spells bytes place (text content)) → string_field bytes found slot ≡ Some (Some content)

abbrev pub EachRead : Type 0
EachRead = (bytes : List ℕ) (found : Vector) (k : ℕ) (fields : Fields) → SpellsElement bytes found k (λ place. Spells bytes place (table fields))
    → ElementAnswers bytes found k fields

abbrev pub RootsRead : Type 0
RootsRead = (bytes : List ℕ) (fields : Fields) → SpellsRoot bytes (table fields) → RootAnswers bytes fields

-- a number that is written somewhere in a window is read there
abbrev pub ContentsRead : Type 0
ContentsRead = (bytes : List ℕ) (place : ℕ) (before after : List ℕ) (w : Width) (n : ℕ) → FitsWidth w n
    → window_at bytes place (length (before ++ to_le_bytes w n ++ after)) ≡ Some (before ++ to_le_bytes w n ++ after) → number_at w bytes
    (place + length before) ≡ Some n
