-- A field and a type read back where what stands below them does.
use Rattle.std.proofs.Common.{◌≡◌, ℕ, suc, ◌+◌, ◌-◌, ◌≤◌, ◌<◌, ◌^◌, max, ℤ, pos, Bool, true, false, List, [], ◌∷◌, refl, ap, subst, ◌∙◌, add-one}
use Rattle.std.proofs.Common.{arith}
use Rattle.std.specs.Prelude.{Option, Some, None}
use Rattle.std.specs.Int.{w8, w16, w64, cast_unsigned}
use Rattle.ipc_format_grammar.specs.flatbuffers.FlatBuffers.{TablePlace, Vector, signed_field, table_field}
use Rattle.ipc_format_grammar.specs.flatbuffers.Objects.{Object, Fields, Objects, table, references, text, no_field, number_then, refers_then, no_object}
use Rattle.ipc_format_grammar.specs.flatbuffers.Objects.{object_then}
use Rattle.ipc_format_laws.specs.Spelling.{Spells, SpellsFields, SpellsObjects, SpellsNumber, SpellsReference, SpellsElement, count_of}
use Rattle.ipc_format_laws.specs.Answers.{ElementAnswers}
use Rattle.ipc_format_laws.proofs.Readers.{absent_reads, numbers_read, texts_read, tables_read, each_read}
use Rattle.ipc_format_grammar.specs.columnar_memory.declared.DataType.{DataType}
use Rattle.ipc_format_grammar.specs.columnar_memory.declared.DataType.TheVariants as types
use Rattle.ipc_format_grammar.specs.columnar_memory.declared.IntegerType.{IntegerType}
use Rattle.ipc_format_grammar.specs.columnar_memory.declared.IntegerType.TheVariants as integers
use Rattle.ipc_format_grammar.specs.Types.{Tag, tag_of, integer_in, integer_of}
use Rattle.ipc_format_grammar.specs.Schemas.{IdsList, ids, FieldIn, type_in, field_in, each_of, encoded_by, extended}
use Rattle.ipc_format_grammar.specs.SchemaObjects.{Told, truth, refers_if, metadata_object, written_pairs, id_number, encoding_object}
use Rattle.ipc_format_grammar.specs.SchemaObjects.{integer_object, field_table}
use Rattle.ipc_format_laws.specs.Schemas.{FitsId}
use Rattle.ipc_format_laws.proofs.TypeTables.{int_fields, int_reads, truth_reads}
use Rattle.ipc_format_laws.proofs.MetadataPairs.{joined, metadata_reads}

-- ---- dictionaries

abbrev pub encode : Option (IntegerType × Bool) → DataType → DataType
encode None data_type = data_type
encode (Some (key, is_ordered)) data_type = types.Dictionary key data_type is_ordered

abbrev pub extend : Option (List ℕ × Option (List ℕ)) → DataType → DataType
extend None data_type = data_type
extend (Some (name, metadata)) data_type = types.Extension name data_type metadata

-- the id that is read: without an id beside it, 0
abbrev pub id_read : Option (IntegerType × Bool) → Option ℤ → Option ℤ
id_read None id = None
id_read (Some encoding) None = Some (pos 0)
id_read (Some encoding) (Some id) = Some id

record KeysAnswers (bytes : List ℕ) (found : TablePlace) (key : IntegerType) : Type 0 where
  keys : TablePlace
  table : table_field bytes found 1 ≡ Some (Some keys)
  integer : integer_in bytes keys ≡ Some key

keys_of_bits : (bytes : List ℕ) (found : TablePlace) (key : IntegerType) (bits : ℕ) (is_signed : Bool) → bits < 2 ^ 31
    → integer_of (pos bits) is_signed ≡ Some key
    → SpellsReference bytes found 1 (λ (place : ℕ). Spells bytes place (table (int_fields bits is_signed))) → KeysAnswers bytes found key
keys_of_bits bytes found key bits is_signed small e s =
    let read = tables_read bytes found 1 (int_fields bits is_signed) s in
    record { keys = read.child; table = read.table; integer = int_reads bytes read.child bits is_signed small read.slots ∙ e }

keys_read : (bytes : List ℕ) (found : TablePlace) (key : IntegerType)
    → SpellsReference bytes found 1 (λ (place : ℕ). Spells bytes place (integer_object key)) → KeysAnswers bytes found key
keys_read bytes found integers.Int8 s = keys_of_bits bytes found integers.Int8 8 true (omega arith) refl s
keys_read bytes found integers.Int16 s = keys_of_bits bytes found integers.Int16 16 true (omega arith) refl s
keys_read bytes found integers.Int32 s = keys_of_bits bytes found integers.Int32 32 true (omega arith) refl s
keys_read bytes found integers.Int64 s = keys_of_bits bytes found integers.Int64 64 true (omega arith) refl s
keys_read bytes found integers.UInt8 s = keys_of_bits bytes found integers.UInt8 8 false (omega arith) refl s
keys_read bytes found integers.UInt16 s = keys_of_bits bytes found integers.UInt16 16 false (omega arith) refl s
keys_read bytes found integers.UInt32 s = keys_of_bits bytes found integers.UInt32 32 false (omega arith) refl s
keys_read bytes found integers.UInt64 s = keys_of_bits bytes found integers.UInt64 64 false (omega arith) refl s

record EncodingAnswers (bytes : List ℕ) (found : TablePlace) (dictionary : Option (IntegerType × Bool)) (id : Option ℤ) : Type 0 where
  child : Option TablePlace
  table : table_field bytes found 4 ≡ Some child
  encoded : (data_type : DataType)
      → encoded_by bytes child data_type ≡ Some (record { data_type = encode dictionary data_type; id = id_read dictionary id })

id_reads : (bytes : List ℕ) (found : TablePlace) (encoding : IntegerType × Bool) (id : Option ℤ) → FitsId id
    → SpellsNumber bytes found 0 w64 (id_number id)
    → (number : ℤ) × (signed_field w64 bytes found 0 (pos 0) ≡ Some number) × (id_read (Some encoding) id ≡ Some number)
id_reads bytes found encoding None fit s = (pos 0, (numbers_read bytes found 0 w64 0 s).signed (pos 0), refl)
id_reads bytes found encoding (Some id) fit s = (id, (numbers_read bytes found 0 w64 (cast_unsigned w64 id) s).value (pos 0) id fit refl, refl)

encoding_reads : (bytes : List ℕ) (found : TablePlace) (dictionary : Option (IntegerType × Bool)) (id : Option ℤ) (fields : Fields) → FitsId id
    → SpellsFields bytes found 4 (refers_if (encoding_object dictionary id) fields) → EncodingAnswers bytes found dictionary id
encoding_reads bytes found None id fields fit s = record {
  child = None;
  table = (absent_reads bytes found 4 s.here).table;
  encoded = λ
      (data_type : DataType). refl;
}
encoding_reads bytes found (Some (key, is_ordered)) id fields fit s =
    let read = tables_read bytes found 4 (number_then w64 (id_number id)
    (refers_then (integer_object key) (number_then w8 (truth is_ordered) (number_then w16 0 no_field)))) s.here in
    let its-id = id_reads bytes read.child (key, is_ordered) id fit read.slots.here in
    let its-keys = keys_read bytes read.child key read.slots.rest.here in
    let its-order = truth_reads bytes read.child 2 is_ordered read.slots.rest.rest.here in
    record {
      child = Some read.child;
      table = read.table;
      encoded = λ (data_type : DataType). rw (its-id.1, its-keys.table, its-keys.integer, its-order, its-id.2) refl;
    }

-- ---- types and fields

-- The type that something is told of reads back as one type without its dictionary and extension, and these ids below it. Fields nest
-- so deep below it, and so many tables are visited.
pub record TypeReads (told : Told) (stripped : DataType) (below : IdsList) (deep visits : ℕ) : Type 0 where
  pub tag : Tag
  pub tag_is : tag_of told.tag ≡ Some tag
  pub type_fields : Fields
  pub table_is : told.type_table ≡ table type_fields
  pub reads : (bytes : List ℕ) (levels : ℕ) (field found : TablePlace) (total left : ℕ) → deep ≤ levels → total ≡ visits + left
      → SpellsFields bytes found 0 type_fields → SpellsReference bytes field 5 (λ place. Spells bytes place (references told.children))
      → type_in None (field_in None bytes levels) bytes tag field found total ≡ Some (record { data_type = stripped; below = below }, left)

-- an object reads back as a field
pub record FieldReads (object : Object) (result : FieldIn) (deep visits : ℕ) : Type 0 where
  pub fields : Fields
  pub table_is : object ≡ table fields
  pub reads : (bytes : List ℕ) (levels : ℕ) (found : TablePlace) (total left : ℕ) → deep ≤ levels → total ≡ visits + left
      → SpellsFields bytes found 0 fields → field_in None bytes levels found total ≡ Some (result, left)

-- objects read back as fields
pub record ListReads (objects : Objects) (results : List FieldIn) (deep visits : ℕ) : Type 0 where
  pub reads : (bytes : List ℕ) (levels : ℕ) (vector : Vector) (k total left : ℕ) → deep ≤ levels → total ≡ visits + left
      → SpellsObjects bytes vector k objects → each_of (field_in None bytes levels) bytes vector (count_of objects) k total ≡ Some (results, left)

pub no_fields : ListReads no_object [] 0 0
no_fields = record {
  reads = λ (bytes : List ℕ) (levels : ℕ) (vector : Vector) (k total left : ℕ) below e s. ap (λ (n : ℕ). Some ([], n))
      (omega arith);
}

pub element_reads : (bytes : List ℕ) (vector : Vector) (k : ℕ) (object : Object) (fields : Fields) → object ≡ table fields
    → SpellsElement bytes vector k (λ (place : ℕ). Spells bytes place object) → ElementAnswers bytes vector k fields
element_reads bytes vector k object fields e s =
    each_read bytes vector k fields (subst (λ (o : Object). SpellsElement bytes vector k (λ (place : ℕ). Spells bytes place o)) e s)

pub fields_then : {object : Object} {objects : Objects} {result : FieldIn} {results : List FieldIn} {deep visits deeper others : ℕ}
    → FieldReads object result deep visits → ListReads objects results deeper others
    → ListReads (object_then object objects) (result ∷ results) (max deep deeper) (visits + others)
fields_then {object} {objects} {result} {results} {deep} {visits} {deeper} {others} h more = record {
  reads = λ (bytes : List ℕ) (levels : ℕ) (vector : Vector) (k total left : ℕ) (below : max deep deeper ≤ levels)
      (e : total ≡ visits + others + left) (s : SpellsObjects bytes vector k (object_then object objects)).
      let read = element_reads bytes vector k object h.fields h.table_is s.here in
      let first = h.reads bytes levels read.child total (others + left) (omega arith) (omega arith) read.slots in
      let rest = more.reads bytes levels vector (k + 1) (others + left) left (omega arith) refl s.rest in
      rw (add-one, read.table, first, rest) refl;
}

-- the metadata that is read of a field
abbrev pub read_pairs : Option (List ℕ × Option (List ℕ)) → List (List ℕ × List ℕ) → List (List ℕ × List ℕ)
read_pairs extension pairs = joined [] (written_pairs extension pairs)

abbrev pub field_read : List ℕ → Bool → List (List ℕ × List ℕ) → Told → Option ℤ → DataType → IdsList → FieldIn
field_read name is_nullable pairs told id stripped below = record {
  field = record {
    name = name;
    data_type = encode told.dictionary (extend told.extension stripped);
    is_nullable = is_nullable;
    metadata =
        read_pairs told.extension pairs;
  };
  ids = ids (id_read told.dictionary id) below;
}

abbrev pub field_fields : List ℕ → Bool → List (List ℕ × List ℕ) → Told → Option ℤ → Fields
field_fields name is_nullable pairs told id =
    refers_then (text name) (number_then w8 (truth is_nullable) (number_then w8 told.tag (refers_then told.type_table
    (refers_if (encoding_object told.dictionary id) (refers_then (references told.children)
    (refers_if (metadata_object (written_pairs told.extension pairs)) no_field))))))

-- the slots behind a dictionary's
skip_encoding : (bytes : List ℕ) (found : TablePlace) (slot : ℕ) (object : Option Object) (fields : Fields)
    → SpellsFields bytes found slot (refers_if object fields) → SpellsFields bytes found (slot + 1) fields
skip_encoding bytes found slot None fields s = s.rest
skip_encoding bytes found slot (Some object) fields s = s.rest

field_at_levels : (name : List ℕ) (is_nullable : Bool) (pairs : List (List ℕ × List ℕ)) (told : Told) (id : Option ℤ) (stripped : DataType)
    (below : IdsList) (deep visits : ℕ)
    → FitsId id → extended (read_pairs told.extension pairs) stripped ≡ extend told.extension stripped → TypeReads told stripped below deep visits
    → (bytes : List ℕ) (levels : ℕ) (found : TablePlace) (total left : ℕ) → deep ≤ levels → total ≡ visits + left → SpellsFields bytes found 0
    (field_fields name is_nullable pairs told id)
    → field_in None bytes (suc levels) found (suc total) ≡ Some (field_read name is_nullable pairs told id stripped below, left)
unfolding field_in
field_at_levels name is_nullable pairs told id stripped below deep visits fit-id is-extended h bytes levels found total left enough e s =
    let its-name = texts_read bytes found 0 name s.here in
    let its-truth = truth_reads bytes found 1 is_nullable s.rest.here in
    let its-tag = (numbers_read bytes found 2 w8 told.tag s.rest.rest.here).number 0 in
    let its-table = tables_read bytes found 3 h.type_fields (subst (λ (o : Object). SpellsReference bytes found 3
    (λ (place : ℕ). Spells bytes place o)) h.table_is s.rest.rest.rest.here) in
    let fourth = s.rest.rest.rest.rest in
    let its-encoding = encoding_reads bytes found told.dictionary id
    (refers_then (references told.children) (refers_if (metadata_object (written_pairs told.extension pairs)) no_field)) fit-id fourth in
    let fifth = skip_encoding bytes found 4 (encoding_object told.dictionary id)
    (refers_then (references told.children) (refers_if (metadata_object (written_pairs told.extension pairs)) no_field)) fourth in
    let its-type = h.reads bytes levels found its-table.child total left enough e its-table.slots fifth.here in
    let its-metadata = metadata_reads bytes found 6 (written_pairs told.extension pairs) no_field fifth.rest in
    rw (
      its-name,
      its-truth,
      its-tag,
      h.tag_is,
      its-table.table,
      its-type,
      its-encoding.table,
      its-metadata,
      is-extended,
      its-encoding.encoded
          (extend told.extension stripped),
    ) refl

-- a field reads back where its type does
pub field_reads : (name : List ℕ) (is_nullable : Bool) (pairs : List (List ℕ × List ℕ)) (told : Told) (id : Option ℤ) (stripped : DataType)
    (below : IdsList) (deep visits : ℕ)
    → FitsId id → extended (read_pairs told.extension pairs) stripped ≡ extend told.extension stripped → TypeReads told stripped below deep visits
    → FieldReads (field_table name is_nullable pairs told id) (field_read name is_nullable pairs told id stripped below) (deep + 1) (visits + 1)
field_reads name is_nullable pairs told id stripped below deep visits fit-id is-extended h = record {
  fields = field_fields name is_nullable pairs told id;
  table_is = refl;
  reads = λ (bytes : List ℕ) (levels : ℕ) (found : TablePlace) (total left : ℕ) (enough : deep + 1 ≤ levels) (e : total ≡ visits + 1 + left)
      (s : SpellsFields bytes found 0 (field_fields name is_nullable pairs told id)).
      let levels-is : levels ≡ suc (levels - 1) = omega arith in
      let total-is : total ≡ suc (visits + left) = omega arith in
      let here = field_at_levels name is_nullable pairs told id stripped below deep visits fit-id is-extended h bytes (levels - 1) found
      (visits + left) left (omega arith) refl s in
      ap (λ (l : ℕ). field_in None bytes l found total) levels-is ∙ ap (field_in None bytes (suc (levels - 1)) found) total-is ∙ here;
}
