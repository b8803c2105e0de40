-- The message of a schema reads back.
use Rattle.std.proofs.Common.{◌≡◌, ℕ, ◌-◌, ◌≤◌, pos, true, ◌&&◌, List, [], ◌∷◌, length, map, refl, ap, subst, ◌∙◌, length-append, arith}
use Rattle.std.specs.Prelude.{Option, Some, None, nat_le}
use Rattle.std.specs.List.{list_all}
use Rattle.std.specs.Int.{w16}
use Rattle.std.proofs.lemmas.Bool.{leb-true}
use Rattle.std.proofs.lemmas.List.{map-id}
use denote.Hole.Carrier
use Rattle.ipc_format_grammar.specs.flatbuffers.FlatBuffers.{TablePlace}
use Rattle.ipc_format_grammar.specs.flatbuffers.Laying.{Piece, message_bytes}
use Rattle.ipc_format_grammar.specs.flatbuffers.Objects.{Object, Fields, Objects, table, references, no_field, absent_then, number_then, refers_then}
use Rattle.ipc_format_grammar.specs.flatbuffers.Objects.{piece_of, laid}
use Rattle.ipc_format_laws.specs.Spelling.{SpellsFields}
use Rattle.ipc_format_laws.specs.Theorem.{Fits, FitsObjects, FitsTable}
use Rattle.ipc_format_laws.proofs.Readers.{references_read}
use Rattle.ipc_format_laws.proofs.Objects.{laid_reads_back}
use Rattle.ipc_format_grammar.specs.columnar_memory.declared.DataType.{DataType}
use Rattle.ipc_format_grammar.specs.columnar_memory.declared.DataType.TheViews.{roll-DataType}
use Rattle.ipc_format_grammar.specs.columnar_memory.declared.DataType.TheFolds.{fold-roll-Field}
use Rattle.ipc_format_grammar.specs.columnar_memory.declared.Field.{Field}
use Rattle.ipc_format_grammar.specs.columnar_memory.declared.Schema.{Schema}
use Rattle.ipc_format_grammar.specs.Messages as grammar
use Rattle.ipc_format_grammar.specs.Messages.{message_in}
use Rattle.ipc_format_grammar.specs.Schemas.{Ids, IdsList, ids, any_schema_in}
use Rattle.ipc_format_grammar.specs.SchemaGrammar.{schema_in}
use Rattle.ipc_format_grammar.specs.SchemaObjects.{Told, told_of, told_step, told_field_step, field_object, objects_of, refers_if, metadata_object}
use Rattle.ipc_format_grammar.specs.SchemaObjects.{message_object, schema_object, schema_message}
use Rattle.ipc_format_grammar.specs.Writable.{Report, report_of, report_step, field_step, reports_of, deepest, is_writable, normalised}
use Rattle.ipc_format_grammar.specs.Writable.{normalised_step, normalised_field}
use Rattle.ipc_format_laws.specs.BatchMessages.{IsMessage}
use Rattle.ipc_format_laws.specs.Schemas.{are_true, has_texts, are_texts, is_ascending, each_ids, ids_of_field, FitIdsList, IsSchema}
use Rattle.ipc_format_laws.specs.Schemas.{ids_read, SchemasReadBack, TablesSchemasReadBack}
use Rattle.ipc_format_laws.proofs.TypeTables.{short_reads}
use Rattle.ipc_format_laws.proofs.MetadataPairs.{metadata_reads}
use Rattle.ipc_format_laws.proofs.Ordered.{joined_in_order}
use Rattle.ipc_format_laws.proofs.SchemaParts.{tables_among, few_tables, refers_fit, metadata_fits, both}
use Rattle.ipc_format_laws.proofs.NestedSteps.{ChildrenBack, children_back}
use Rattle.ipc_format_grammar.proofs.NormalReports.{normal_field, report_field, writable_normal}
use Rattle.ipc_format_laws.proofs.Inductions.{told_field, field_holds}
use Rattle.ipc_format_laws.proofs.BatchMessages.{MessageAnswers, message_reads, message_fits}

-- ---- what is told of a field is its object, and so on

told_step_is : (f : Field) (i : Ids)
    → told_field_step (record {
      name = f.name;
      data_type = told_of f.data_type;
      is_nullable = f.is_nullable;
      metadata =
          f.metadata;
    }) i ≡ field_object f i
told_step_is f (ids id below) = refl

told_is : (f : Field) → told_field f ≡ field_object f
unfolding roll-DataType denote.Hole.Carrier.roll
told_is f = fold-roll-Field (IdsList → Told) (Ids → Object) told_step told_field_step
    (record { name = f.name; data_type = f.data_type; is_nullable = f.is_nullable; metadata = f.metadata }) ∙ (λ j. λ i. told_step_is f i j)

normal_is : (f : Field) → normal_field f ≡ normalised_field f
unfolding roll-DataType denote.Hole.Carrier.roll
normal_is f = fold-roll-Field DataType Field roll-DataType normalised_step
    (record { name = f.name; data_type = f.data_type; is_nullable = f.is_nullable; metadata = f.metadata })

report_is : (f : Field) → report_field f ≡ report_of f.data_type
unfolding roll-DataType denote.Hole.Carrier.roll
report_is f = fold-roll-Field Report Report report_step field_step (record
    { name = f.name; data_type = f.data_type; is_nullable = f.is_nullable; metadata = f.metadata })

map-same : {A B : Type 0} (f g : A → B) → ((x : A) → f x ≡ g x) → (xs : List A) → map f xs ≡ map g xs
map-same f g h [] = refl
map-same f g h (x ∷ xs) = λ i. h x i ∷ map-same f g h xs i

-- the fields of a schema
pub fields_back : (fields : List Field) (below : IdsList) → list_all (λ (child : Report). child.is_allowed) (reports_of fields) ≡ true
    → are_true (map has_texts fields) ≡ true → FitIdsList below
    → ChildrenBack (objects_of (map field_object fields) below) (map normalised_field fields) (reports_of fields)
    (each_ids (map ids_of_field fields) below)
fields_back fields below allowed texts fit =
    let reports-are : map report_field fields ≡ reports_of fields = map-same report_field (λ (f : Field). report_of f.data_type) report_is fields in
    let told-are : map told_field fields ≡ map field_object fields = map-same told_field field_object told_is fields in
    let normal-are : map normal_field fields ≡ map normalised_field fields = map-same normal_field normalised_field normal_is fields in
    let itself : map (λ (f : Field). f) fields ≡ fields = map-id fields in
    let is-allowed : list_all (λ (child : Report). child.is_allowed) (map report_field (map (λ (f : Field). f) fields)) ≡ true = ap
    (λ (fs : List Field). list_all (λ (child : Report). child.is_allowed) (map report_field fs)) itself ∙ ap
    (list_all (λ (child : Report). child.is_allowed)) reports-are ∙ allowed in
    let are-texts : are_true (map has_texts (map (λ (f : Field). f) fields)) ≡ true = ap (λ (fs : List Field). are_true (map has_texts fs)) itself
    ∙ texts in
    let first = children_back
    (λ (f : Field). f) told_field normal_field report_field ids_of_field has_texts field_holds fields below is-allowed are-texts fit in
    let second = subst (λ (fs : List Field). ChildrenBack (objects_of (map told_field fs) below) (map normal_field fs) (map report_field fs)
    (each_ids (map ids_of_field fs) below)) itself first in
    let third = subst (λ (told : List (Ids → Object)). ChildrenBack (objects_of told below) (map normal_field fields) (map report_field fields)
    (each_ids (map ids_of_field fields) below)) told-are second in
    let fourth = subst (λ (normals : List Field). ChildrenBack (objects_of (map field_object fields) below) normals (map report_field fields)
    (each_ids (map ids_of_field fields) below)) normal-are third in
    subst (λ (reports : List Report). ChildrenBack (objects_of (map field_object fields) below) (map normalised_field fields) reports
    (each_ids (map ids_of_field fields) below)) reports-are fourth

-- ---- the schema's table

abbrev pub schema_fields : Schema → IdsList → Fields
schema_fields schema below = number_then w16 0 (refers_then (references (objects_of (map field_object schema.fields) below))
    (refers_if (metadata_object schema.metadata) (absent_then no_field)))

-- a schema that is asked for is allowed, nests at most 64 deep
pub record Asked (schema : Schema) : Type 0 where
  pub allowed : list_all (λ (child : Report). child.is_allowed) (reports_of schema.fields) ≡ true
  pub shallow : deepest (reports_of schema.fields) ≤ 64

pub asked : (schema : Schema) → is_writable schema ≡ true → Asked schema
unfolding is_writable
asked schema e =
    let first = both (list_all (λ (child : Report). child.is_allowed) (reports_of schema.fields) && nat_le
    (deepest (reports_of schema.fields)) 64) _ e in
    let second = both (list_all (λ (child : Report). child.is_allowed) (reports_of schema.fields))
    (nat_le (deepest (reports_of schema.fields)) 64) first.0 in
    record { allowed = second.0; shallow = leb-true (deepest (reports_of schema.fields)) 64 second.1 }

pub schema_reads : (bytes : List ℕ) (found : TablePlace) (schema : Schema) (below : IdsList)
    (h : ChildrenBack (objects_of (map field_object schema.fields) below) (map normalised_field schema.fields) (reports_of schema.fields)
    (ids_read schema below))
    → deepest (reports_of schema.fields) ≤ 64 → h.visits ≤ length bytes → is_writable (normalised schema) ≡ true
    → is_ascending schema.metadata ≡ true → SpellsFields bytes found 0 (schema_fields schema below)
    → IsSchema bytes (normalised schema) (ids_read schema below) found
unfolding schema_in any_schema_in normalised
schema_reads bytes found schema below h shallow few writable ordered s =
    let number = short_reads bytes found 0 0 (pos 0) (omega arith) s.here in
    let vector = references_read bytes found 1 (objects_of (map field_object schema.fields) below) s.rest.here in
    let left = length bytes - h.visits in
    let each = h.reads.reads bytes 64 vector.child 0 (length bytes) left shallow (omega arith) vector.each in
    let metadata = metadata_reads bytes found 2 schema.metadata (absent_then no_field) s.rest.rest in
    rw (number, vector.vector, vector.count_is, each, metadata, joined_in_order schema.metadata ordered, h.fields_are, h.ids_are, writable) refl

-- ---- what is laid

schema_small : (objects : Objects) (metadata : Option Object)
    → FitsTable (number_then w16 0 (refers_then (references objects) (refers_if metadata (absent_then no_field))))
schema_small objects None = record { vtable_size = omega arith; table_size = omega arith }
schema_small objects (Some object) = record { vtable_size = omega arith; table_size = omega arith }

pub schema_fits : (schema : Schema) (below : IdsList) → FitsObjects (objects_of (map field_object schema.fields) below)
    → are_texts schema.metadata ≡ true → Fits (table (schema_fields schema below))
schema_fits schema below fits texts = record {
  here = schema_small (objects_of (map field_object schema.fields) below) (metadata_object schema.metadata);
  rest = record {
    here = omega arith;
    rest = record {
      here = fits;
      rest = refers_fit (metadata_object schema.metadata) (absent_then no_field)
          (metadata_fits schema.metadata texts) tt;
    };
  };
}

pub message_longer : (piece : Piece) → length piece.bytes ≤ length (message_bytes piece)
unfolding message_bytes
message_longer piece = omega (arith, length-append {A = ℕ})

-- a schema's message has more bytes than fields
few_fields : (objects : Objects) (metadata : Option Object)
    → tables_among objects ≤ length (laid (message_object 1 (table (number_then w16 0
    (refers_then (references objects) (refers_if metadata (absent_then no_field))))) 0))
unfolding laid
few_fields objects metadata =
    let object = message_object 1 (table (number_then w16 0 (refers_then (references objects) (refers_if metadata (absent_then no_field))))) 0 in
    omega (arith, few_tables object, message_longer (piece_of object))

schema_message_is : (bytes : List ℕ) (header : Fields) (IsHeader : TablePlace → Type 0) (m : MessageAnswers bytes 1 header 0) → IsHeader m.header_at
    → IsMessage bytes grammar.schema 0 IsHeader
unfolding message_in
schema_message_is bytes header IsHeader m h = record {
  header_at = m.header_at;
  version = m.version;
  message = rw (m.root_is, m.tag_is, m.header_is) refl;
  header = h;
}

pub schemas_read_back : SchemasReadBack
unfolding schema_object
schemas_read_back schema below writable has fit short =
    let ask = asked schema writable in
    let writable-too : is_writable (normalised schema) ≡ true = writable_normal schema ∙ writable in
    let h = fields_back schema.fields below ask.allowed has.fields fit in
    let objects = objects_of (map field_object schema.fields) below in
    let header = schema_fields schema below in
    let object = message_object 1 (table header) 0 in
    let fits = message_fits 1 (table header) 0 (omega arith) (schema_fits schema below h.fit has.texts) (omega arith) in
    let few : h.visits ≤ length (laid object) = omega (arith, h.few, few_fields objects (metadata_object schema.metadata)) in
    let read = message_reads (laid object) 1 header 0 (omega arith) (laid_reads_back object fits short) in
    schema_message_is (laid object) header (IsSchema (laid object) (normalised schema) (ids_read schema below)) read
    (schema_reads (laid object) read.header_at schema below h ask.shallow few writable-too has.ascending read.slots)

pub tables_schemas_read_back : TablesSchemasReadBack
tables_schemas_read_back schema below writable normal has fit short =
    let bytes = laid (schema_message schema below) in
    subst (λ (s : Schema). IsMessage bytes grammar.schema 0 (IsSchema bytes s (ids_read schema below))) normal
    (schemas_read_back schema below writable has fit short)
