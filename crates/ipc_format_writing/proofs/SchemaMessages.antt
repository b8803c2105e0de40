-- The message of a schema, as it is laid.
use Rattle.std.proofs.Common.{◌≡◌, ◌∙◌, ℕ, ◌+◌, ◌≤◌, ◌<◌, List, [], ◌∷◌, ◌++◌, length, map, replicate, true, false, refl, sym, ap, subst, arith}
use Rattle.std.proofs.Common.{rules, length-append}
use Rattle.std.specs.Prelude.{Bool, ◌&&◌, Option, Result, Ok, Err, MatchResult, nat_le}
use Rattle.std.specs.declared.vec.Vec.{Vec}
use Rattle.std.specs.declared.alloc.Global.{Global}
use Rattle.std.specs.List.{list_all}
use Rattle.std.specs.Int.{w8, w16, w32, w64, to_le_bytes}
use Rattle.std.proofs.lemmas.Bool.{and_parts}
use Rattle.ipc_format_messages.specs.columnar_memory.declared.DataType.TheFolds.{fold-roll-Field}
use Rattle.ipc_format_messages.specs.columnar_memory.declared.Field.{Field}
use Rattle.ipc_format_messages.specs.columnar_memory.declared.Schema.{Schema}
use Rattle.ipc_format_messages.specs.columnar_memory.declared.Error.{Error}
use Rattle.ipc_format_messages.specs.columnar_memory.declared.Error.TheVariants.{NotYetImplemented, InvalidArgumentError, Overflow, OutOfMemory}
use Rattle.ipc_format_messages.specs.flatbuffers.declared.Laid.{Laid}
use Rattle.ipc_format_messages.specs.flatbuffers.declared.LayError.{LayError}
use Rattle.ipc_format_messages.specs.flatbuffers.declared.LayError.TheVariants.{Memory, TooLong}
use Rattle.ipc_format_messages.specs.flatbuffers.Laying.{Piece, TableSlot, absent, number, refers, table_piece, message_bytes}
use Rattle.ipc_format_messages.specs.flatbuffers.Objects.{Object, piece_of, references, absent_then, no_field, laid}
use Rattle.ipc_format_messages.specs.flatbuffers.Views.{Lays}
use Rattle.ipc_format_messages.specs.grammar.Schemas.{Ids, IdsList}
use Rattle.ipc_format_messages.specs.grammar.SchemaObjects.{field_object, objects_of, metadata_object, schema_object, schema_message}
use Rattle.ipc_format_messages.specs.grammar.Writable.{Report, report_of, reports_of, report_step, field_step, is_writable}
use Rattle.ipc_format_messages.specs.metadata.Reports.{field_report}
use Rattle.ipc_format_messages.specs.grammar.WrittenMessages.{schema_written, fits_limit}
use Rattle.ipc_format_writing.specs.Pieces.{LaysIf, piece_if, slot_if, field_told}
use Rattle.ipc_format_writing.specs.Writing.{WritesSchema, RefusesSchema, IsEndRefusal, IsRefusalOf, may_write}
use Rattle.ipc_format_writing.proofs.Sizes.{table_over, lays_over}
use Rattle.ipc_format_writing.proofs.TypeTables.{slot_is, if_over}
use Rattle.ipc_format_writing.proofs.FieldTables.{told_is}

-- ---- which fields are laid

report_is : (f : Field) → field_report f ≡ report_of f.data_type
report_is f = fold-roll-Field Report Report report_step field_step
    (record { name = f.name; data_type = f.data_type; is_nullable = f.is_nullable; metadata = f.metadata })

reports_are : (fields : List Field) → map field_report fields ≡ reports_of fields
reports_are [] = refl
reports_are (f ∷ fields) = λ i. report_is f i ∷ reports_are fields i

-- each type of a schema that is written is allowed
pub all_allowed : (schema : Schema) → is_writable schema ≡ true → list_all (λ (report : Report). report.is_allowed) (map field_report
    schema.fields) ≡ true
unfolding is_writable
all_allowed schema h =
    let first = (and_parts _ _ h).0 in
    let allowed : list_all (λ (report : Report). report.is_allowed) (reports_of schema.fields) ≡ true = (and_parts _ _ first).0 in
    ap (list_all (λ (report : Report). report.is_allowed)) (reports_are schema.fields) ∙ allowed

-- ---- the Schema table

told_are : (fields : List Field) → map field_told fields ≡ map field_object fields
told_are [] = refl
told_are (f ∷ fields) = λ i. told_is f i ∷ told_are fields i

-- the vector of a schema's fields
abbrev pub fields_piece : Schema → IdsList → Piece
fields_piece schema below = piece_of (references (objects_of (map field_told schema.fields) below))

abbrev pub schema_slots : Schema → Piece → List TableSlot
schema_slots schema fields = number w16 0 ∷ refers fields ∷ slot_if (piece_if (metadata_object schema.metadata)) ∷ absent ∷ []

schema_is : (schema : Schema) (below : IdsList) → piece_of (schema_object schema below) ≡ table_piece (schema_slots schema (fields_piece schema
    below))
unfolding schema_object
schema_is schema below =
    ap (λ slots. table_piece (number w16 0 ∷ refers (piece_of (references (objects_of (map field_object schema.fields) below)))
    ∷ slots)) (slot_is (metadata_object schema.metadata) (absent_then no_field))
    ∙ ap (λ (fields : List (Ids → Object)). table_piece (schema_slots schema (piece_of (references (objects_of fields below))))) (sym (told_are
    schema.fields))

pub fields_refused : (error : LayError) (schema : Schema) (below : IdsList) → Lays (Err error) (fields_piece schema below)
    → Lays (Err error) (piece_of (schema_object schema below))
fields_refused error schema below h =
    let fields : Piece = fields_piece schema below in
    let P : Piece → Type 0 = λ p. Lays (Err error) p in
    subst P (sym (schema_is schema below)) (lays_over error fields (table_piece (schema_slots schema fields)) (table_over (schema_slots schema
    fields) 1 (refers fields) refl) h)

pub metadata_refused : (error : LayError) (schema : Schema) (below : IdsList) → LaysIf (Err error) (piece_if (metadata_object schema.metadata))
    → Lays (Err error) (piece_of (schema_object schema below))
metadata_refused error schema below h =
    let slots : List TableSlot = schema_slots schema (fields_piece schema below) in
    let metadata : Option Piece = piece_if (metadata_object schema.metadata) in
    let P : Piece → Type 0 = λ p. Lays (Err error) p in
    subst P (sym (schema_is schema below)) (if_over error metadata (table_piece slots) (table_over slots 2 (slot_if metadata) refl) h)

pub schema_made : (result : Result Laid LayError) (schema : Schema) (below : IdsList) (fields : Piece) (metadata : Option Piece) → fields
    ≡ fields_piece schema below → metadata ≡ piece_if (metadata_object schema.metadata)
    → Lays result (table_piece (number w16 0 ∷ refers fields ∷ slot_if metadata ∷ absent ∷ [])) → Lays result (piece_of (schema_object schema below))
schema_made result schema below fields metadata same too h =
    let P : Piece → Type 0 = λ p. Lays result p in
    let parts : table_piece (number w16 0 ∷ refers fields ∷ slot_if metadata ∷ absent ∷ [])
    ≡ table_piece (schema_slots schema (fields_piece schema below)) =
    ap (λ (p : Piece). table_piece (number w16 0 ∷ refers p ∷ slot_if metadata ∷ absent ∷ [])) same
    ∙ ap (λ (m : Option Piece). table_piece (number w16 0 ∷ refers (fields_piece schema below) ∷ slot_if m ∷ absent ∷ [])) too in
    subst P (parts ∙ sym (schema_is schema below)) h

pub header_refused : (error : LayError) (schema : Schema) (below : IdsList) → Lays (Err error) (piece_of (schema_object schema below))
    → Lays (Err error) (piece_of (schema_message schema below))
header_refused error schema below h =
    let header : Piece = piece_of (schema_object schema below) in
    let slots : List TableSlot = number w16 4 ∷ number w8 1 ∷ refers header ∷ number w64 0 ∷ absent ∷ [] in
    lays_over error header (table_piece slots) (table_over slots 2 (refers header) refl) h

-- ---- the message's bytes

length_is : (root : Piece) → length (message_bytes root) ≡ 8 + length root.bytes
unfolding message_bytes
length_is root =
    let head : List ℕ = to_le_bytes w32 (8 + root.entry) ++ replicate 4 0 in
    let eight : length head ≡ 8 = refl in
    omega (arith, eight, length-append head root.bytes)

fits_is : (schema : Schema) (below : IdsList) → fits_limit (schema_written schema below) ≡ nat_le (8 + (8 + length (piece_of (schema_message
    schema below)).bytes)) 2147483640
unfolding schema_written laid
fits_is schema below = ap (λ count. nat_le (8 + count) 2147483640) (length_is (piece_of (schema_message schema below)))

pub fits_true : (schema : Schema) (below : IdsList) (root : Piece) → root ≡ piece_of (schema_message schema below)
    → length root.bytes ≤ 2147483624 → fits_limit (schema_written schema below) ≡ true
fits_true schema below root same le =
    let count : length (piece_of (schema_message schema below)).bytes ≤ 2147483624 = omega (arith, ap (λ (p : Piece). length p.bytes) same, le) in
    let short : 8 + (8 + length (piece_of (schema_message schema below)).bytes) ≤ 2147483640 = omega (arith, count) in
    fits_is schema below ∙ search (rules, short)

pub fits_false : (schema : Schema) (below : IdsList) → 2147483624 < length (piece_of (schema_message schema below)).bytes
    → fits_limit (schema_written schema below) ≡ false
fits_false schema below lt =
    let long : 2147483640 < 8 + (8 + length (piece_of (schema_message schema below)).bytes) = omega (arith, lt) in
    fits_is schema below ∙ search (rules, long)

pub metadata_is : (schema : Schema) (below : IdsList) (root : Piece) (bytes : List ℕ) → root ≡ piece_of (schema_message schema below) → bytes
    ≡ message_bytes root
    → bytes ≡ (schema_written schema below).metadata
unfolding schema_written laid
metadata_is schema below root bytes same e = e ∙ ap message_bytes same

pub both_true : (a b : Bool) → a ≡ true → b ≡ true → (a && b) ≡ true
both_true a b p q = rw (p, q) refl

-- what is refused of a schema is not written
pub schema_refused : (error : Error) (schema : Schema) (below : IdsList) → RefusesSchema error schema below → WritesSchema (Err error) schema below
schema_refused (NotYetImplemented what) schema below h = h
schema_refused (InvalidArgumentError what) schema below h = h
schema_refused error schema below h = absurd h

pub end_refused : (error : Error) (schema : Schema) (below : IdsList) (root : Piece) → may_write schema below ≡ true → root
    ≡ piece_of (schema_message schema below)
    → IsEndRefusal error (length root.bytes) → WritesSchema (Err error) schema below
end_refused Overflow schema below root may same h = (may, fits_false schema below (omega (arith, ap (λ (p : Piece). length p.bytes) same, h)))
end_refused OutOfMemory schema below root may same h = tt
end_refused error schema below root may same h = absurd h

pub lay_refused : (error : LayError) (made : Error) (schema : Schema) (below : IdsList) → may_write schema below ≡ true
    → Lays (Err error) (piece_of (schema_message schema below))
    → IsRefusalOf error made → WritesSchema (Err made) schema below
lay_refused TooLong Overflow schema below may h is = (may, fits_false schema below (omega (arith, h)))
lay_refused Memory OutOfMemory schema below may h is = tt
lay_refused TooLong made schema below may h is = absurd is
lay_refused Memory made schema below may h is = absurd is

pub root_answer : (result : Result (Vec ℕ Global) Error) (schema : Schema) (below : IdsList) (root : Piece) → may_write schema below ≡ true
    → root ≡ piece_of (schema_message schema below)
    → MatchResult result (λ v. (v.items ≡ message_bytes root) × (length root.bytes ≤ 2147483624)) (λ e. IsEndRefusal e (length root.bytes))
    → WritesSchema result schema below
root_answer (Ok v) schema below root may same h = (may, fits_true schema below root same h.1, metadata_is schema below root v.items same h.0)
root_answer (Err e) schema below root may same h = end_refused e schema below root may same h
