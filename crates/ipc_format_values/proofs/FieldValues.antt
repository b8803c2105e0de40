-- The value of a field and of some fields.
use Rattle.std.proofs.Common.{◌≡◌, ◌∙◌, ℕ, ◌+◌, ◌≤◌, ◌<◌, List, [], ◌∷◌, ◌++◌, length, get_or, map, drop, refl, sym, ap}
use Rattle.std.proofs.lemmas.List.{map-append}
use Rattle.std.specs.Prelude.{ℤ, Bool, Option}
use Rattle.std.specs.Int.{w8, w16}
use Rattle.ipc_format_writing.specs.columnar_memory.declared.Field as columns
use Rattle.ipc_format_writing.specs.columnar_memory.declared.Schema as columns_of
use Rattle.ipc_format_writing.specs.grammar.Columns.{first_ids, other_ids}
use Rattle.ipc_format_writing.specs.flatbuffers.Objects.{Object, Objects, table, references, text, no_field, absent_then, number_then, refers_then}
use Rattle.ipc_format_writing.specs.flatbuffers.Objects.{no_object, object_then}
use Rattle.ipc_format_writing.proofs.flatbuffers_lemmas.Rest.{rest_step, rest_end}
use Rattle.ipc_format_writing.specs.grammar.Schemas.{Ids, IdsList, ids, no_ids, ids_then}
use Rattle.ipc_format_writing.specs.grammar.SchemaObjects as objects
use Rattle.ipc_format_writing.specs.grammar.SchemaObjects.{told_of, field_table, field_object, objects_of, schema_object, encoding_object, metadata_object}
use Rattle.ipc_format_writing.specs.grammar.SchemaObjects.{written_pairs, refers_if, truth}
use Rattle.ipc_format_writing.specs.messages.declared.Endianness.TheVariants.{Little}
use Rattle.ipc_format_writing.specs.Pieces.{Pair, field_told}
use Rattle.ipc_format_writing.proofs.FieldTables.{told_is}
use Rattle.ipc_format_values.specs.declared.fields.Field.{Field}
use Rattle.ipc_format_values.specs.declared.fields.Field.TheOpen as layer
use Rattle.ipc_format_values.specs.declared.fields.Field.TheFolds.{fold-roll-Field}
use Rattle.ipc_format_values.specs.declared.fields.Field.TheViews.{roll-Field}
use Rattle.ipc_format_values.specs.declared.fields.Schema.{Schema}
use Rattle.ipc_format_values.specs.ValueObjects.{type_tag, type_value, encoding_value, pair_view, objects_before, objects_list}
use Rattle.ipc_format_values.specs.ValueObjects.{field_over, field_step, field_value, order_number, schema_value}

-- ---- a field

value_is : (f : layer.Field-F Field) → field_value (roll-Field f)
    ≡ field_over f.name f.nullable f.type_ f.dictionary (objects_list (map field_value f.children)) f.custom_metadata
value_is f = fold-roll-Field Object field_step f

-- a field's value is its table, where its parts are
pub field_made : (f : layer.Field-F Field) (name : List ℕ) (nullable : Bool) (pairs : List Pair) (told : objects.Told) (own : Option ℤ)
    → f.name ≡ name → f.nullable ≡ nullable → type_tag f.type_ ≡ told.tag → type_value f.type_ ≡ told.type_table
    → encoding_value f.dictionary ≡ encoding_object told.dictionary own → objects_list (map field_value f.children) ≡ told.children
    → map pair_view f.custom_metadata ≡ written_pairs told.extension pairs
    → field_value (roll-Field f) ≡ field_table name nullable pairs told own
field_made f name nullable pairs told own n b tag type_table encoding children metadata =
    value_is f ∙ (λ i. table (refers_then (text (n i)) (number_then w8 (truth (b i)) (number_then w8 (tag i) (refers_then (type_table i)
    (refers_if (encoding i) (refers_then (references (children i)) (refers_if (metadata_object (metadata i)) no_field))))))))

-- a field over its type is the field that is told
pub field_over_type : (made : Field) (field : columns.Field) (told : objects.Told) (own : Option ℤ) (below : IdsList)
    → told ≡ told_of field.data_type below → field_value made ≡ field_table field.name field.is_nullable field.metadata told own
    → field_value made ≡ field_told field (ids own below)
field_over_type made field told own below given same =
    same ∙ ap (λ told. field_table field.name field.is_nullable field.metadata told own) given ∙ sym (λ i. told_is field i (ids own below))

-- ---- some fields

first_is : (field : Ids → Object) (fields : List (Ids → Object)) (below : IdsList)
    → objects_of (field ∷ fields) below ≡ object_then (field (first_ids below)) (objects_of fields (other_ids below))
first_is field fields no_ids = refl
first_is field fields (ids_then first others) = refl

before_more : (xs : List Object) (x : Object) (others : Objects) → objects_before xs (object_then x others) ≡ objects_before (xs ++ x ∷ []) others
before_more [] x others = refl
before_more (y ∷ xs) x others = ap (object_then y) (before_more xs x others)

-- the value of a single field
pub single_made : (new : List Field) (one : Field) (field : Ids → Object) (below : IdsList) (here : Ids) → here ≡ first_ids below
    → new ≡ one ∷ [] → field_value one ≡ field here → objects_list (map field_value new) ≡ objects_of (field ∷ []) below
single_made new one field below here first push same =
    ap (λ new. objects_list (map field_value new)) push ∙ ap (λ o. object_then o no_object) (same ∙ ap field first)
    ∙ sym (first_is field [] below)

left_is : (fields : List columns.Field) (i : ℕ) (field : columns.Field) (below : IdsList) → i < length fields → field ≡ get_or fields i field
    → objects_of (drop i (map field_told fields)) below
    ≡ object_then (field_told field (first_ids below)) (objects_of (drop (i + 1) (map field_told fields)) (other_ids below))
left_is fields i field below lt is =
    ap (λ left. objects_of left below) (rest_step field_told fields i field lt is)
    ∙ first_is (field_told field) (drop (i + 1) (map field_told fields)) below

pub fields_more : (made new : List Field) (one : Field) (fields : List columns.Field) (i : ℕ) (field : columns.Field) (rest others : IdsList)
    (here : Ids) (whole : Objects)
    → i < length fields → field ≡ get_or fields i field → here ≡ first_ids rest → others ≡ other_ids rest → new ≡ made ++ one ∷ []
    → field_value one ≡ field_told field here
    → objects_before (map field_value made) (objects_of (drop i (map field_told fields)) rest) ≡ whole
    → objects_before (map field_value new) (objects_of (drop (i + 1) (map field_told fields)) others) ≡ whole
fields_more made new one fields i field rest others here whole lt is first other push same before =
    let left : IdsList → Objects = λ below. objects_of (drop (i + 1) (map field_told fields)) below in
    ap (λ new. objects_before (map field_value new) (left others)) push
    ∙ ap (λ views. objects_before views (left others)) (map-append field_value made (one ∷ []))
    ∙ sym (before_more (map field_value made) (field_value one) (left others))
    ∙ ap (λ o. objects_before (map field_value made) (object_then o (left others))) (same ∙ ap (field_told field) first)
    ∙ ap (λ below. objects_before (map field_value made) (object_then (field_told field (first_ids rest)) (left below))) other
    ∙ ap (objects_before (map field_value made)) (sym (left_is fields i field rest lt is)) ∙ before

pub fields_done : (made : List Field) (fields : List columns.Field) (i : ℕ) (rest : IdsList) (whole : Objects) → length fields ≤ i
    → objects_before (map field_value made) (objects_of (drop i (map field_told fields)) rest) ≡ whole
    → objects_list (map field_value made) ≡ whole
fields_done made fields i rest whole le before =
    ap (λ left. objects_before (map field_value made) (objects_of left rest)) (sym (rest_end field_told fields i le)) ∙ before

-- ---- a schema

told_are : (fields : List columns.Field) → map field_told fields ≡ map field_object fields
told_are [] = refl
told_are (f ∷ fields) = λ i. told_is f i ∷ told_are fields i

pub schema_made : (value : Schema) (schema : columns_of.Schema) (below : IdsList) → value.endianness ≡ Little
    → objects_list (map field_value value.fields) ≡ objects_of (map field_told schema.fields) below
    → map pair_view value.custom_metadata ≡ schema.metadata → schema_value value ≡ schema_object schema below
unfolding schema_object
schema_made value schema below little fields metadata =
    let children : objects_list (map field_value value.fields) ≡ objects_of (map field_object schema.fields) below =
    fields ∙ ap (λ told. objects_of told below) (told_are schema.fields) in
    λ i. table (number_then w16 (order_number (little i)) (refers_then (references (children i))
    (refers_if (metadata_object (metadata i)) (absent_then no_field))))
