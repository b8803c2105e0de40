-- The schema messages of a number, of a dictionary and of an extension, by computing.
use Rattle.std.proofs.Common.{◌≡◌, ◌∙◌, [], ◌∷◌, refl, ap, true, false}
use Rattle.std.specs.Prelude.{Some, codes}
use denote.Hole.Carrier
use Rattle.ipc_format.specs.columnar_memory.declared.DataType.TheOpen as layer
use Rattle.ipc_format.specs.columnar_memory.declared.DataType.TheViews.{roll-DataType}
use Rattle.ipc_format.specs.columnar_memory.declared.DataType.TheFolds.{fold-roll-DataType}
use Rattle.ipc_format.specs.columnar_memory.declared.DataType.TheVariants as types
use Rattle.ipc_format.specs.columnar_memory.declared.IntegerType.TheVariants as integers
use Rattle.std.specs.Int.{w8, w16, w64}
use Rattle.ipc_format.specs.flatbuffers.Objects.{Object, laid, table, references, text, no_field, absent_then, number_then, refers_then}
use Rattle.ipc_format.specs.flatbuffers.Objects.{no_object, object_then}
use Rattle.ipc_format.specs.flatbuffers.Laying.{table_piece, references_piece, elements_piece, text_piece, message_bytes}
use Rattle.ipc_format.specs.grammar.Schemas.{Ids, IdsList, no_ids, extension_name_key, extension_metadata_key}
use Rattle.ipc_format.specs.grammar.SchemaObjects.{Told, told_of, told_step, told_field_step, flat, int_object, empty_table, pair_object}
use Rattle.ipc_format.specs.grammar.SchemaObjects.{schema_object, message_object, schema_message}
use Rattle.ipc_format_values_tests.specs.Examples.{x_int32, d_dictionary, id_0, x_extension, x_metadata, d_metadata, x_extension_metadata}

-- how the signed 32-bit number is told
pub told_int32 : told_of types.Int32 ≡ flat 2 (int_object 32 true)
unfolding roll-DataType denote.Hole.Carrier.roll
told_int32 = fold-roll-DataType (IdsList → Told) (Ids → Object) told_step told_field_step layer.Int32

-- the object of the schema message of x
x_object : Object
x_object = table (number_then w16 4 (number_then w8 1 (refers_then
    (table (number_then w16 0 (refers_then (references (object_then
    (table (refers_then (text (120 ∷ [])) (number_then w8 1 (number_then w8 2 (refers_then (int_object 32 true)
    (absent_then (refers_then (references no_object) (absent_then no_field))))))))
    no_object)) (absent_then (absent_then no_field)))))
    (number_then w64 0 (absent_then no_field)))))

x_told : schema_message x_int32 no_ids ≡ x_object
unfolding schema_object x_object
x_told = rw told_int32 refl

x_laid : laid x_object ≡ x_metadata
unfolding laid table_piece references_piece elements_piece text_piece message_bytes x_object
x_laid = refl

-- the schema message of x has these 192 bytes
pub x_bytes : laid (schema_message x_int32 no_ids) ≡ x_metadata
x_bytes = ap laid x_told ∙ x_laid

-- how texts are told
told_utf8 : told_of types.Utf8 ≡ flat 5 empty_table
unfolding roll-DataType denote.Hole.Carrier.roll
told_utf8 = fold-roll-DataType (IdsList → Told) (Ids → Object) told_step told_field_step layer.Utf8

-- how a dictionary of texts is told
told_dictionary : told_of (types.Dictionary integers.Int32 types.Utf8 false)
    ≡ (λ below. record (flat 5 empty_table below) { dictionary = Some (integers.Int32, false) })
unfolding roll-DataType denote.Hole.Carrier.roll
told_dictionary = fold-roll-DataType (IdsList → Told) (Ids → Object) told_step told_field_step (layer.Dictionary integers.Int32 types.Utf8 false)
    ∙ ap {B = IdsList → Told} (λ (told : IdsList → Told) (below : IdsList). record (told below) { dictionary = Some (integers.Int32, false) })
    told_utf8

-- how an extension is told
told_extension : told_of (types.Extension (codes "e") types.Int32 (Some (codes "m")))
    ≡ (λ below. record (flat 2 (int_object 32 true) below) { extension = Some (codes "e", Some (codes "m")) })
unfolding roll-DataType denote.Hole.Carrier.roll
told_extension =
    fold-roll-DataType (IdsList → Told) (Ids → Object) told_step told_field_step (layer.Extension (codes "e") types.Int32 (Some (codes "m")))
    ∙ ap {B = IdsList → Told} (λ (told : IdsList → Told) (below : IdsList). record (told below) { extension = Some (codes "e", Some (codes "m")) })
    told_int32

-- the object of the schema message of d
d_object : Object
d_object = message_object 1 (table (number_then w16 0 (refers_then (references (object_then
    (table (refers_then (text (codes "d")) (number_then w8 0 (number_then w8 5 (refers_then empty_table
    (refers_then (table (number_then w64 0 (refers_then (int_object 32 true) (number_then w8 0 (number_then w16 0 no_field)))))
    (refers_then (references no_object) (absent_then no_field))))))))
    no_object)) (absent_then (absent_then no_field))))) 0

d_told : schema_message d_dictionary id_0 ≡ d_object
unfolding schema_object d_object
d_told = rw told_dictionary refl

d_laid : laid d_object ≡ d_metadata
unfolding laid table_piece references_piece elements_piece text_piece message_bytes d_object
d_laid = refl

-- the schema message of d has these 248 bytes
pub d_bytes : laid (schema_message d_dictionary id_0) ≡ d_metadata
d_bytes = ap laid d_told ∙ d_laid

-- the object of the schema message of an extension: its metadata, its name, and then the pair a = 1
abbrev pub x_extension_object : Object
x_extension_object = message_object 1 (table (number_then w16 0 (refers_then (references (object_then
    (table (refers_then (text (codes "x")) (number_then w8 1 (number_then w8 2 (refers_then (int_object 32 true)
    (absent_then (refers_then (references no_object) (refers_then (references
    (object_then (pair_object (extension_metadata_key, codes "m")) (object_then (pair_object (extension_name_key, codes "e"))
    (object_then (pair_object (codes "a", codes "1")) no_object)))) no_field))))))))
    no_object)) (absent_then (absent_then no_field))))) 0

x_extension_told : schema_message x_extension no_ids ≡ x_extension_object
unfolding schema_object
x_extension_told = rw told_extension refl

x_extension_laid : laid x_extension_object ≡ x_extension_metadata
unfolding laid table_piece references_piece elements_piece text_piece message_bytes
x_extension_laid = refl

-- the schema message of the extension has these bytes
pub x_extension_bytes : laid (schema_message x_extension no_ids) ≡ x_extension_metadata
x_extension_bytes = ap laid x_extension_told ∙ x_extension_laid

pub ruleset metadata_bytes = (x_bytes, d_bytes, x_extension_bytes)
